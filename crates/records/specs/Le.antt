-- Numbers as bytes, "little-endian": the least byte first.
use Rattle.std.specs.Prelude.{List, [], ◌∷◌, ℕ, zero, suc, ◌+◌, ◌*◌, ◌/◌, ◌%◌, take, drop}

-- the k bytes of n
unfoldable pub le : ℕ → ℕ → List ℕ
le zero n = []
le (suc k) n = n % 256 ∷ le k (n / 256)

-- the number that bytes stand for
unfoldable pub unle : List ℕ → ℕ
unle [] = 0
unle (b ∷ bs) = b + 256 * unle bs

-- the number that the k bytes from place i on stand for
abbrev pub number_at : ℕ → ℕ → List ℕ → ℕ
number_at i k s = unle (take k (drop i s))
