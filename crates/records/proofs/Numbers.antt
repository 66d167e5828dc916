-- Numbers and their bytes, least first: read in two halves, written and read back.
use mathlib.Core.Path.{◌≡◌, refl}
use mathlib.Core.List.{List, [], ◌∷◌, ◌++◌}
use Prim.Native.Nat.{ℕ, zero, suc, ◌+◌, ◌*◌, ◌/◌, ◌%◌, ◌^◌, ◌≤◌, ◌<◌}
use native.Mathlib.Nat.{pow-succ', zero-add, suc-add, mul_assoc}
use native.Mathlib.Omega.{arith}
use lib.ListN.{length, get_or, take, drop, length-drop}
use lib.Seq.{length-take-le, take-add, drop-drop, drop-cons}
use lib.Dec.{lit<}
use Rattle.std.proofs.Common.{add-one}
use Rattle.records.specs.Le.{le, unle, number_at}
use Rattle.records.specs.Values.{AreBytes}

pub unle-append : (x y : List ℕ) → unle (x ++ y) ≡ unle x + 256 ^ length x * unle y
unfolding unle
unle-append [] y = omega arith
unle-append (b ∷ x) y = rw (unle-append x y, pow-succ', mul_assoc) (omega arith)

-- the number in some bytes by the first of them; j is the place behind it
pub number-next : (i j k : ℕ) (s : List ℕ) → j ≡ i + 1 → i < length s → number_at i (suc k) s ≡ get_or s i 0 + 256 * number_at j k s
unfolding unle
number-next i j k s e h = rw (e, drop-cons s i 0 h, add-one)

-- the number in one byte is the byte
pub number-byte : (i : ℕ) (s : List ℕ) → i < length s → number_at i 1 s ≡ get_or s i 0
unfolding unle
number-byte i s h = rw (drop-cons s i 0 h) (omega arith)

-- two numbers as one: the bytes of the first, then those of the second
pub le_join : (j k a b : ℕ) → a < 256 ^ j → le (j + k) (a + 256 ^ j * b) ≡ le j a ++ le k b
unfolding le
le_join zero k a b h =
    let e : a + 256 ^ 0 * b ≡ b = omega arith in
    rw (zero-add, e)
le_join (suc j) k a b h =
    let up : 256 ^ suc j * b ≡ 256 * (256 ^ j * b) = rw (pow-succ', mul_assoc) in
    let low : (a + 256 ^ suc j * b) % 256 ≡ a % 256 = omega arith in
    let high : (a + 256 ^ suc j * b) / 256 ≡ a / 256 + 256 ^ j * b = omega arith in
    rw (suc-add, low, high, le_join j k (a / 256) b (omega (arith, pow-succ' 256 j)))

-- written, then read
pub unle-le : (k n : ℕ) → n < 256 ^ k → unle (le k n) ≡ n
unfolding le unle
unle-le zero n h = omega arith
unle-le (suc k) n h = rw (unle-le k (n / 256) (omega (arith, pow-succ' 256 k))) (omega arith)

-- read, then written
pub le-unle : (s : List ℕ) → AreBytes s → le (length s) (unle s) ≡ s
unfolding le unle
le-unle [] h = refl
le-unle (b ∷ s) h =
    let byte : b < 256 = h 0 in
    let low : (b + 256 * unle s) % 256 ≡ b = omega arith in
    let high : (b + 256 * unle s) / 256 ≡ unle s = omega arith in
    rw (low, high, le-unle s (λ i. h (suc i)))

bytes_take : (k : ℕ) (s : List ℕ) → AreBytes s → AreBytes (take k s)
bytes_take zero s h i = lit< tt
bytes_take (suc k) [] h i = lit< tt
bytes_take (suc k) (x ∷ s) h zero = h 0
bytes_take (suc k) (x ∷ s) h (suc i) = bytes_take k s (λ j. h (suc j)) i

bytes_drop : (k : ℕ) (s : List ℕ) → AreBytes s → AreBytes (drop k s)
bytes_drop zero s h = h
bytes_drop (suc k) [] h = h
bytes_drop (suc k) (x ∷ s) h = bytes_drop k s (λ j. h (suc j))

-- the k bytes at a place
abbrev pub part : ℕ → ℕ → List ℕ → List ℕ
part i k s = take k (drop i s)

pub le-number : (s : List ℕ) → AreBytes s → (i k : ℕ) → i + k ≤ length s → le k (number_at i k s) ≡ part i k s
le-number s b i k h =
    let long : k ≤ length (drop i s) = simp length-drop (omega arith) in
    rw (length-take-le k (drop i s) long) at (le-unle (part i k s) (bytes_take k (drop i s) (bytes_drop i s b)))

pub part_join : (i j k : ℕ) (s : List ℕ) → part i j s ++ part (i + j) k s ≡ part i (j + k) s
part_join i j k s = rw (take-add j k (drop i s), drop-drop j i s)
