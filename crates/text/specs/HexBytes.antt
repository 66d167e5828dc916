-- Bytes written as pairs of hex digits.
use Rattle.std.specs.Prelude.{ℕ, ◌+◌, ◌*◌, ◌%◌, Bool, ◌&&◌, ◌||◌, cond, List, [], ◌∷◌, ◌++◌, eqb, ltb, leb, length, get_or, drop, Option, Some, None}
use Prim.Native.Char.{code}
use Rattle.text.specs.Numerals.{digit_of, all_digits}

-- "the word `-` alone stands for no bytes"
abbrev pub is_dash : List ℕ → Bool
is_dash s = eqb (length s) 1 && eqb (get_or s 0 0) (code "-")

-- one or more pairs of hex digits
abbrev pub is_pairs : List ℕ → Bool
is_pairs s = ltb 0 (length s) && eqb (length s % 2) 0 && all_digits 16 s

-- the bytes of pairs; a byte with no other makes no pair, so that `-` is none
unfoldable pub pairs : List ℕ → List ℕ
pairs [] = []
pairs (b ∷ []) = []
pairs (high ∷ low ∷ s) = (digit_of high * 16 + digit_of low) ∷ pairs s

-- the word stands for bytes, and they fit
abbrev pub is_unhexed : List ℕ → List ℕ → Bool
is_unhexed s out = (is_dash s || is_pairs s) && leb (length (pairs s)) (length out)

unfoldable pub unhexed_answer : List ℕ → List ℕ → Option ℕ
unhexed_answer s out = cond (is_unhexed s out) (Some (length (pairs s))) None

-- the bytes at the front of `out`, which stays as it was where the answer is None
unfoldable pub unhexed_bytes : List ℕ → List ℕ → List ℕ
unhexed_bytes s out = cond (is_unhexed s out) (pairs s ++ drop (length (pairs s)) out) out
