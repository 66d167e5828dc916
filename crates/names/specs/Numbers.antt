-- Numbers in names, as Rust's `parse` reads them: a plus may stand before at least one decimal digit, and leading zeros are free.
-- The value is exact, of any size, so that no overflow needs a case: a number that is too large is out of range. A minus, which
-- `parse::<i32>` takes, is left out: a note in octave -0 or below has a key number of at most 24, and is no key. (Where the sum
-- overflows 32 bits the release build wraps: "F1073741827" and "F-1073741821" are 14 there, and none here.)
use Rattle.std.specs.Prelude.{ℕ, ◌+◌, ◌-◌, ◌*◌, Bool, ◌&&◌, cond, List, [], ◌∷◌, eqb, ltb, leb, length, get_or, drop, Option, None, Some, option_and_then}
use Prim.Native.Char.{code}
use Rattle.names.specs.Words.{starts_with}

abbrev pub is_digit : ℕ → Bool
is_digit b = leb (code "0") b && leb b (code "9")

-- digits to the end, after digits that are worth v
unfoldable pub digits_after : ℕ → List ℕ → Option ℕ
digits_after v [] = Some v
digits_after v (b ∷ s) = cond (is_digit b) (digits_after (v * 10 + (b - code "0")) s) None

unfoldable pub digits : List ℕ → Option ℕ
digits [] = None
digits (b ∷ s) = digits_after 0 (b ∷ s)

unfoldable pub number_of : List ℕ → Option ℕ
number_of s = cond (eqb (get_or s 0 0) (code "+")) (digits (drop 1 s)) (digits s)

-- `count` things have the numbers from 0 and the ids from `first`
abbrev pub among : ℕ → ℕ → ℕ → Option ℕ
among count first k = cond (ltb k count) (Some (first + k)) None

-- a prefix, then the number of one of `count` things
unfoldable pub numbered : List ℕ → ℕ → ℕ → List ℕ → Option ℕ
numbered prefix count first n =
    cond (starts_with n prefix) (option_and_then (among count first) (number_of (drop (length prefix) n))) None
