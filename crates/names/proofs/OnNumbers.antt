-- What a loop over a number's digits has found.
use mathlib.Core.Path.{◌≡◌, refl}
use mathlib.Core.Bool.{Bool, true, false, cond}
use mathlib.Core.List.{List, [], ◌∷◌}
use Rattle.std.specs.Prelude.{None, Some, option_and_then}
use Prim.Native.Nat.{ℕ, ◌+◌, ◌-◌, ◌*◌, ◌≤◌, ◌<◌}
use native.Mathlib.Numerals.{add-one}
use native.Mathlib.Omega.{arith}
use borrow.Author.Tests.{le-leb, le-ltb, ltb-true, ltb-false}
use lib.Dec.{ltb, eqb}
use lib.ListN.{length, get_or, drop, drop_of_length-le}
use lib.Seq.{drop-cons}
use Rattle.std.proofs.lemmas.List.{nil_from_length}
use Rattle.names.specs.Ascii.{uppers}
use Rattle.names.proofs.OnBytes.{uppers_length, byte_inside}
use Rattle.names.proofs.OnAnswers.{picked-some, picked_none}
use Rattle.std.specs.Char.{to_ascii_uppercase, IsAsciiDigit, IsNotAsciiDigit}
use Rattle.std.proofs.lemmas.Bool.Decides.{nat_tests}
use Rattle.names.specs.Numbers.{is_digit, digits_after, digits, number_of, among}

-- a byte and what it is in upper case: only digits are digits there, and they stay
pub no_digit : (b : ℕ) → IsNotAsciiDigit b → is_digit (to_ascii_uppercase b) ≡ false
no_digit b h = grind (arith, nat_tests)

pub digit_stays : (b : ℕ) → IsAsciiDigit b → to_ascii_uppercase b ≡ b
digit_stays b h = grind (arith, nat_tests)

pub is_digit_lem : (b : ℕ) → 48 ≤ b → b ≤ 57 → is_digit b ≡ true
is_digit_lem b l h = rw (le-leb 48 b l, le-leb b 57 h)

-- a value that has reached the count stays out of range, whatever follows
pub out_of_range : (count first v : ℕ) (s : List ℕ) → count ≤ v → option_and_then (among count first) (digits_after v s) ≡ None
unfolding digits_after
out_of_range count first v [] h = rw (le-ltb v count h)
out_of_range count first v (b ∷ s) h = go (is_digit b) (out_of_range count first (v * 10 + (b - 48)) s (omega arith))
  where
    go : (t : Bool) → option_and_then (among count first) (digits_after (v * 10 + (b - 48)) s) ≡ None
        → option_and_then (among count first) (cond t (digits_after (v * 10 + (b - 48)) s) None) ≡ None
    go true e = e
    go false e = refl

module _ (name : List ℕ) where
  pub no_digits : length name ≡ 0 → digits (uppers name) ≡ None
  unfolding digits uppers
  no_digits e = rw (nil_from_length name e)

  -- the loop begins
  pub digits_begin : (length name ≡ 0 → ⊥) → digits (uppers name) ≡ digits_after 0 (uppers name)
  unfolding digits uppers
  digits_begin h = rw (drop-cons name 0 0 (omega arith))

  module _ (i v : ℕ) where
    -- the loop ends
    pub digits_end : length name ≤ i → digits_after v (drop i (uppers name)) ≡ Some v
    unfolding digits_after
    digits_end h = rw (drop_of_length-le (uppers name) {i = i} (rw uppers_length h))

    module _ (h : i < length name) where
      pub digits_break : IsNotAsciiDigit (get_or name i 0) → digits_after v (drop i (uppers name)) ≡ None
      unfolding digits_after
      digits_break e = rw (drop-cons (uppers name) i 0 (rw uppers_length h), ← byte_inside name i, no_digit (get_or name i 0) e)

      -- a turn
      pub digits_go_on : IsAsciiDigit (get_or name i 0)
          → digits_after v (drop i (uppers name)) ≡ digits_after (v * 10 + (get_or name i 0 - 48)) (drop (i + 1) (uppers name))
      unfolding digits_after
      digits_go_on e =
          rw (
            drop-cons (uppers name) i 0 (rw uppers_length h),
            ← byte_inside name i,
            digit_stays (get_or name i 0) e,
            is_digit_lem (get_or name i 0) e.0 e.1,
            add-one,
          )

-- a plus, and none
pub no_plus : (b : ℕ) → (b ≡ 43 → ⊥) → eqb (to_ascii_uppercase b) 43 ≡ false
no_plus b h = grind (arith, nat_tests)

pub no_number : (name : List ℕ) → length name ≡ 0 → number_of (uppers name) ≡ None
unfolding number_of digits uppers
no_number name e = rw (nil_from_length name e)

pub number_of_plus : (b : ℕ) (name : List ℕ) → b ≡ 43 → number_of (uppers (b ∷ name)) ≡ digits (uppers name)
unfolding number_of uppers
number_of_plus b name e = rw e

pub number_of_digits : (b : ℕ) (name : List ℕ) → (b ≡ 43 → ⊥) → number_of (uppers (b ∷ name)) ≡ digits (uppers (b ∷ name))
unfolding number_of uppers
number_of_digits b name h = rw (no_plus b h)

module _ (count first k : ℕ) where
  pub in-range : {i : ℕ} → among count first k ≡ Some i → (k < count) × (first + k ≡ i)
  in-range {i} e =
      let p : (ltb k count ≡ true) × (first + k ≡ i) = picked-some (ltb k count) (first + k) e in
      (ltb-true k count p.0, p.1)

  pub not-in-range : among count first k ≡ None → count ≤ k
  not-in-range e = ltb-false k count (picked_none (ltb k count) (first + k) e)
