-- Digits, by places of a word: what a loop over them has found.
use Rattle.std.specs.Prelude.{Some, None, is_none, unwrap_or}
use mathlib.Core.Path.{◌≡◌, refl}
use mathlib.Core.Bool.{Bool, true, false, ◌&&◌, cond}
use mathlib.Core.List.{List, [], ◌∷◌}
use Prim.Native.Nat.{ℕ, suc, ◌+◌, ◌*◌, ◌^◌, ◌≤◌, ◌<◌}
use native.Mathlib.Numerals.{add-one}
use native.Mathlib.Nat.{pow-suc, pow-le-pow_right}
use native.Mathlib.Omega.{arith}
use borrow.Author.Tests.{le-leb, lt-leb, lt-ltb, le-ltb, ltb-true, ltb-false}
use lib.Dec.{ltb}
use lib.ListN.{length, get_or, drop, drop_of_length-le}
use lib.Seq.{drop-cons}
use Rattle.base.proofs.Flags.{both}
use Rattle.text.specs.Numerals.{digit_of, digit_in, all_digits, value_after, value_of, decimal_in, hex_in}

-- what a byte is where it is a digit, and where it is none
pub digit-is : (base b d : ℕ) → Some d ≡ digit_in base b → (digit_of b ≡ d) × (d < base)
digit-is base b d = go (ltb (digit_of b) base) refl
  where
    go : (t : Bool) → ltb (digit_of b) base ≡ t → Some d ≡ cond t (Some (digit_of b)) None → (digit_of b ≡ d) × (d < base)
    go true q e = let same : digit_of b ≡ d = cc in (same, rw (← same) (ltb-true (digit_of b) base q))
    go false q e = cc

pub no_digit : (base b : ℕ) → None ≡ digit_in base b → base ≤ digit_of b
no_digit base b = go (ltb (digit_of b) base) refl
  where
    go : (t : Bool) → ltb (digit_of b) base ≡ t → None ≡ cond t (Some (digit_of b)) None → base ≤ digit_of b
    go true q e = cc
    go false q e = ltb-false (digit_of b) base q

pub none-digit : (base b : ℕ) → is_none (digit_in base b) ≡ true → base ≤ digit_of b
none-digit base b = go (ltb (digit_of b) base) refl
  where
    go : (t : Bool) → ltb (digit_of b) base ≡ t → is_none (cond t (Some (digit_of b)) None) ≡ true → base ≤ digit_of b
    go true q e = cc
    go false q e = ltb-false (digit_of b) base q

pub some-digit : (base b : ℕ) → is_none (digit_in base b) ≡ false → digit_of b < base
some-digit base b = go (ltb (digit_of b) base) refl
  where
    go : (t : Bool) → ltb (digit_of b) base ≡ t → is_none (cond t (Some (digit_of b)) None) ≡ false → digit_of b < base
    go true q e = ltb-true (digit_of b) base q
    go false q e = cc

pub digit-or : (base b : ℕ) → digit_of b < base → unwrap_or (digit_in base b) 0 ≡ digit_of b
digit-or base b h = rw (lt-ltb (digit_of b) base h)

module _ (base : ℕ) (s : List ℕ) (i : ℕ) where
  module _ (h : i < length s) where
    -- a byte that is no digit
    pub digits-stop : base ≤ digit_of (get_or s i 0) → all_digits base (drop i s) ≡ false
    unfolding all_digits
    digits-stop e = rw (drop-cons s i 0 h, le-ltb _ _ e)

    -- a turn
    pub digits_more : digit_of (get_or s i 0) < base → all_digits base (drop i s) ≡ all_digits base (drop (i + 1) s)
    unfolding all_digits
    digits_more e = rw (drop-cons s i 0 h, lt-ltb _ _ e, add-one i)

    pub value-more : (v : ℕ) → value_after base v (drop i s) ≡ value_after base (v * base + digit_of (get_or s i 0)) (drop (i + 1) s)
    unfolding value_after
    value-more v = rw (drop-cons s i 0 h, add-one i)

    -- where all that is left are digits, the next is one
    pub digit-next : all_digits base (drop i s) ≡ true → (digit_of (get_or s i 0) < base) × (all_digits base (drop (i + 1) s) ≡ true)
    unfolding all_digits
    digit-next e =
        let p = both (ltb (digit_of (get_or s i 0)) base) (all_digits base (drop (suc i) s)) (rw (drop-cons s i 0 h) at e) in
        (ltb-true _ _ p.0, rw (add-one i) p.1)

  -- the end
  pub digits-done : length s ≤ i → all_digits base (drop i s) ≡ true
  unfolding all_digits
  digits-done h = rw (drop_of_length-le s h)

  pub value-done : (v : ℕ) → length s ≤ i → value_after base v (drop i s) ≡ v
  unfolding value_after
  value-done v h = rw (drop_of_length-le s h)

-- more digits never make a value less
pub value_grows : (v : ℕ) (s : List ℕ) → v ≤ value_after 10 v s
unfolding value_after
value_grows v [] = omega arith
value_grows v (b ∷ s) = omega (arith, value_grows (v * 10 + digit_of b) s)

-- a digit with which the value does not fit: no digits behind it can make it fit
pub overflows :
    (s : List ℕ) (i n : ℕ) →
    i < length s →
    2 ^ 64 ≤ n * 10 + digit_of (get_or s i 0) →
    2 ^ 64 ≤ value_after 10 n (drop i s)
overflows s i n h l =
    rw (value-more 10 s i h n) (omega (arith, value_grows (n * 10 + digit_of (get_or s i 0)) (drop (i + 1) s)))

module _ (s : List ℕ) where
  pub none-decimal : length s ≡ 0 → None ≡ decimal_in s
  unfolding decimal_in
  none-decimal e = rw (le-ltb 0 (length s) (omega arith))

  pub none-hex : (most : ℕ) → length s ≡ 0 → None ≡ hex_in most s
  unfolding hex_in
  none-hex most e = rw (le-ltb 0 (length s) (omega arith))

  module _ (h : 0 < length s) where
    pub not-decimal : all_digits 10 s ≡ false → None ≡ decimal_in s
    unfolding decimal_in
    not-decimal e = rw (lt-ltb 0 (length s) h, e)

    pub too_large : 2 ^ 64 ≤ value_of 10 s → None ≡ decimal_in s
    unfolding decimal_in
    too_large e = rw (lt-ltb 0 (length s) h, le-ltb (value_of 10 s) (2 ^ 64) e) (go (all_digits 10 s))
      where
        go : (t : Bool) → None ≡ cond (t && false) (Some (value_of 10 s)) None
        go true = refl
        go false = refl

    pub is-decimal : all_digits 10 s ≡ true → value_of 10 s < 2 ^ 64 → Some (value_of 10 s) ≡ decimal_in s
    unfolding decimal_in
    is-decimal e l = rw (lt-ltb 0 (length s) h, e, lt-ltb (value_of 10 s) (2 ^ 64) l)

    module _ (most : ℕ) where
      pub too_many : most < length s → None ≡ hex_in most s
      unfolding hex_in
      too_many e = rw (lt-ltb 0 (length s) h, lt-leb (length s) most e)

      module _ (m : length s ≤ most) where
        pub too-many-for-64 : 16 < length s → None ≡ hex_in most s
        unfolding hex_in
        too-many-for-64 e = rw (lt-ltb 0 (length s) h, le-leb (length s) most m, lt-leb (length s) 16 e)

        module _ (l : length s ≤ 16) where
          pub not-hex : all_digits 16 s ≡ false → None ≡ hex_in most s
          unfolding hex_in
          not-hex e = rw (lt-ltb 0 (length s) h, le-leb (length s) most m, le-leb (length s) 16 l, e)

          pub is-hex : all_digits 16 s ≡ true → Some (value_of 16 s) ≡ hex_in most s
          unfolding hex_in
          is-hex e = rw (lt-ltb 0 (length s) h, le-leb (length s) most m, le-leb (length s) 16 l, e)

-- i hex digits are worth less than 16 ^ i, and so sixteen fit 64 bits
pub hex-fits : (i n d : ℕ) → n < 16 ^ i → d < 16 → i < 16 → (n * 16 + d < 16 ^ (i + 1)) × (n * 16 + d < 2 ^ 64)
hex-fits i n d h g k =
    let turn : n * 16 + d < 16 ^ (i + 1) = rw (add-one i, pow-suc 16 i) (omega arith) in
    let short : i + 1 ≤ 16 = omega arith in
    let positive : 0 < 16 = omega arith in
    let all : 16 ^ (i + 1) ≤ 16 ^ 16 = pow-le-pow_right positive short in
    (turn, omega arith)
