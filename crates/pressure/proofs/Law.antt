-- What is known of `value_of`: it is within 1/4 of E for every force above 0.001, 1023 at or below it, and else 1023 only up to `open_up_to`.
use Rattle.std.proofs.Common.{◌≡◌, ℕ, ◌+◌, ◌*◌, ◌<◌, ◌≤◌, Bool, true, false, cond, not, T, ◌⊎◌, negsuc, sym, refl, ap, ◌∙◌, subst, inl, inr, le_trans, le_of_eq, le_of_lt, one-mul, arith}
use lib.Ieee.{Float, fin, binary32, of_bits, to_bits, fits, is_nan, le}
use lib.Ieee.Bits.{is_true}
use lib.Ieee.Fits.{and_r, cond-fits}
use lib.Ieee.Positive.{num, den, den_pos, positive, own_value, value_pos, between, le→cross, le_trans_positive}
use Rattle.pressure.specs.Exact.{WithinQuarter}
use Rattle.pressure.specs.Facts.{Force}
use Rattle.pressure.specs.Force.{zero32, one32}
use Rattle.pressure.specs.Pin.{ohms51, ohms132, ohms312, Ohms, ohms_of}
use Rattle.pressure.specs.Value.{limit, open_key, open_to51, open_to132, open_to312, open_up_to, at_most_one, factor_of, cubed, pressed, value_of, value-is}
use Rattle.pressure.proofs.Order.{one, over, le_up}
use Rattle.pressure.proofs.Near.{near, near-open}
use Rattle.pressure.proofs.Quotient.{fraction-max}
use Rattle.pressure.proofs.Range.{limit_is, no_nan, pattern-lo, pattern-hi}
use Rattle.pressure.proofs.Stays.{one-is}

-- ---- up to which force the value is 1023: from 0.001, and at most 1/128
abbrev small : Float
small = fin false 1 (negsuc 6)

pub record Between (c : Float) : Type 0 where
  pub some : T (positive c)
  pub from : T (le limit c)
  pub to : T (le c small)

pub open-between : (r : Float) → Between (open_up_to r)
unfolding of_bits le
open-between r = go (le r ohms51) (le r ohms132) (le r ohms312)
  where
    go : (a b c : Bool) → Between (cond a open_to51 (cond b open_to132 (cond c open_to312 limit)))
    go true b c = record { some = tt; from = tt; to = tt }
    go false true c = record { some = tt; from = tt; to = tt }
    go false false true = record { some = tt; from = tt; to = tt }
    go false false false = record { some = tt; from = tt; to = tt }

limit-pos : T (positive limit)
limit-pos = subst (λ (z : Float). T (positive z)) (sym limit_is) tt

to_one : (f : Float) → T (le f one32) → T (le f one)
to_one f = subst (λ (z : Float). T (le f z)) one-is

-- what is at most 1 and above a c from 0.001 on, is from 0.001 on
from-limit : (f c : Float) → T (positive c) → T (le limit c) → T (le f one) → le f c ≡ false → T (le limit f)
from-limit f c p h l g =
    let k = over f c p l g in
    le_trans_positive limit c f limit-pos p (between c f one p tt k l) h k

-- ---- what the working is handed: f brought to 1
module _ (r f : Float) (h : le f (open_up_to r) ≡ false) where
  one_left : T (le limit one32) × T (le one32 one)
  unfolding of_bits le
  one_left = (tt, tt)

  both_ends : T (le limit (at_most_one f)) × T (le (at_most_one f) one)
  both_ends = go (le f one32) refl
    where
      go : (t : Bool) → le f one32 ≡ t → T (le limit (cond t f one32)) × T (le (cond t f one32) one)
      go true e =
          let o = open-between r in
          let l = to_one f (subst T (sym e) tt) in
          (from-limit f (open_up_to r) o.some o.from l h, l)
      go false e = one_left

one-fits : T (fits binary32 one32)
unfolding of_bits fits
one-fits = tt

most-fits : (f : Float) → T (fits binary32 f) → T (fits binary32 (at_most_one f))
most-fits f F = cond-fits binary32 (le f one32) f one32 F one-fits

-- a number, with a pattern from 2^-10's to 1's
pub record Handed (g : Float) : Type 0 where
  pub number : T (not (is_nan g))
  pub lower : 981467136 ≤ to_bits binary32 g
  pub upper : to_bits binary32 g ≤ 1065353216

pub handed : (r f : Float) → T (fits binary32 f) → le f (open_up_to r) ≡ false → Handed (at_most_one f)
handed r f F h =
    let g = at_most_one f in
    let e = both_ends r f h in
    let k = most-fits f F in
    record {
      number = no_nan g k e.0 e.1;
      lower = pattern-lo g k e.0 e.1;
      upper = pattern-hi g k e.0 e.1;
    }

-- ---- the laws
module _ (x : ℕ) (r f : Float) where
  pub value-up-to : le f (open_up_to r) ≡ true → value_of x r f ≡ open_key
  value-up-to h = value-is x r f ∙ rw h

  pub value_on : le f (open_up_to r) ≡ false → value_of x r f ≡ pressed x (ohms_of r) (to_bits binary32 (at_most_one f))
  value_on h = value-is x r f ∙ rw h

  -- "at or below it the value is 1023"
  pub value-open : T (le f limit) → value_of x r f ≡ open_key
  value-open h =
      let o = open-between r in
      value-up-to (is_true (le f (open_up_to r)) (le_up f limit (open_up_to r) limit-pos o.some o.from h))

  -- above `open_up_to` it is below 1023
  pub value-below : le f (open_up_to r) ≡ false → value_of x r f < open_key
  value-below h =
      let b = to_bits binary32 (at_most_one f) in
      subst (λ (v : ℕ). v < open_key) (sym (value_on h)) (add (fraction-max (ohms_of r * (cubed b * factor_of x b))))
    where
      add : {w : ℕ} → w < 214272 → 47616 + w < 261888
      add l = omega arith

  pub value-most : value_of x r f ≤ open_key
  value-most = go (le f (open_up_to r)) refl
    where
      go : (t : Bool) → le f (open_up_to r) ≡ t → value_of x r f ≤ open_key
      go true e = le_of_eq (value-up-to e)
      go false e = le_of_lt (value-below e)

-- "The value before noise lies within 1/4 of E", for every force above 0.001 and both exponents
pub value-near : (x : ℕ) → (x ≡ 150) ⊎ (x ≡ 153) → (r f : Float) → Ohms r → Force f → le f limit ≡ false → WithinQuarter x (ohms_of r) f (value_of x r f)
value-near x two r f o k h = subst (λ (v : ℕ). WithinQuarter x (ohms_of r) f v) (sym (value-is x r f)) (go (le f (open_up_to r)) refl)
  where
    up_to : T (le f one32)
    up_to = and_r (le zero32 f) (le f one32) k.force

    l : T (le f one)
    l = to_one f up_to

    on : T (le limit f)
    on = over f limit limit-pos l h

    some : T (positive f)
    some = between limit f one limit-pos tt on l

    tail : (e : ℕ) → (e ≡ 150) ⊎ (e ≡ 153) → (y : ℕ) × (150 + y ≡ e)
    tail e (inl q) = (0, sym q)
    tail e (inr q) = (3, sym q)

    open_at : T (le f (open_up_to r)) → WithinQuarter x (ohms_of r) f open_key
    open_at t =
        let c = open-between r in
        let s = le→cross f small some tt (le_up f (open_up_to r) small c.some tt c.to t) in
        let n = value_pos f (num f) (den f) some (den_pos f) (own_value f some) in
        let y = tail x two in
        subst (λ (z : ℕ). WithinQuarter z (ohms_of r) f open_key) y.1 (near-open y.0 (ohms_of r) f o.some o.most n (le_trans s (le_of_eq (one-mul (den f)))))

    go : (t : Bool) → le f (open_up_to r) ≡ t → WithinQuarter x (ohms_of r) f (cond t open_key (pressed x (ohms_of r) (to_bits binary32 (at_most_one f))))
    go true e = open_at (subst T (sym e) tt)
    go false e =
        let same : at_most_one f ≡ f = ap (λ (t : Bool). cond t f one32) (is_true (le f one32) up_to) in
        subst (λ (g : Float). WithinQuarter x (ohms_of r) f (pressed x (ohms_of r) (to_bits binary32 g))) (sym same) (near f k.held on l (ohms_of r) o.some o.most x two)
