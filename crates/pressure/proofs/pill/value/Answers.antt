use Rattle.std.proofs.Common.{◌≡◌, ℕ, ◌+◌, ◌*◌, ◌≤◌, Bool, true, false, T, sym, ap, ◌∙◌, subst, ap₂, le_of_lt, lit≤}
use lib.Ieee.{Float, binary32, fits, to_bits, le}
use Rattle.pressure.specs.Pin.{ohms_of}
use Rattle.pressure.specs.Value.{open_up_to, at_most_one, factor_of, fraction, pressed}
use Rattle.pressure.proofs.Law.{Handed, handed, value-up-to, value_on}
use Rattle.pressure.proofs.Range.{cubed-max}
use Rattle.pressure.proofs.Steps.{factor-small}
use Rattle.pressure.proofs.pill.value.Goals as goal

-- what the test says of `open_up_to`
tested : (f r o : Float) (t : Bool) → o ≡ open_up_to r → le f o ≡ t → le f (open_up_to r) ≡ t
tested f r o t e h = subst (λ (z : Float). le f z ≡ t) e h

-- what the working is handed
here : (f r o g : Float) → fits binary32 f ≡ true → o ≡ open_up_to r → le f o ≡ false → g ≡ at_most_one f → Handed g
here f r o g w e h k = subst Handed (sym k) (handed r f (subst T (sym w) tt) (tested f r o false e h))

pub returns-then-f-open_up_to : goal.returns-then-f-open_up_to
returns-then-f-open_up_to c = record {
  value = sym (value-up-to 153 c.args.ohms c.args.f (tested c.args.f c.args.ohms c.open_up_to.result true c.open_up_to.ensures c.if-f-open_up_to.true));
  bounded = lit≤ tt;
}

pub cube-requires : goal.cube-requires
cube-requires c =
    let h = here c.args.f c.args.ohms c.open_up_to.result c.at_most_one-b.result c.well_formed.0.1 c.open_up_to.ensures c.if-f-open_up_to.false c.at_most_one-b.ensures in
    (h.lower, h.upper)

pub factor-requires : goal.factor-requires
factor-requires c =
    let h = here c.args.f c.args.ohms c.open_up_to.result c.at_most_one-b.result c.well_formed.0.1 c.open_up_to.ensures c.if-f-open_up_to.false c.at_most_one-b.ensures in
    (h.lower, h.upper)

pub divided-requires : goal.divided-requires
unfolding factor_of
divided-requires c =
    let b = to_bits binary32 c.at_most_one-b.result in
    let h = here c.args.f c.args.ohms c.open_up_to.result c.at_most_one-b.result c.well_formed.0.1 c.open_up_to.ensures c.if-f-open_up_to.false c.at_most_one-b.ensures in (
      subst (λ (z : ℕ). z ≤ 16777216) (sym c.cube.ensures) (cubed-max b h.lower h.upper),
      subst (λ (z : ℕ). z ≤ 36000) (sym c.factor.ensures) (factor-small b h.lower h.upper),
      c.requires.most,
    )

pub returns : goal.returns
returns c =
    let w = value_on 153 c.args.ohms c.args.f (tested c.args.f c.args.ohms c.open_up_to.result false c.open_up_to.ensures c.if-f-open_up_to.false) in
    let d =
    c.divided.ensures.value
    ∙ ap₂ (λ (x y : ℕ). 47616 + fraction (ohms_of c.args.ohms * (x * y))) c.cube.ensures c.factor.ensures
    ∙ ap (λ (g : Float). pressed 153 (ohms_of c.args.ohms) (to_bits binary32 g)) c.at_most_one-b.ensures in
    record { value = d ∙ sym w; bounded = le_of_lt c.divided.ensures.bounded }
