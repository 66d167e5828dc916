use Rattle.std.proofs.Common.{◌≡◌, ◌≤◌, T, true, sym, subst, arith, rules, eq-eqb, ne_eqb, le-leb}
use borrow.Author.Tests.{lt-leb}
use Rattle.pressure.proofs.Stays.{ramp-stays}
use Rattle.pressure.specs.Force.{ramp_at, along, f32, is_force}
use lib.Ieee.{Float, binary32, div, fits}
use Rattle.pressure.proofs.ramp.Ramp.at.Goals as goal

pub returns-then-dur-eq0 : goal.returns-then-dur-eq0
unfolding ramp_at
returns-then-dur-eq0 c =
    record {
      value = rw (eq-eqb _ _ c.if-dur-eq0.true);
      forced = λ f g. g;
    }

pub returns-then-t0-dur : goal.returns-then-t0-dur
unfolding ramp_at
returns-then-t0-dur c =
    record {
      value = rw (ne_eqb _ _ c.if-dur-eq0.false, le-leb _ _ c.if-t0-dur.true);
      forced = λ f g. g;
    }

pub returns : goal.returns
returns c =
    let a = c.args.self in
    let t = c.args.t in
    let e : ramp_at a t ≡ along a.from a.to (div binary32 (f32 c.saturating_sub.result) (f32 a.dur)) =
    unfold ramp_at in rw (ne_eqb _ _ c.if-dur-eq0.false, lt-leb _ _ c.if-t0-dur.false, ← c.saturating_sub.ensures) in
    let l : a.dur ≤ 16777216 = omega (arith, c.requires) in
    let w : fits binary32 a.from ≡ true = search (rules, c.well_formed) in
    record {
      value = sym e;
      forced = λ f g. subst (λ (z : Float). T (is_force z)) e (ramp-stays a t l (subst T (sym w) tt) f g);
    }
