use Rattle.step.proofs.Refusals.{accepted}
use Rattle.step.specs.Step.{begun_of}
use Rattle.state.proofs.Held.{typed}
use Rattle.state.proofs.Facts.{whole-facts}
use borrow.Author.Tests.{eq-eqb, ne_eqb}
use mathlib.Core.Path.{refl, sym, ◌∙◌}
use Rattle.step.proofs.begun.Goals as goal

pub returns-then-number-ne0 : goal.returns-then-number-ne0
unfolding begun_of
returns-then-number-ne0 c = rw (sym c.step_refusal-number.ensures, ne_eqb _ _ c.if-number-ne0.true) (c.stopped.ensures, refl, refl)

pub started-requires : goal.started-requires
started-requires c = let k = accepted c.args.b c.args.cycles c.args.front _ _ (sym c.step_refusal-number.ensures ∙ c.if-number-ne0.false) in (whole-facts c.args.b (typed c.args.b _ c.well_formed.0) k.whole, k.lent, k.time, k.count)

pub returns : goal.returns
unfolding begun_of
returns c = rw (sym c.step_refusal-number.ensures, eq-eqb _ _ c.if-number-ne0.false) (c.started.ensures, refl, refl)
