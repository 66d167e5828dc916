use mathlib.Core.Path.{sym, ◌∙◌}
use borrow.Author.Tests.{eq-eqb, ne_eqb}
use Rattle.step.specs.Step.{placed_of}
use Rattle.step.proofs.Refusals.{pushable}
use Rattle.step.proofs.placed.Goals as goal

pub returns-then-number-ne0 : goal.returns-then-number-ne0
unfolding placed_of
returns-then-number-ne0 c = rw (sym c.push_refusal-number.ensures, ne_eqb _ _ c.if-number-ne0.true)

pub pushed-more-requires : goal.pushed-more-requires
pushed-more-requires c = (pushable c.args.b c.args.front (sym c.push_refusal-number.ensures ∙ c.if-number-ne0.false)).room

pub returns : goal.returns
unfolding placed_of
returns c = rw (sym c.push_refusal-number.ensures, eq-eqb _ _ c.if-number-ne0.false, c.scripted-b.ensures, c.pushed-more.ensures, c.spot-place.ensures)
