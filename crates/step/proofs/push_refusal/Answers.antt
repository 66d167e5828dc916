use mathlib.Core.Path.{sym}
use borrow.Author.Tests.{eq-eqb, ne_eqb}
use Rattle.step.specs.Step.{push_refusal}
use Rattle.step.proofs.push_refusal.Goals as goal

pub returns-then-front : goal.returns-then-front
unfolding push_refusal
returns-then-front c = rw (ne_eqb _ _ c.if-front.true)

pub returns-then-full : goal.returns-then-full
unfolding push_refusal
returns-then-full c = rw (eq-eqb _ _ c.if-front.false, sym c.is_state.ensures, c.if-is_state.true, sym c.full.ensures, c.if-full.true)

pub returns-then-is_state : goal.returns-then-is_state
unfolding push_refusal
returns-then-is_state c = rw (eq-eqb _ _ c.if-front.false, sym c.is_state.ensures, c.if-is_state.true, sym c.full.ensures, c.if-full.false)

pub returns : goal.returns
unfolding push_refusal
returns c = rw (eq-eqb _ _ c.if-front.false, sym c.is_state.ensures, c.if-is_state.false)
