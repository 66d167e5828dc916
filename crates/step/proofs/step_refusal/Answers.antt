use mathlib.Core.Path.{sym, ◌∙◌}
use Rattle.state.proofs.Facts.{whole-facts}
use Rattle.state.proofs.Held.{typed}
use Rattle.step.proofs.Refusals.{in_parts, state-whole}
use Rattle.step.proofs.step_refusal.Goals as goal

pub returns-then-wrong_size : goal.returns-then-wrong_size
returns-then-wrong_size c = let a = c.args in rw (in_parts a.b a.cycles a.front a.queue a.out, sym c.wrong_size.ensures, c.if-wrong_size.true)

pub past_limit-requires : goal.past_limit-requires
past_limit-requires c = let b = c.args.b in (whole-facts b (typed b _ c.well_formed.0) (state-whole b c.args.front (sym c.is_state.ensures ∙ c.if-is_state.true))).sound.chip.clock.cycles

pub returns-then-is_state : goal.returns-then-is_state
returns-then-is_state c = let a = c.args in rw (in_parts a.b a.cycles a.front a.queue a.out, sym c.wrong_size.ensures, c.if-wrong_size.false, sym c.is_state.ensures, c.if-is_state.true) c.past_limit.ensures

pub returns : goal.returns
returns c = let a = c.args in rw (in_parts a.b a.cycles a.front a.queue a.out, sym c.wrong_size.ensures, c.if-wrong_size.false, sym c.is_state.ensures, c.if-is_state.false)
