use mathlib.Core.Path.{sym, ◌∙◌}
use Rattle.state.proofs.Parts.{pend-past}
use Rattle.state.specs.State.{board_whole}
use Rattle.state.proofs.Board.whole.Goals as goal

pub overflow_sub-c : goal.overflow_sub-c
overflow_sub-c c = pend-past c.args.self.chip (sym c.whole.ensures ∙ c.if-whole.true)

pub returns-then-whole : goal.returns-then-whole
unfolding board_whole
returns-then-whole c = rw (sym c.whole.ensures, c.if-whole.true, c.whole-then-whole.ensures)

pub returns : goal.returns
unfolding board_whole
returns c = rw (sym c.whole.ensures, c.if-whole.false)
