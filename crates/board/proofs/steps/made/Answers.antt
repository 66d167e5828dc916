use Rattle.std.proofs.Common.{sym, ◌∙◌, arith}
use Rattle.board.proofs.Known.{makes}
use Rattle.board.proofs.steps.made.Goals as goal

pub zero-requires : goal.zero-requires
zero-requires c = (makes _ _ _ _ _ (sym c.new_refused-n.ensures ∙ c.if-n-ne0.false)).first

pub zero-requires-2 : goal.zero-requires-2
zero-requires-2 c = let m = makes _ _ _ _ _ (sym c.new_refused-n.ensures ∙ c.if-n-ne0.false) in omega (arith, m.first, m.second)

pub overflow_cast-hz : goal.overflow_cast-hz
overflow_cast-hz c = let m = makes _ _ _ _ _ (sym c.new_refused-n.ensures ∙ c.if-n-ne0.false) in omega (arith, m.high)
