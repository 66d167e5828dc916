use Rattle.std.proofs.Common.{arith}
use Rattle.board_guard.proofs.Known.{known}
use Rattle.state.proofs.Held.{typed}
use Rattle.board.proofs.steps.apply.Goals as goal

pub apply-requires : goal.apply-requires
apply-requires c = ((known c.args.b (typed c.args.b _ c.well_formed.0) _ c.broken.ensures c.if-broken.false).sound, omega arith, omega arith)
