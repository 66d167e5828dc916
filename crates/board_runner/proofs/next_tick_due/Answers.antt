use Rattle.state.proofs.Held.{typed}
use Rattle.board_guard.proofs.Known.{known}
use Rattle.board_runner.proofs.next_tick_due.Goals as goal

pub next_tick_due-requires : goal.next_tick_due-requires
next_tick_due-requires c = (known c.args.b (typed c.args.b _ c.well_formed.0) _ c.broken.ensures c.if-broken.false).sound.chip.clock.cycles
