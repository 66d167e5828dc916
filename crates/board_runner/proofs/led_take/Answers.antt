use Rattle.state.proofs.Held.{typed}
use Rattle.board_guard.proofs.Known.{known}
use Rattle.board_runner.proofs.led_take.Goals as goal

pub led_take-t-requires : goal.led_take-t-requires
led_take-t-requires c = (known c.args.b (typed c.args.b _ c.well_formed.0) _ c.broken.ensures c.if-broken.false).sound
