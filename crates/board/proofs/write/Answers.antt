use Rattle.board_guard.proofs.Known.{lent}
use Rattle.state.proofs.Held.{typed}
use Rattle.state.proofs.Facts.{whole-facts}
use Rattle.board.proofs.write.Goals as goal

pub write-d-requires : goal.write-d-requires
write-d-requires c = let l = lent c.args.b _ _ _ c.banks-n.ensures c.if-n-ne0.false in ((whole-facts c.args.b (typed c.args.b _ c.well_formed.0) l.whole).sound, l.sizes.0, l.sizes.1)
