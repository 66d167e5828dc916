use Rattle.board_guard.proofs.Known.{lent}
use Rattle.board.proofs.steps.chip_reset.Goals as goal

pub chip_reset-requires : goal.chip_reset-requires
chip_reset-requires c = (lent _ _ _ _ c.banks-n.ensures c.if-n-ne0.false).sizes
