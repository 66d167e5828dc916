use Rattle.board_guard.proofs.Known.{lent}
use Rattle.board_runner.proofs.pending_irq_for.Goals as goal

pub pending_irq_for-requires : goal.pending_irq_for-requires
pending_irq_for-requires c = (lent _ _ _ _ c.banks-n.ensures c.if-n-ne0.false).sizes
