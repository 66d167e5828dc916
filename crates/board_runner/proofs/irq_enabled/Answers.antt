use Rattle.board_guard.proofs.Known.{lent}
use Rattle.board_runner.proofs.irq_enabled.Goals as goal

pub irq_enabled-requires : goal.irq_enabled-requires
irq_enabled-requires c = (lent _ _ _ _ c.banks-refused.ensures c.if-refused-ne0.false).sizes
