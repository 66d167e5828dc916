use Rattle.irq.proofs.Quiet.{quiet_none}
use Rattle.std.proofs.Common.{sym, ◌∙◌}
use Rattle.irq.specs.Choice.{choice_of}
use Rattle.irq.proofs.Pending.pending_irq_for.Goals as goal

pub returns-then-not-any_pending : goal.returns-then-not-any_pending
returns-then-not-any_pending c = sym (quiet_none c.args.self c.args.core c.args.icfg.now c.args.icfg1.now (sym c.any_pending.ensures ∙ c.if-not-any_pending.true))

pub returns : goal.returns
unfolding choice_of
returns c = rw (c.chosen.ensures, c.bank.ensures.words)
