use Rattle.irq.specs.Sources.{latched}
use Rattle.irq.specs.Choice.{walked}
use Rattle.irq.proofs.Quiet.{high-latch, none-walked}
use mathlib.Core.Path.{sym}
use Rattle.irq.proofs.Pending.latched.Goals as goal

pub returns-then-self-eq0-clause-best : goal.returns-then-self-eq0-clause-best
returns-then-self-eq0-clause-best c = sym (none-walked c.args.core c.args.walk.bank.now (latched c.args.self) c.args.walk.best (high-latch c.args.self c.if-self-eq0.true))

pub returns-clause-best : goal.returns-clause-best
unfolding walked
returns-clause-best c = cc
