use Rattle.text.proofs.Rows.{row-found}
use Rattle.refusals_limits.specs.Asked.{call_of}
use Rattle.refusals_limits.proofs.asks.call_of.Goals as goal

pub returns : goal.returns
unfolding call_of
returns c = rw row-found at c.find.ensures
