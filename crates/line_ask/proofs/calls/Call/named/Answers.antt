use Rattle.line_ask.specs.Asks.{call_named}
use Rattle.text.proofs.Rows.{row-found}
use Rattle.line_ask.proofs.calls.Call.named.Goals as goal

pub returns : goal.returns
unfolding call_named
returns c = rw row-found at c.find.ensures
