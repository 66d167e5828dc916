use Rattle.line_ask.specs.Asks.{port_named}
use Rattle.text.proofs.Rows.{row-found}
use Rattle.line_ask.proofs.calls.PortCall.named.Goals as goal

pub returns : goal.returns
unfolding port_named
returns c = rw row-found at c.find.ensures
