use Rattle.line_ask.specs.Asks.{act_named}
use Rattle.text.proofs.Rows.{row-found}
use Rattle.line_ask.proofs.calls.Act.named.Goals as goal

pub returns : goal.returns
unfolding act_named
returns c = rw row-found at c.find.ensures
