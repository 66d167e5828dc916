use Rattle.line_ask.specs.Asks.{set_named}
use Rattle.text.proofs.Rows.{row-found}
use Rattle.line_ask.proofs.calls.Set.named.Goals as goal

pub returns : goal.returns
unfolding set_named
returns c = rw row-found at c.find.ensures
