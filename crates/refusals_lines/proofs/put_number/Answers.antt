use Rattle.text.proofs.After.{then}
use Rattle.refusals_lines.proofs.put_number.Goals as goal

pub returns : goal.returns
returns c = then _ _ _ _ _ _ _ _ c.put_text-marked.ensures c.put_decimal.ensures
