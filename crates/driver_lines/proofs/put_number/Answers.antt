use Rattle.text.proofs.After.{then}
use Rattle.driver_lines.proofs.put_number.Goals as goal

pub returns : goal.returns
returns c = then _ _ _ _ _ _ _ _ c.put_text-lettered.ensures (then _ _ _ _ _ _ _ _ c.put_decimal-numbered.ensures c.put_text.ensures)
