use Rattle.text.proofs.After.{then}
use Rattle.driver_lines.proofs.put_read.Goals as goal

pub returns : goal.returns
returns c = then _ _ _ _ _ _ _ _ c.put_text-letter.ensures (then _ _ _ _ _ _ _ _ c.put_hex-address.ensures (then _ _ _ _ _ _ _ _ c.put_text-space.ensures (then _ _ _ _ _ _ _ _ c.put_value-value.ensures c.put_text.ensures)))
