use Rattle.text.proofs.After.{then}
use Rattle.driver_lines.proofs.put_write.Goals as goal

pub returns : goal.returns
returns c = then _ _ _ _ _ _ _ _ c.put_text-letter.ensures (then _ _ _ _ _ _ _ _ c.put_hex-address.ensures (then _ _ _ _ _ _ _ _ c.put_text-space.ensures (then _ _ _ _ _ _ _ _ c.put_hex-value.ensures (then _ _ _ _ _ _ _ _ c.put_text-next.ensures (then _ _ _ _ _ _ _ _ c.put_flag-flag.ensures c.put_text.ensures)))))
