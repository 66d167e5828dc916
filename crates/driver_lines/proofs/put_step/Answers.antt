use Rattle.text.proofs.After.{then}
use Rattle.driver_lines.proofs.put_step.Goals as goal

pub returns : goal.returns
returns c = then _ _ _ _ _ _ _ _ c.put_text-letter.ensures (then _ _ _ _ _ _ _ _ c.put_decimal-time.ensures (then _ _ _ _ _ _ _ _ c.put_text-space.ensures (then _ _ _ _ _ _ _ _ c.put_half-audio.ensures (then _ _ _ _ _ _ _ _ c.put_text-next.ensures (then _ _ _ _ _ _ _ _ c.put_byte-got.ensures (then _ _ _ _ _ _ _ _ c.put_text-last.ensures (then _ _ _ _ _ _ _ _ c.put_decimal-acts.ensures c.put_text.ensures)))))))
