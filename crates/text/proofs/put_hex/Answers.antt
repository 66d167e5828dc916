use Rattle.text.proofs.Places.{hex-digits}
use native.Mathlib.Omega.{arith}
use mathlib.Core.Path.{◌∙◌}
use Rattle.text.proofs.put_hex.Goals as goal

pub returns : goal.returns
returns c =
    let k = c.hex-k.result in
    let text = c.hex-k.ensures.digits ∙ hex-digits c.args.n k (omega arith) c.args.width c.hex-k.ensures.len in
    record {
      place = rw (← text) c.put_text.ensures.place;
      bytes = rw (← text) c.put_text.ensures.bytes;
    }
