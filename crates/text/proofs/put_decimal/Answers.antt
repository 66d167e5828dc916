use Rattle.text.proofs.Places.{decimal-digits}
use native.Mathlib.Omega.{arith}
use mathlib.Core.Path.{◌∙◌}
use Rattle.text.proofs.put_decimal.Goals as goal

pub returns : goal.returns
returns c =
    let k = c.decimal-k.result in
    let text = c.decimal-k.ensures.digits ∙ decimal-digits c.args.n k (omega arith) c.decimal-k.ensures.len in
    record {
      place = rw (← text) c.put_text.ensures.place;
      bytes = rw (← text) c.put_text.ensures.bytes;
    }
