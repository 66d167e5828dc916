use Rattle.times.proofs.Dividers.{shifted-out, divider-least, divider-most}
use Rattle.times.proofs.divider.Goals as goal

pub returns : goal.returns
returns c =
    let code = c.args.code in
    record {
      value = shifted-out code;
      bounded = rw (shifted-out code) (divider-least code, divider-most code);
    }
