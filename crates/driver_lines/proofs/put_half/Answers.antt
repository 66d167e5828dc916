use Rattle.text.proofs.After.{then}
use Rattle.driver_lines.proofs.put_half.Goals as goal

pub returns-in-Some : goal.returns-in-Some
returns-in-Some c =
    rw c.in-Some.is (then _ _ _ _ _ _ _ _ c.put_hex-address.ensures (then _ _ _ _ _ _ _ _ c.put_text-slash.ensures c.put_decimal.ensures))
