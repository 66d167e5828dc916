-- An encoder's share of a whole record as facts.
use Rattle.std.specs.Prelude.{◌<◌}
use Rattle.base.specs.Moments.{Deadline}
use Rattle.encoders.specs.declared.Enc.{Enc}

pub record EncOk (e : Enc) : Type 0 where
  pub next : Deadline e.next
  pub state : e.state < 4
