-- The audio block's part of a whole record, as facts.
use Rattle.std.specs.Prelude.{◌≤◌}
use Rattle.base.specs.Moments.{Deadline}
use Rattle.audio.specs.declared.Audio.{Audio}

pub record AudioOk (a : Audio) : Type 0 where
  pub next : Deadline a.next
  pub half : a.half ≤ 1
  pub len : a.len ≤ 65535
