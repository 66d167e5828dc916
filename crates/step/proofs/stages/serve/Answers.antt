use native.Mathlib.Omega.{arith}
use Rattle.step.proofs.Serving.{first-kept, middle-kept}
use Rattle.step.specs.Stages.{first_stages, served_of}
use Rattle.step.proofs.stages.serve.Goals as goal

pub at-played-requires : goal.at-played-requires
unfolding first_stages
at-played-requires c = let w = c.requires.0 in rw c.first_stages-c.ensures (w.audio.half, w.audio.len, w.clock.cycles)

pub receive_at-received-requires : goal.receive_at-received-requires
unfolding first_stages
receive_at-received-requires c = let w = c.requires.0 in rw c.first_stages-c.ensures (c.requires.1, w.uart.place, w.uart.wr, omega (arith, c.requires.2), w.clock.cycles)

pub last_stages-c-requires : goal.last_stages-c-requires
unfolding first_stages
last_stages-c-requires c = rw (c.receive_at-received.ensures, c.at-played.ensures, c.first_stages-c.ensures) (middle-kept _ (first-kept _ c.requires.0) _)

pub returns : goal.returns
unfolding served_of first_stages
returns c = rw (c.last_stages-c.ensures, c.receive_at-received.ensures, c.at-played.ensures, c.first_stages-c.ensures)
