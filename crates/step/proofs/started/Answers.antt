use borrow.Author.Tests.{lt-ltb, le-ltb}
use native.Mathlib.Omega.{arith}
use Rattle.state.proofs.Kept.{put-clock}
use Rattle.step.specs.Step.{started_of}
use Prim.Native.Nat.{◌+◌}
use Rattle.step.proofs.started.Goals as goal

pub returns-then-now-b : goal.returns-then-now-b
unfolding started_of
returns-then-now-b c = rw (lt-ltb _ _ c.if-now-b.true) c.stopped.ensures

pub serve-s-requires : goal.serve-s-requires
serve-s-requires c = let b = c.args.b in (put-clock b.chip c.requires.0.sound.chip (b.chip.clock.cycles + c.args.cycles) b.chip.clock.next_due b.chip.clock.skipped (omega arith) c.requires.2, c.requires.1, c.requires.3)

pub returns : goal.returns
unfolding started_of
returns c = rw (le-ltb _ _ c.if-now-b.false, c.goes_on.ensures, c.serve-s.ensures)
