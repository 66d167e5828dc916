use mathlib.Core.Path.{sym}
use borrow.Author.Tests.{le-ltb, le-leb, lt-leb}
use Rattle.keys.specs.Keys.{pressure_of}
use Rattle.keys.proofs.Keys.pressure.Goals as goal

pub returns-then-id-lt14 : goal.returns-then-id-lt14
unfolding pressure_of
returns-then-id-lt14 c = rw (lt-leb _ _ c.if-id-lt14.true)

pub returns-then-id-ge41 : goal.returns-then-id-ge41
unfolding pressure_of
returns-then-id-ge41 c = rw (le-leb _ _ c.if-id-lt14.false, le-ltb _ _ c.if-id-ge41.true)

pub returns-then-is_down : goal.returns-then-is_down
unfolding pressure_of
returns-then-is_down c = rw (le-leb _ _ c.if-id-lt14.false, sym c.is_down.ensures, c.if-is_down.true, c.turn.ensures, c.vel_force.ensures.value)

pub returns-else-is_down : goal.returns-else-is_down
unfolding pressure_of
returns-else-is_down c = rw (le-leb _ _ c.if-id-lt14.false, sym c.is_down.ensures, c.if-is_down.false)
