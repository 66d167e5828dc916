use Rattle.driver_ways.proofs.Right.{found-kept}
use Rattle.driver_ways.specs.Told.{read_out}
use borrow.Author.Tests.{lt-ltb, le-ltb}
use Rattle.driver_ways.proofs.registers.read_at.Goals as goal

pub returns-then-d-gt-CLOCK_MAX : goal.returns-then-d-gt-CLOCK_MAX
unfolding read_out
returns-then-d-gt-CLOCK_MAX c = rw (← c.found_by-d.ensures, lt-ltb _ _ c.if-d-gt-CLOCK_MAX.true) c.told.ensures

pub read-value-requires : goal.read-value-requires
read-value-requires c =
    (rw c.found_by-d.ensures (found-kept c.args.c c.requires.0 c.args.addr (rw (← c.found_by-d.ensures) c.if-d-gt-CLOCK_MAX.false)), c.requires.1, c.requires.2)

pub returns : goal.returns
unfolding read_out
returns c = rw (← c.found_by-d.ensures, le-ltb _ _ c.if-d-gt-CLOCK_MAX.false, ← c.read-value.ensures) c.told-2.ensures
