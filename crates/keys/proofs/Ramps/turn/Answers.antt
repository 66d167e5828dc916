use Rattle.std.proofs.Common.{◌≤◌, ◌/◌, arith}
use Rattle.pressure.specs.Force.{turned_of}
use Rattle.times.specs.Clocks.{ramp_cycles}
use Rattle.times.proofs.Exact.{ramp-short}
use Rattle.keys.specs.Keys.{turned_ramps}
use Rattle.keys.proofs.Ramps.turn.Goals as goal

pub overflow_cast-self : goal.overflow_cast-self
unfolding turned_of
overflow_cast-self c = rw (c.turned-r.ensures.value, c.ms_cycles.ensures)
    (let h : ramp_cycles c.args.time c.args.hz ≤ c.args.hz / 50 = ramp-short c.args.time c.args.hz in
    omega arith)

pub returns : goal.returns
unfolding turned_ramps
returns c = rw (c.turned-r.ensures.value, c.ms_cycles.ensures, c.ramp_at.ensures)
