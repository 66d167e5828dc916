use Rattle.std.proofs.Common.{◌≡◌}
use Rattle.panel.specs.Led.{charge_cols}
use Rattle.panel.proofs.led.charge.Given as goal

abbrev pub invariant-loop-col : goal.invariant-loop-col
invariant-loop-col l = l.acc ≡ charge_cols l.map.ids l.lines l.latched l.dt l.initial.acc l.col
