use Rattle.std.proofs.Common.{◌≡◌, ◌-◌}
use Rattle.panel.specs.Led.{charge_rows}
use Rattle.panel.proofs.led.charge_rows.Given as goal

abbrev pub invariant-loop-row : goal.invariant-loop-row
invariant-loop-row l = l.acc ≡ charge_rows l.ids l.lines l.col l.dt l.initial.acc (l.row - 1)
