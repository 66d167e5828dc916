use Rattle.std.proofs.Common.{◌≡◌}
use Rattle.refusals_rows.specs.Rows.{force_from}
use Rattle.refusals_rows.proofs.Into.{into}
use Rattle.refusals_rows.proofs.forces.Given as goal

abbrev pub invariant-loop-i : goal.invariant-loop-i
invariant-loop-i l = l.f ≡ into force_from l.i l.fn.row l.initial.f
