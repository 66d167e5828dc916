use Rattle.std.proofs.Common.{◌≡◌}
use Rattle.refusals_rows.specs.Rows.{low}
use Rattle.refusals_rows.proofs.Into.{into}
use Rattle.refusals_rows.proofs.lows.Given as goal

abbrev pub invariant-loop-i : goal.invariant-loop-i
invariant-loop-i l = l.l ≡ into low l.i l.fn.row l.initial.l
