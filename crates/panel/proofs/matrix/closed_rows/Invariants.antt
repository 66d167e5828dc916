use Rattle.std.proofs.Common.{◌≡◌}
use Rattle.panel.specs.Matrix.{or_to, closed_in}
use Rattle.panel.proofs.matrix.closed_rows.Given as goal

abbrev pub invariant-loop-col : goal.invariant-loop-col
invariant-loop-col l = l.rows ≡ or_to (closed_in l.map l.down l.closed l.latched) l.col
