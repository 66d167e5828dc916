use Rattle.std.proofs.Common.{◌≡◌}
use Rattle.panel.specs.Matrix.{or_to, key_row}
use Rattle.panel.proofs.matrix.keys_in.Given as goal

abbrev pub invariant-loop-row : goal.invariant-loop-row
invariant-loop-row l = l.rows ≡ or_to (key_row l.ids l.down l.col) l.row
