use Rattle.std.proofs.Common.{◌≡◌}
use Rattle.panel.specs.Matrix.{or_to, contact_row}
use Rattle.panel.proofs.matrix.contacts_in.Given as goal

abbrev pub invariant-loop-k : goal.invariant-loop-k
invariant-loop-k l = l.rows ≡ or_to (contact_row l.contacts l.closed l.col) l.k
