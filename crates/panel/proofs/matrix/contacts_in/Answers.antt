use Rattle.std.proofs.Common.{arith}
use Rattle.panel.proofs.Rows.{or-none, or-more, or-done}
use Rattle.panel.specs.Matrix.{contact_row, contacts_in}
use Rattle.panel.proofs.matrix.contacts_in.Goals as goal

pub loop-k-init : goal.loop-k-init
loop-k-init c = or-none (contact_row c.args.contacts.now c.args.closed c.args.col)

pub loop-k-preserved : goal.loop-k-preserved
loop-k-preserved c = rw (c.when-rows.ensures, c.row_bit.ensures) (or-more (contact_row c.args.contacts.now c.args.closed c.args.col) c.loop-k.k c.loop-k.rows c.loop-k.invariant)

pub returns : goal.returns
unfolding contacts_in
returns c = or-done (contact_row c.args.contacts.now c.args.closed c.args.col) c.loop-k.k 14 c.loop-k.rows c.loop-k.invariant (omega arith) (omega arith)
