use Rattle.std.proofs.Common.{arith}
use Rattle.panel.proofs.Rows.{or-none, or-more, or-done}
use Rattle.panel.specs.Matrix.{key_row, keys_in}
use Rattle.panel.proofs.matrix.keys_in.Goals as goal

pub loop-row-init : goal.loop-row-init
loop-row-init c = or-none (key_row c.args.ids.now c.args.down c.args.col)

pub loop-row-preserved : goal.loop-row-preserved
loop-row-preserved c = rw (c.when-rows.ensures, c.row_bit.ensures, c.is_down.ensures) (or-more (key_row c.args.ids.now c.args.down c.args.col) c.loop-row.row c.loop-row.rows c.loop-row.invariant)

pub returns : goal.returns
unfolding keys_in
returns c = or-done (key_row c.args.ids.now c.args.down c.args.col) c.loop-row.row 6 c.loop-row.rows c.loop-row.invariant (omega arith) (omega arith)
