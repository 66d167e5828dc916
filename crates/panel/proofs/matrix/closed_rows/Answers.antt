use Rattle.std.proofs.Common.{arith}
use Rattle.panel.proofs.Rows.{or-none, or-more, or-done}
use Rattle.panel.specs.Matrix.{closed_in, closed_rows}
use Rattle.panel.proofs.matrix.closed_rows.Goals as goal

pub loop-col-init : goal.loop-col-init
loop-col-init c = or-none (closed_in c.args.map c.args.down c.args.closed c.args.latched)

pub loop-col-preserved : goal.loop-col-preserved
loop-col-preserved c = rw c.closed_in-rows.ensures (or-more (closed_in c.args.map c.args.down c.args.closed c.args.latched) c.loop-col.col c.loop-col.rows c.loop-col.invariant)

pub returns : goal.returns
unfolding closed_rows
returns c = or-done (closed_in c.args.map c.args.down c.args.closed c.args.latched) c.loop-col.col 11 c.loop-col.rows c.loop-col.invariant (omega arith) (omega arith)
