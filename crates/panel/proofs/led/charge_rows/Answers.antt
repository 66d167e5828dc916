use Rattle.std.proofs.Common.{◌∙◌, arith, eq-eqb, ne_eqb}
use Rattle.panel.proofs.Turns.{rows_none, rows-lit, rows-dark}
use Rattle.panel.proofs.led.charge_rows.Goals.{then-lines-row-eq1, else-lines-row-eq1}
use Rattle.panel.proofs.led.charge_rows.Goals as goal

pub loop-row-init : goal.loop-row-init
loop-row-init c = rows_none c.args.ids.now c.args.lines c.args.col c.args.dt _

pub loop-row-preserved : goal.loop-row-preserved
loop-row-preserved c =
    let ids = c.args.ids.now in
    let l = c.loop-row in
    elim c.if-lines-row-eq1.branch [
      | then-lines-row-eq1 w ↦ rw w.acc-is (w.charge_id.ensures ∙ rows-lit ids c.args.lines c.args.col c.args.dt c.args.acc.now l.row l.acc (omega arith) l.invariant (eq-eqb _ _ w.if-lines-row-eq1.true))
      | else-lines-row-eq1 w ↦ rw w.acc-is (rows-dark ids c.args.lines c.args.col c.args.dt c.args.acc.now l.row l.acc (omega arith) l.invariant (ne_eqb _ _ w.if-lines-row-eq1.false))
    ]
