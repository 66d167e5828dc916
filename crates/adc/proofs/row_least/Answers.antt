use Rattle.std.proofs.Common.{eq-eqb, ne_eqb}
use Rattle.adc.proofs.Turns.{least-none, least_on, least-off}
use Rattle.adc.proofs.row_least.Goals.{then-latched-col-eq0, else-latched-col-eq0}
use Rattle.adc.proofs.row_least.Goals as goal

pub loop-col-init : goal.loop-col-init
loop-col-init c = least-none c.args.map c.args.ramps.now c.args.latched c.args.row c.args.now c.args.ohms

pub loop-col-preserved : goal.loop-col-preserved
loop-col-preserved c =
    let a = c.args in
    let l = c.loop-col in
    elim c.if-latched-col-eq0.branch [
      | then-latched-col-eq0 w ↦ rw (w.v-is, w.min-v.ensures, w.key_value.ensures.value, w.id.ensures) (least_on a.map a.ramps.now a.latched a.row a.now a.ohms l.col l.v l.invariant (eq-eqb _ _ w.if-latched-col-eq0.true))
      | else-latched-col-eq0 w ↦ rw w.v-is (least-off a.map a.ramps.now a.latched a.row a.now a.ohms l.col l.v l.invariant (ne_eqb _ _ w.if-latched-col-eq0.false))
    ]
