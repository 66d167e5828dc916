use Rattle.std.proofs.Common.{◌≡◌, ap, ◌∙◌, arith, eq-eqb, ne_eqb}
use Rattle.panel.specs.Led.{charge_cols, charged_of}
use Rattle.panel.proofs.Turns.{cols-none, cols-lit, cols-dark}
use Rattle.panel.proofs.led.charge.Goals.{then-latched-col-eq0, else-latched-col-eq0}
use Rattle.panel.proofs.led.charge.Goals as goal

pub loop-col-init : goal.loop-col-init
loop-col-init c = cols-none c.args.map.ids c.args.lines c.args.latched c.args.dt _

pub loop-col-preserved : goal.loop-col-preserved
loop-col-preserved c =
    let ids = c.args.map.ids in
    let l = c.loop-col in
    elim c.if-latched-col-eq0.branch [
      | then-latched-col-eq0 w ↦ rw w.acc-is (w.charge_rows.ensures ∙ cols-lit ids c.args.lines c.args.latched c.args.dt c.args.acc.now l.col l.acc l.invariant (eq-eqb _ _ w.if-latched-col-eq0.true))
      | else-latched-col-eq0 w ↦ rw w.acc-is (cols-dark ids c.args.lines c.args.latched c.args.dt c.args.acc.now l.col l.acc l.invariant (ne_eqb _ _ w.if-latched-col-eq0.false))
    ]

pub returns : goal.returns
unfolding charged_of
returns c =
    let q : c.loop-col.col ≡ 11 = omega arith in
    c.loop-col.invariant ∙ ap (charge_cols c.args.map.ids c.args.lines c.args.latched c.args.dt c.args.acc.now) q
