use Rattle.std.proofs.Common.{◌≡◌, true, sym, ◌∙◌, eq-eqb, ne_eqb}
use Rattle.panel.specs.Pins.{credited, changes, lines_of}
use Rattle.panel.proofs.pins.Pins.led_credit.Goals as goal

pub returns-then-dt-eq0 : goal.returns-then-dt-eq0
unfolding credited
returns-then-dt-eq0 c = rw (eq-eqb _ _ c.if-dt-eq0.true)

pub returns-then-lines-eq0 : goal.returns-then-lines-eq0
unfolding credited
returns-then-lines-eq0 c =
    let z : lines_of c.args.self ≡ 0 = sym c.lines-lines.ensures ∙ c.if-lines-eq0.true in
    rw (ne_eqb _ _ c.if-dt-eq0.false, eq-eqb _ _ z)

pub returns-then-changes : goal.returns-then-changes
unfolding credited
returns-then-changes c =
    let f : changes c.args.self (lines_of c.args.self) ≡ true = rw (sym c.lines-lines.ensures) (sym c.changes.ensures ∙ c.if-changes.true) in
    rw (ne_eqb _ _ c.if-dt-eq0.false, sym c.lines-lines.ensures, ne_eqb _ _ c.if-lines-eq0.false, sym c.changes.ensures, c.if-changes.true)

pub returns : goal.returns
unfolding credited
returns c =
    rw (ne_eqb _ _ c.if-dt-eq0.false, sym c.lines-lines.ensures, ne_eqb _ _ c.if-lines-eq0.false, sym c.changes.ensures, c.if-changes.false)
