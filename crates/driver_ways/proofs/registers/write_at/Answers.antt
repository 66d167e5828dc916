use mathlib.Core.Path.{◌∙◌, ap}
use borrow.Author.Tests.{eq-eqb, ne_eqb}
use Rattle.step.specs.Apply.{board_of}
use Rattle.driver_ways.proofs.Right.{convert-right, written-right}
use Rattle.driver_ways.specs.declared.Outcome.{Outcome}
use Rattle.driver_ways.proofs.registers.write_at.Goals as goal

pub returns-then-addr-eq78080-clause-values_after : goal.returns-then-addr-eq78080-clause-values_after
returns-then-addr-eq78080-clause-values_after g c =
    let a = c.args in
    let p = a.panel.now in
    rw (← c.requires.1)
    (ap (λ (x : Outcome). board_of x.chip p) c.told.ensures
    ∙ convert-right a.c p a.addr a.value (eq-eqb _ _ c.if-addr-eq78080.true) c.fm1.result c.fm1.ensures c.write_con-wrote.result c.write_con-wrote.ensures
    c.due_after-due.result c.due_after-due.ensures)

pub returns-clause-values_after : goal.returns-clause-values_after
returns-clause-values_after g c =
    let a = c.args in
    let p = a.panel.now in
    rw (← c.requires.1)
    (written-right a.c p a.addr a.value (ne_eqb _ _ c.if-addr-eq78080.false) _ c.light.ensures c.write_chip-c.result c.write_chip-c.ensures c.told-2.result
    (ap (λ (x : Outcome). x.chip) c.told-2.ensures))
