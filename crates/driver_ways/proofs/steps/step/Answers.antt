use mathlib.Core.List.{List}
use mathlib.Core.Path.{◌≡◌, refl, sym, subst}
use Prim.Native.Nat.{ℕ}
use lib.ListN.{length}
use borrow.Author.Tests.{ne_eqb, lt-ltb, le-ltb}
use Rattle.driver_carry.specs.Carry.{Agrees}
use Rattle.step.specs.Apply.{board_of}
use Rattle.state.specs.Whole.{Whole}
use Rattle.state.specs.declared.Board.{Board}
use Rattle.step.specs.Step.{out_bytes}
use Rattle.uart.specs.Uart.{queue_bytes}
use Rattle.driver_ways.proofs.Served.{refused-told, early-told, serve-ready, turns-ready, served-told}
use Rattle.driver_ways.proofs.steps.step.Goals as goal

-- what is known of the board is known of the chip and the panel that are it
abbrev Known : Board → List ℕ → List ℕ → List ℕ → Type 0
Known b script queue acts = Whole b × Agrees b script × (length queue ≡ queue_bytes) × (length acts ≡ out_bytes)

known : (b d : Board) (script queue acts : List ℕ) → b ≡ d → Known d script queue acts → Known b script queue acts
known b d script queue acts e k = subst (λ (x : Board). Known x script queue acts) (sym e) k

pub returns-then-number-ne0 : goal.returns-then-number-ne0
returns-then-number-ne0 g c =
    let a = c.args in
    let b = board_of a.c a.panel.now in
    let k = known b g.b a.script.now a.queue.now a.acts.now c.requires.1 c.requires.0 in
    rw (← c.requires.1)
    (refused-told b a.script.now k.0 k.1 a.cycles a.queue.now a.acts.now k.2 k.3 c.past_limit-number.result c.past_limit-number.ensures
    (ne_eqb _ _ c.if-number-ne0.true) c.told.result c.told.ensures)

pub returns-then-end-c : goal.returns-then-end-c
returns-then-end-c g c =
    let a = c.args in
    let b = board_of a.c a.panel.now in
    let k = known b g.b a.script.now a.queue.now a.acts.now c.requires.1 c.requires.0 in
    rw (← c.requires.1)
    (early-told b a.script.now k.0 k.1 a.cycles a.queue.now a.acts.now k.2 k.3 c.past_limit-number.result c.past_limit-number.ensures
    c.if-number-ne0.false (lt-ltb _ _ c.if-end-c.true) c.told-then-end-c.result c.told-then-end-c.ensures)

pub serve-s-requires : goal.serve-s-requires
serve-s-requires g c =
    let a = c.args in
    let b = board_of a.c a.panel.now in
    let k = known b g.b a.script.now a.queue.now a.acts.now c.requires.1 c.requires.0 in
    serve-ready b a.script.now k.0 k.1 a.cycles a.queue.now a.acts.now k.2 k.3 c.past_limit-number.result c.past_limit-number.ensures c.if-number-ne0.false

pub all_due-t-requires : goal.all_due-t-requires
all_due-t-requires g c =
    let a = c.args in
    let b = board_of a.c a.panel.now in
    let k = known b g.b a.script.now a.queue.now a.acts.now c.requires.1 c.requires.0 in (
      (
        k.1.long,
        turns-ready b a.script.now k.0 k.1 a.cycles a.queue.now a.acts.now k.2 k.3 c.past_limit-number.result c.past_limit-number.ensures c.if-number-ne0.false
            (le-ltb _ _ c.if-end-c.false) c.serve-s.result c.serve-s.ensures,
      ),
      refl,
    )

pub returns : goal.returns
returns g c =
    let a = c.args in
    let b = board_of a.c a.panel.now in
    let k = known b g.b a.script.now a.queue.now a.acts.now c.requires.1 c.requires.0 in
    rw (← c.requires.1)
    (served-told b a.script.now k.0 k.1 a.cycles a.queue.now a.acts.now k.2 k.3 c.past_limit-number.result c.past_limit-number.ensures c.if-number-ne0.false
    (le-ltb _ _ c.if-end-c.false) c.serve-s.result c.serve-s.ensures c.all_due-t.result _ _ _ c.all_due-t.ensures c.next_event-next.result
    c.next_event-next.ensures c.told-2.result c.told-2.ensures)
