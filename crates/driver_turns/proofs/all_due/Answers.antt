use Rattle.std.proofs.Common.{◌≡◌, Bool, ltb, refl, false, sym, ap, ◌∙◌}
use Rattle.script.specs.Script.{entries}
use Rattle.script.specs.Words.{words_at}
use Rattle.state.specs.With.{with_script}
use Rattle.step.proofs.Loop.{leaves, ready}
use Rattle.step.specs.Step.{Ran}
use Rattle.driver_turns.proofs.Turns.{goes_on_lem, fewer, noted-turn, act-ready, taken-turn}
use Rattle.driver_turns.specs.Held.{going_by}
use borrow.Author.Tests.{lt-ltb, le-ltb}
use Rattle.driver_turns.proofs.all_due.Goals as goal

-- the front is not due: it is noted, and the loop is left
pub returns-then-c-e : goal.returns-then-c-e
returns-then-c-e g c =
    let l = c.loop-c in
    let p = l.panel in
    let z : Ran = (going_by l.c p l.written l.applied (ltb 0 l.c.script.count), (l.queue, l.acts)) in
    let z' : Ran = (going_by (with_script l.c c.looked-noted.result) p l.written l.applied false, (l.queue, l.acts)) in
    leaves (words_at c.args.script.now) entries _ _ _ z'
    (goes_on_lem (words_at c.args.script.now) entries _ _ _ z l.invariant (lt-ltb _ _ c.loop-c-test.true) c.entry-e.result c.entry-e.ensures z'
    (noted-turn l.c p l.written l.applied (ltb 0 l.c.script.count) c.entry-e.result l.queue l.acts (lt-ltb _ _ c.if-c-e.true) c.looked-noted.result c.looked-noted.ensures))
    refl

pub act-d-requires : goal.act-d-requires
act-d-requires g c =
    let l = c.loop-c in
    let z : Ran = (going_by l.c l.panel l.written l.applied (ltb 0 l.c.script.count), (l.queue, l.acts)) in
    act-ready l.c l.panel l.written l.applied (ltb 0 l.c.script.count) c.entry-e.result l.queue l.acts
    (ready (words_at c.args.script.now) entries _ _ _ z l.invariant (lt-ltb _ _ c.loop-c-test.true)) c.taken-rest.result c.taken-rest.ensures

pub loop-c-smaller : goal.loop-c-smaller
loop-c-smaller g c =
    let l = c.loop-c in
    let p = l.panel in
    let z : Ran = (going_by l.c p l.written l.applied (ltb 0 l.c.script.count), (l.queue, l.acts)) in
    fewer (words_at c.args.script.now) entries _ _ _ z l.invariant (lt-ltb _ _ c.loop-c-test.true) c.entry-e.result c.entry-e.ensures _
    (taken-turn l.c p l.written l.applied (ltb 0 l.c.script.count) c.entry-e.result l.queue l.acts (ready (words_at c.args.script.now) entries _ _ _ z l.invariant (lt-ltb _ _ c.loop-c-test.true))
    c.taken-rest.result c.taken-rest.ensures (le-ltb _ _ c.if-c-e.false) c.act-d.result _ _ _ c.encode_timed-wrote.result c.unwrap_or-written.result
    c.act-d.ensures.value c.act-d.ensures.memory c.encode_timed-wrote.ensures.answer c.encode_timed-wrote.ensures.bytes c.unwrap_or-written.ensures).0

pub loop-c-preserved : goal.loop-c-preserved
loop-c-preserved g c =
    let l = c.loop-c in
    let p = l.panel in
    let z : Ran = (going_by l.c p l.written l.applied (ltb 0 l.c.script.count), (l.queue, l.acts)) in
    goes_on_lem (words_at c.args.script.now) entries _ _ _ z l.invariant (lt-ltb _ _ c.loop-c-test.true) c.entry-e.result c.entry-e.ensures _
    (taken-turn l.c p l.written l.applied (ltb 0 l.c.script.count) c.entry-e.result l.queue l.acts (ready (words_at c.args.script.now) entries _ _ _ z l.invariant (lt-ltb _ _ c.loop-c-test.true))
    c.taken-rest.result c.taken-rest.ensures (le-ltb _ _ c.if-c-e.false) c.act-d.result _ _ _ c.encode_timed-wrote.result c.unwrap_or-written.result
    c.act-d.ensures.value c.act-d.ensures.memory c.encode_timed-wrote.ensures.answer c.encode_timed-wrote.ensures.bytes c.unwrap_or-written.ensures)

pub returns-after-loop-c : goal.returns-after-loop-c
returns-after-loop-c g c =
    let l = c.loop-c in
    let p = l.panel in
    let off : ltb 0 l.c.script.count ≡ false = le-ltb _ _ c.loop-c-test.false in
    let z : Bool → Ran = λ on. (going_by l.c p l.written l.applied on, (l.queue, l.acts)) in
    ap z (sym off) ∙ leaves (words_at c.args.script.now) entries _ _ _ (z (ltb 0 l.c.script.count)) l.invariant off
