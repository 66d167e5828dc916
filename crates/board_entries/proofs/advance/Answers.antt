-- The loop keeps what `step` says of every holder's loop, over the lent entries.
use Rattle.std.proofs.Common.{length, ◌∙◌, ap, arith}
use Rattle.script.specs.Entries.{entries_at, front_of}
use Rattle.script.specs.declared.Front.{Front}
use Rattle.state.proofs.Held.{typed}
use Rattle.step.proofs.Loop.{enters, leaves, again, sooner}
use Rattle.step.specs.Step.{Ran, begun_of, finished_of, ran}
use Rattle.board_entries.proofs.advance.Goals as goal

pub loop-g-init : goal.loop-g-init
loop-g-init c =
    rw (c.begun-g.ensures.1, c.begun-g.ensures.2)
    (enters (entries_at c.args.script.now) c.args.b (typed c.args.b _ c.well_formed.0) c.args.cycles (length c.args.script.now) c.args.queue.now c.args.out.now c.begun-g.result
    (c.begun-g.ensures.0 ∙ ap (λ (f : Front). begun_of c.args.b c.args.cycles f c.args.queue.now c.args.out.now) (c.look-f.ensures ∙ ap (front_of c.args.script.now) c.front_place.ensures)))

pub offset_bounds-script-g : goal.offset_bounds-script-g
offset_bounds-script-g c = let g = c.loop-g.invariant.goes c.loop-g-test.true in record { fits = omega (arith, g.1.place) }

pub bounds-script-g : goal.bounds-script-g
bounds-script-g c = let g = c.loop-g.invariant.goes c.loop-g-test.true in omega (arith, g.0, g.1.place)

pub loop-g-smaller : goal.loop-g-smaller
loop-g-smaller c =
    sooner (entries_at c.args.script.now) (length c.args.script.now) c.args.queue.now c.args.out.now (ran c.args.b c.args.cycles (entries_at c.args.script.now) (length c.args.script.now) c.args.queue.now c.args.out.now) (c.loop-g.g, (c.loop-g.queue, c.loop-g.out)) c.turned-g.result c.loop-g.invariant c.loop-g-test.true
    c.turned-g.ensures.0

pub loop-g-preserved : goal.loop-g-preserved
loop-g-preserved c =
    again (entries_at c.args.script.now) (length c.args.script.now) c.args.queue.now c.args.out.now (ran c.args.b c.args.cycles (entries_at c.args.script.now) (length c.args.script.now) c.args.queue.now c.args.out.now) (c.loop-g.g, (c.loop-g.queue, c.loop-g.out)) (c.turned-g.result, (c.turned-g.new.queue, c.turned-g.new.out)) c.loop-g.invariant c.loop-g-test.true
    c.turned-g.ensures

pub returns : goal.returns
returns c =
    let w = leaves (entries_at c.args.script.now) (length c.args.script.now) c.args.queue.now c.args.out.now (ran c.args.b c.args.cycles (entries_at c.args.script.now) (length c.args.script.now) c.args.queue.now c.args.out.now) (c.loop-g.g, (c.loop-g.queue, c.loop-g.out)) c.loop-g.invariant c.loop-g-test.false in
    (c.finished.ensures ∙ ap (λ (z : Ran). finished_of z.0) w, ap (λ (z : Ran). z.1.0) w, ap (λ (z : Ran). z.1.1) w)
