-- The loop keeps what `step` says of every holder's loop, over the words as entries.
use Rattle.std.proofs.Common.{◌∙◌, ap, subst}
use Rattle.script.specs.Words.{words_at, places_in}
use Rattle.script.specs.declared.Entry.{Entry}
use Rattle.script.specs.declared.Front.{Front}
use Rattle.state.proofs.Held.{typed}
use Rattle.step.proofs.Loop.{enters, leaves, again, sooner, Right}
use Rattle.step.specs.Step.{Ran, begun_of, turned_of, finished_of, ran}
use Rattle.board_words.proofs.advance.Goals as goal

pub loop-g-init : goal.loop-g-init
loop-g-init c =
    rw (c.begun-g.ensures.1, c.begun-g.ensures.2)
    (enters (words_at c.args.script.now) c.args.b (typed c.args.b _ c.well_formed.0) c.args.cycles (places_in c.args.script.now) c.args.queue.now c.args.out.now c.begun-g.result
    (c.begun-g.ensures.0 ∙ ap (λ (f : Front). begun_of c.args.b c.args.cycles f c.args.queue.now c.args.out.now) c.look-front.ensures))

pub loop-g-smaller : goal.loop-g-smaller
loop-g-smaller c =
    sooner (words_at c.args.script.now) (places_in c.args.script.now) c.args.queue.now c.args.out.now (ran c.args.b c.args.cycles (words_at c.args.script.now) (places_in c.args.script.now) c.args.queue.now c.args.out.now) (c.loop-g.g, (c.loop-g.queue, c.loop-g.out)) c.turned-g.result c.loop-g.invariant c.loop-g-test.true
    (c.turned-g.ensures.0 ∙ ap (λ (e : Entry). turned_of c.loop-g.g e) c.entry-e.ensures)

pub loop-g-preserved : goal.loop-g-preserved
loop-g-preserved c =
    again (words_at c.args.script.now) (places_in c.args.script.now) c.args.queue.now c.args.out.now (ran c.args.b c.args.cycles (words_at c.args.script.now) (places_in c.args.script.now) c.args.queue.now c.args.out.now) (c.loop-g.g, (c.loop-g.queue, c.loop-g.out)) (c.turned-g.result, (c.turned-g.new.queue, c.turned-g.new.out)) c.loop-g.invariant c.loop-g-test.true
    (subst (λ (e : Entry). Right c.loop-g.g e c.loop-g.queue c.loop-g.out c.turned-g.result c.turned-g.new.queue c.turned-g.new.out) c.entry-e.ensures c.turned-g.ensures)

pub returns : goal.returns
returns c =
    let w = leaves (words_at c.args.script.now) (places_in c.args.script.now) c.args.queue.now c.args.out.now (ran c.args.b c.args.cycles (words_at c.args.script.now) (places_in c.args.script.now) c.args.queue.now c.args.out.now) (c.loop-g.g, (c.loop-g.queue, c.loop-g.out)) c.loop-g.invariant c.loop-g-test.false in
    (c.finished.ensures ∙ ap (λ (z : Ran). finished_of z.0) w, ap (λ (z : Ran). z.1.0) w, ap (λ (z : Ran). z.1.1) w)
