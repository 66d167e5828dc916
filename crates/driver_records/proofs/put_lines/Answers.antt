use mathlib.Core.Bool.{false}
use mathlib.Core.Path.{refl, sym, ◌∙◌, subst}
use Rattle.driver_carry.specs.Carry.{Bench}
use Rattle.driver_records.specs.Records.{Lined}
use Rattle.driver_records.proofs.Turns.{begins, sooner, goes_on_lem, ends}
use Rattle.driver_records.proofs.put_lines.Goals as goal

pub loop-found-init : goal.loop-found-init
loop-found-init g c = record {
  lined =
      subst (λ (h : Bench). Lined g.h c.args.bytes.now c.args.base c.args.last h 0 c.args.out.now 0 false) (sym c.requires.1)
      (begins g.h c.args.bytes.now c.args.base c.args.last c.args.out.now c.requires.0.0);
  long = refl;
}

pub loop-found-preserved-then-next-at : goal.loop-found-preserved-then-next-at
loop-found-preserved-then-next-at g c =
    let t =
    ends _ _ _ _ _ _ _ _ _ c.loop-found.invariant.lined (sym c.goes.ensures ∙ c.loop-found-test.true)
    c.decode.result c.decode.ensures c.told_at-found.result c.told_at-found.ensures c.next_of-next.result c.next_of-next.ensures
    _ c.carried-o.ensures.1 c.carried-o.ensures.2 c.carried-o.result.answer c.carried-o.ensures.0
    _ c.put_line-put.result (c.put_line-put.ensures.place, c.put_line-put.ensures.bytes) c.if-next-at.true in
    record { lined = t.0; long = t.1 ∙ c.loop-found.invariant.long }

pub loop-found-smaller : goal.loop-found-smaller
loop-found-smaller g c =
    sooner _ _ _ _ _ _ _ _ _ c.loop-found.invariant.lined (sym c.goes.ensures ∙ c.loop-found-test.true)
    c.decode.result c.decode.ensures c.told_at-found.result c.told_at-found.ensures c.next_of-next.result c.next_of-next.ensures
    _ c.carried-o.ensures.1 c.carried-o.ensures.2 c.carried-o.result.answer c.carried-o.ensures.0
    _ c.put_line-put-else-next-at.result (c.put_line-put-else-next-at.ensures.place, c.put_line-put-else-next-at.ensures.bytes) c.if-next-at.false

pub loop-found-preserved : goal.loop-found-preserved
loop-found-preserved g c =
    let t =
    goes_on_lem _ _ _ _ _ _ _ _ _ c.loop-found.invariant.lined (sym c.goes.ensures ∙ c.loop-found-test.true)
    c.decode.result c.decode.ensures c.told_at-found.result c.told_at-found.ensures c.next_of-next.result c.next_of-next.ensures
    _ c.carried-o.ensures.1 c.carried-o.ensures.2 c.carried-o.result.answer c.carried-o.ensures.0
    _ c.put_line-put-else-next-at.result (c.put_line-put-else-next-at.ensures.place, c.put_line-put-else-next-at.ensures.bytes) c.if-next-at.false in
    record { lined = t.0; long = t.1 ∙ c.loop-found.invariant.long }
