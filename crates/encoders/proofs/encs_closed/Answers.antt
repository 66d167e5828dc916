use Rattle.std.proofs.Common.{◌≡◌, ◌∙◌, ap, arith}
use Rattle.encoders.proofs.Contacts.{closed_to, closed-none, closed-fits, closed_more, closed_all}
use Rattle.encoders.proofs.encs_closed.Goals as goal

pub loop-i-init : goal.loop-i-init
loop-i-init c = closed-none c.args.e

pub overflow_add-bits : goal.overflow_add-bits
overflow_add-bits c =
    let f = closed-fits c.args.e c.loop-i.i c.loop-i-test.true in
    rw (c.loop-i.invariant, c.closed.ensures.value) (omega (arith, f))

pub loop-i-preserved : goal.loop-i-preserved
loop-i-preserved c = rw (c.loop-i.invariant, c.closed.ensures.value) (closed_more c.args.e c.loop-i.i c.loop-i-test.true)

pub returns : goal.returns
returns c =
    let q : c.loop-i.i ≡ 7 = omega arith in
    c.loop-i.invariant ∙ ap (closed_to c.args.e) q ∙ closed_all c.args.e
