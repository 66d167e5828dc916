use Rattle.state.proofs.Held.{typed}
use Rattle.driver_carry.proofs.Ends.{found_at, push-ends, read-ends, write-ends, step-ends}
use Rattle.driver_carry.proofs.carry.Goals as goal

pub returns-in-Timed : goal.returns-in-Timed
returns-in-Timed c =
    rw (found_at c.args.found _ c.in-Ok-Some.record _ c.in-Ok-Some.is (rw c.in-Ok-Some.is at c.in-Ok-Some.field-0-is) c.in-Timed.is)
    (push-ends _ (typed c.args.b _ c.well_formed.0) _ c.in-Ok-Some.record.next _ c.push.result _ c.push.ensures)

pub returns-in-Read : goal.returns-in-Read
returns-in-Read c =
    rw (found_at c.args.found _ c.in-Ok-Some.record _ c.in-Ok-Some.is (rw c.in-Ok-Some.is at c.in-Ok-Some.field-0-is) c.in-Order.is, c.in-Read.is)
    (read-ends _ _ c.in-Ok-Some.record.next c.read.result c.read.ensures)

pub returns-in-Write : goal.returns-in-Write
returns-in-Write c =
    rw (found_at c.args.found _ c.in-Ok-Some.record _ c.in-Ok-Some.is (rw c.in-Ok-Some.is at c.in-Ok-Some.field-0-is) c.in-Order.is, c.in-Write.is)
    (write-ends _ _ _ c.in-Ok-Some.record.next c.write.result _ _ c.write.ensures)

pub returns-in-Step : goal.returns-in-Step
returns-in-Step c =
    rw (found_at c.args.found _ c.in-Ok-Some.record _ c.in-Ok-Some.is (rw c.in-Ok-Some.is at c.in-Ok-Some.field-0-is) c.in-Order.is, c.in-Step.is)
    (step-ends _ _ c.in-Ok-Some.record.next c.step.result _ _ c.step.ensures)
