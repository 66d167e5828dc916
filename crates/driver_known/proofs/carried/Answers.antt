use mathlib.Core.Path.{◌≡◌, sym, subst}
use Rattle.driver_carry.specs.Carry.{Bench, BenchOk}
use Rattle.driver_carry.proofs.Ends.{found_at}
use Rattle.driver_known.proofs.Ends.{push-ends, read-ends, write-ends, step-ends}
use Rattle.driver_known.proofs.carried.Goals as goal

-- what is known of the bench is known of what is lent, which it is
known : (l h : Bench) → l ≡ h → BenchOk h → BenchOk l
known l h e ok = subst BenchOk (sym e) ok

pub returns-in-Timed : goal.returns-in-Timed
returns-in-Timed g c =
    rw (← c.requires.1, found_at c.args.found _ c.in-Ok-Some.record _ c.in-Ok-Some.is (rw c.in-Ok-Some.is at c.in-Ok-Some.field-0-is) c.in-Timed.is)
    (push-ends _ (known _ g.h c.requires.1 c.requires.0) _ c.in-Ok-Some.record.next _ c.push.result _ c.push.ensures)

pub returns-in-Read : goal.returns-in-Read
returns-in-Read g c =
    rw (← c.requires.1, found_at c.args.found _ c.in-Ok-Some.record _ c.in-Ok-Some.is (rw c.in-Ok-Some.is at c.in-Ok-Some.field-0-is) c.in-Order.is, c.in-Read.is)
    (read-ends _ (known _ g.h c.requires.1 c.requires.0) _ c.in-Ok-Some.record.next c.read_at.result c.read_at.ensures)

pub returns-in-Write : goal.returns-in-Write
returns-in-Write g c =
    rw (← c.requires.1, found_at c.args.found _ c.in-Ok-Some.record _ c.in-Ok-Some.is (rw c.in-Ok-Some.is at c.in-Ok-Some.field-0-is) c.in-Order.is, c.in-Write.is)
    (write-ends _ (known _ g.h c.requires.1 c.requires.0) _ _ c.in-Ok-Some.record.next c.write_at.result.answer _ _ _
    c.write_at.ensures.values_after c.write_at.ensures.answer c.write_at.ensures.first c.write_at.ensures.second)

pub returns-in-Step : goal.returns-in-Step
returns-in-Step g c =
    rw (← c.requires.1, found_at c.args.found _ c.in-Ok-Some.record _ c.in-Ok-Some.is (rw c.in-Ok-Some.is at c.in-Ok-Some.field-0-is) c.in-Order.is, c.in-Step.is)
    (step-ends _ (known _ g.h c.requires.1 c.requires.0) _ c.in-Ok-Some.record.next c.step.result.answer _ _ _ c.step.ensures)
