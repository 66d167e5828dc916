use borrow.Author.Tests.{not-true, not-false}
use Rattle.std.proofs.Common.{arith, ◌∙◌}
use Rattle.text.proofs.Runs.{run_more, run-stops, run-max}
use Rattle.text.proofs.run_end.Goals as goal

pub returns-then-line-i : goal.returns-then-line-i
returns-then-line-i c = run-stops c.args.mark c.args.marks c.args.line.now c.loop-i.i c.loop-i-test.true (not-true _ c.if-line-i.true) ∙ c.loop-i.invariant

pub loop-i-preserved : goal.loop-i-preserved
loop-i-preserved c = run_more c.args.mark c.args.marks c.args.line.now c.loop-i.i c.loop-i-test.true (not-false _ c.if-line-i.false) ∙ c.loop-i.invariant

pub returns : goal.returns
returns c =
    c.max.ensures
    ∙ run-max c.args.mark c.args.marks c.args.line.now c.loop-i.i c.args.at (omega arith) (omega arith) (λ h. omega arith) c.loop-i.invariant
