use Rattle.std.proofs.Common.{arith, sym, ◌∙◌}
use Rattle.names.specs.Ascii.{uppers}
use Rattle.names.proofs.OnRows.{rows_end, row_found, row_passed}
use Rattle.names.proofs.find.Goals as goal

pub returns-then-is : goal.returns-then-is
returns-then-is c =
    sym
    (c.loop-word.invariant
    ∙ row_found c.args.table.now c.loop-word.word-index (uppers c.args.name.now) _ c.loop-word-test.true (sym c.is.ensures ∙ c.if-is.true))

pub loop-word-preserved : goal.loop-word-preserved
loop-word-preserved c =
    c.loop-word.invariant
    ∙ row_passed c.args.table.now c.loop-word.word-index (uppers c.args.name.now) _ c.loop-word-test.true (sym c.is.ensures ∙ c.if-is.false)

pub returns : goal.returns
returns c =
    sym (c.loop-word.invariant ∙ rows_end c.args.table.now c.loop-word.word-index (uppers c.args.name.now) (omega arith))
