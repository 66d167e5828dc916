use Rattle.text.proofs.Runs.{nothing, reaches_end}
use Rattle.std.proofs.Common.{rules}
use native.Mathlib.Nat.{zero-add}
use borrow.Author.Tests.{ne_eqb}
use Rattle.text.proofs.is_passed_over.Goals as goal

pub returns-then-is_empty : goal.returns-then-is_empty
returns-then-is_empty c = nothing c.args.line.now (search rules)

pub returns : goal.returns
returns c = rw (c.run_end.ensures, ne_eqb _ _ c.if-line-eq35.false, zero-add) (reaches_end c.args.line.now)
