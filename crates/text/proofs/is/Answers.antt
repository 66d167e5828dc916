use borrow.Author.Tests.{le-leb}
use Rattle.text.proofs.Sames.{same_answer_lem}
use Rattle.text.proofs.is.Goals as goal

pub returns-in-Some : goal.returns-in-Some
returns-in-Some c =
    let part = c.in-Some.ensures.lookup.0 in
    rw (le-leb _ _ part.0, le-leb _ _ part.1, ← part.2) (same_answer_lem _ _ c.same.result c.same.ensures.0 c.same.ensures.1)
