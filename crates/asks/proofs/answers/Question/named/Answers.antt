use Rattle.text.proofs.Rows.{row-found}
use Rattle.asks.specs.Answered.{question_named}
use Rattle.asks.proofs.answers.Question.named.Goals as goal

pub returns : goal.returns
unfolding question_named
returns c = rw row-found at c.find.ensures
