use Rattle.text.proofs.Rows.{row-found}
use Rattle.asks_times.specs.Questions.{question_named}
use Rattle.asks_times.proofs.Question.named.Goals as goal

pub returns : goal.returns
unfolding question_named
returns c = rw row-found at c.find.ensures
