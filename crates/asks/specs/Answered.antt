-- What a line is answered.
use Rattle.std.specs.Prelude.{ℕ, true, false, cond, List, [], ◌∷◌, Option, Some, None, unwrap_or}
use Rattle.std.specs.Option.{option_map}
use Prim.Native.String.{String}
use Rattle.line_answer.specs.declared.Answer.{Answer}
use Rattle.line_answer.specs.declared.Answer.TheVariants.{Number, NoValue, NoCall, NoLine}
use Rattle.line_ask.specs.Asks.{id_in}
use Rattle.text.specs.Tables.{named}
use Rattle.line_ask.specs.WordsIn.{behind}
use Rattle.text.specs.Spans.{bytes_in, is_passed_over, word_at}
use Rattle.text.specs.declared.Span.{Span}
use Rattle.asks_records.specs.Recited.{record_in}
use Rattle.asks_times.specs.Forces.{ramp_in}
use Rattle.asks_times.specs.Questions.{reckoned_in}
use Rattle.asks.specs.declared.answers.Question.{Question}
use Rattle.asks.specs.declared.answers.Question.TheVariants as q

abbrev pub question_names : List (String × Question)
question_names =
    ("keyid", q.KeyId) ∷ ("encid", q.EncId) ∷ ("force", q.Force) ∷ ("record", q.Record) ∷ []

unfoldable pub question_named : List ℕ → Option Question
question_named = named question_names

-- a name's id or `none`
unfoldable pub id_answer : Option ℕ → Answer
id_answer (Some k) = Number k
id_answer None = NoValue

-- the questions that do not take plain numbers alone
unfoldable pub asked_of : Question → List ℕ → Span → Option Answer
asked_of q.KeyId line w = option_map id_answer (id_in line w true)
asked_of q.EncId line w = option_map id_answer (id_in line w false)
asked_of q.Force line w = option_map Number (ramp_in line w)
asked_of q.Record line w = record_in line w

-- these, and all others
abbrev pub answer_as : Option Question → List ℕ → Span → Option Answer
answer_as (Some q) line w = asked_of q line (behind line w)
answer_as None line w = option_map Number (reckoned_in line w)

unfoldable pub answer_in : List ℕ → Span → Option Answer
answer_in line w = answer_as (question_named (bytes_in line w)) line w

-- a remark or an empty line has no answer; "`?` where it asks nothing that is known here or lies outside 01's domain"
unfoldable pub answer_to : List ℕ → Answer
answer_to line = cond (is_passed_over line) NoLine (unwrap_or (answer_in line (word_at line 0)) NoCall)
