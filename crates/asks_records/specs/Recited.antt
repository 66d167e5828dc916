-- A record as an answer: "time, action and where the next begins".
use Rattle.std.specs.Prelude.{ℕ, cond, List, drop, replicate, Option, Some, None, Ok, Err}
use Rattle.std.specs.Option.{option_map, option_and_then}
use Rattle.base.specs.Signed.{is_negative}
use Rattle.base.specs.Wrap.{minus32}
use Rattle.line_answer.specs.declared.Answer.{Answer}
use Rattle.line_answer.specs.declared.Answer.TheVariants as answer
use Rattle.line_answer.specs.declared.records.Record.{Record}
use Rattle.line_answer.specs.declared.records.Record.TheVariants as told
use Rattle.line_ask.specs.Numbers.{one_in}
use Rattle.line_ask.specs.WordsIn.{behind}
use Rattle.records.specs.Decoded.{RecordAt, record_of}
use Rattle.records.specs.Layout.{bytes_of_timed, bytes_of_order}
use Rattle.records.specs.declared.Action.{Action}
use Rattle.records.specs.declared.Action.TheVariants.{Key, Enc, Adc, Midi, KeyVel, Pressure}
use Rattle.records.specs.declared.Order.{Order}
use Rattle.records.specs.declared.Order.TheVariants.{Read, Write, Step}
use Rattle.records.specs.declared.Body.{Body}
use Rattle.records.specs.declared.Body.TheVariants.{Timed, Order as Ordered}
use Rattle.text.specs.HexBytes.{unhexed_answer, unhexed_bytes}
use Rattle.text.specs.Numerals.{decimal_in}
use Rattle.text.specs.Putting.{first_of}
use Rattle.text.specs.Spans.{bytes_in}
use Rattle.text.specs.declared.Span.{Span}
use Rattle.asks_records.specs.Again.{is_again}

-- clicks are an i32's bits: below 0 with a minus
unfoldable pub clicks_record : ℕ → ℕ → ℕ → Record
clicks_record time enc clicks =
    cond (is_negative clicks) (told.EncBack time enc (minus32 0 clicks)) (told.Enc time enc clicks)

-- the time and the action's numbers
unfoldable pub action_record : Action → ℕ → Record
action_record (Key id down) time = told.Key time id down
action_record (Enc enc clicks) time = clicks_record time enc clicks
action_record (Adc ch value) time = told.Adc time ch value
action_record (Midi b) time = told.Midi time b
action_record (KeyVel vel) time = told.KeyVel time vel
action_record (Pressure id vel) time = told.Pressure time id vel

unfoldable pub order_record : Order → Record
order_record (Read addr) = told.Read addr
order_record (Write addr value) = told.Write addr value
order_record (Step cycles) = told.Step cycles

-- where the next begins, and whether the record comes back as the bytes that it was read from
unfoldable pub body_answer : List ℕ → ℕ → Body → ℕ → Answer
body_answer bytes at (Timed time action) next =
    answer.Recorded (action_record action time) next (is_again bytes at next (bytes_of_timed time action))
body_answer bytes at (Ordered order) next =
    answer.Recorded (order_record order) next (is_again bytes at next (bytes_of_order order))

unfoldable pub found_answer : List ℕ → ℕ → RecordAt → Answer
found_answer bytes at (Ok (Some r)) = body_answer bytes at r.body r.next
found_answer bytes at (Ok None) = answer.End
found_answer bytes at (Err b) = answer.Broken b.at

unfoldable pub record_answer : List ℕ → ℕ → Answer
record_answer bytes at = found_answer bytes at (record_of (drop at bytes) at)

-- some bytes as pairs of hex digits
unfoldable pub bytes_answer : List ℕ → ℕ → Option Answer
bytes_answer word at =
    option_map
    (λ n. record_answer (first_of (unhexed_bytes word (replicate 2048 0)) n) at)
    (unhexed_answer word (replicate 2048 0))

-- `HEX AT`: some bytes, an offset of them, and no word more
unfoldable pub record_in : List ℕ → Span → Option Answer
record_in line w = option_and_then (bytes_answer (bytes_in line w)) (one_in decimal_in line (behind line w))
