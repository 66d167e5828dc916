-- What decoding and encoding answer, in 01's numbers: a record that breaks the layout is "8 RECORD" with its first byte's offset; one that does not is its kind, where the next begins, and its numbers in
-- the layout's order; the end has no value. Where a record does not fit nothing is written, and there is no value.
use Rattle.std.specs.Prelude.{ℕ, List, [], ◌∷◌, Option, Some, None, Ok, Err}
use Rattle.base.specs.Refusals.{RECORD}
use Rattle.base.specs.Told.{Told, told, nothing}
use Rattle.records.specs.Layout.{kind_of, kind_of_order, flag_of}
use Rattle.records.specs.declared.Action.{Action}
use Rattle.records.specs.declared.Action.TheVariants.{Key, Enc, Adc, Midi, KeyVel, Pressure}
use Rattle.records.specs.declared.Order.{Order}
use Rattle.records.specs.declared.Order.TheVariants.{Read, Write, Step}
use Rattle.records.specs.declared.Body.{Body}
use Rattle.records.specs.declared.Body.TheVariants.{Timed as TimedBody, Order as OrderBody}
use Rattle.records.specs.Decoded.{TimedAt, RecordAt}

abbrev pub broken : ℕ → Told
broken at = record { number = RECORD; values = at ∷ [] }

-- "Key id, down 0 or 1; Enc enc, clicks (i32); Adc ch, value (2); Midi b; KeyVel vel; Pressure id, vel"
abbrev pub numbers_of : Action → List ℕ
numbers_of (Key id down) = id ∷ flag_of down ∷ []
numbers_of (Enc enc clicks) = enc ∷ clicks ∷ []
numbers_of (Adc ch value) = ch ∷ value ∷ []
numbers_of (Midi b) = b ∷ []
numbers_of (KeyVel vel) = vel ∷ []
numbers_of (Pressure id vel) = id ∷ vel ∷ []

abbrev pub numbers_of_order : Order → List ℕ
numbers_of_order (Read addr) = addr ∷ []
numbers_of_order (Write addr value) = addr ∷ value ∷ []
numbers_of_order (Step cycles) = cycles ∷ []

abbrev pub told_body : Body → ℕ → Told
told_body (TimedBody time action) next = told (kind_of action ∷ next ∷ time ∷ numbers_of action)
told_body (OrderBody order) next = told (kind_of_order order ∷ next ∷ numbers_of_order order)

unfoldable pub told_timed : TimedAt → Told
told_timed (Ok (Some t)) = told_body (TimedBody t.time t.action) t.next
told_timed (Ok None) = nothing
told_timed (Err b) = broken b.at

unfoldable pub told_record : RecordAt → Told
told_record (Ok (Some r)) = told_body r.body r.next
told_record (Ok None) = nothing
told_record (Err b) = broken b.at

unfoldable pub told_wrote : Option ℕ → Told
told_wrote (Some next) = told (next ∷ [])
told_wrote None = nothing
