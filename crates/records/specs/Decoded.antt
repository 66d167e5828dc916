-- What decoding finds in the bytes that are left, s, where the first of them has the offset `at`. An offset past the end
-- leaves no byte.
use Rattle.std.specs.Prelude.{cond, List, Option, Some, None, Result, Ok, Err, ℕ, ◌+◌, eqb, length}
use Rattle.records.specs.Layout.{is_timed, is_order, length_of, time_in, action_in, order_in, whole_kind}
use Rattle.records.specs.declared.Action.{Action}
use Rattle.records.specs.declared.Body.{Body}
use Rattle.records.specs.declared.Body.TheVariants.{Timed as TimedBody, Order as OrderBody}
use Rattle.records.specs.declared.Broken.{Broken}
use Rattle.records.specs.declared.Order.{Order}
use Rattle.records.specs.declared.Record.{Record}
use Rattle.records.specs.declared.Timed.{Timed}

-- what is found at an offset: a record, none where no byte is left, or bytes that break the layout
abbrev pub TimedAt : Type 0
TimedAt = Result (Option Timed) Broken

abbrev pub RecordAt : Type 0
RecordAt = Result (Option Record) Broken

abbrev pub timed_at : ℕ → Action → ℕ → TimedAt
timed_at time action next = Ok (Some (record { time = time; action = action; next = next }))

abbrev pub record_at : Body → ℕ → RecordAt
record_at body next = Ok (Some (record { body = body; next = next }))

abbrev pub any_at : ℕ → Action → ℕ → RecordAt
any_at time action next = record_at (TimedBody time action) next

abbrev pub order_at : Order → ℕ → RecordAt
order_at order next = record_at (OrderBody order) next

abbrev pub broken_at : {A : Type 0} → ℕ → Result (Option A) Broken
broken_at at = Err (record { at = at })

-- "Kinds 1 to 6": the time, the action and where the next record begins; any other kind, and 0 for no kind, is broken.
abbrev pub timed_by : ℕ → List ℕ → ℕ → TimedAt
timed_by kind s at =
    cond (is_timed kind)
    (timed_at (time_in s) (action_in kind s) (at + length_of kind))
    (broken_at at)

-- No record exactly where no byte is left.
unfoldable pub timed_of : List ℕ → ℕ → TimedAt
timed_of s at = cond (eqb (length s) 0) (Ok None) (timed_by (whole_kind s) s at)

abbrev pub any_of : TimedAt → RecordAt
any_of (Ok (Some t)) = any_at t.time t.action t.next
any_of (Ok None) = Ok None
any_of (Err broken) = Err broken

-- "Driver only": an order where the bytes are one, else what `timed_of` finds.
unfoldable pub record_of : List ℕ → ℕ → RecordAt
record_of s at =
    cond (is_order (whole_kind s))
    (order_at (order_in (whole_kind s) s) (at + length_of (whole_kind s)))
    (any_of (timed_of s at))
