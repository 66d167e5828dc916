-- What is told of an answer gives it back.
use mathlib.Core.Path.{◌≡◌, refl, sym, ◌∙◌, ap}
use mathlib.Core.Bool.{true, false, cond}
use Prim.Native.Nat.{ℕ}
use lib.Dec.{eqb, leb}
use Rattle.std.specs.Prelude.{Option, Some, None, Ok, Err}
use Rattle.audio.specs.Told.{told_half}
use Rattle.audio.specs.declared.Half.{Half}
use Rattle.base.specs.Refusals.{RECORD}
use Rattle.base.specs.Told.{Told, says, value_at}
use Rattle.irq.specs.Told.{told_choice}
use Rattle.irq.specs.declared.Choice.{Choice}
use Rattle.names.specs.Told.{told_id}
use Rattle.p33.specs.Told.{told_event}
use Rattle.p33.specs.declared.Event.{Event}
use Rattle.p33.specs.declared.Event.TheVariants as event
use Rattle.records.specs.Told.{told_timed, told_record, told_wrote}
use Rattle.records.specs.declared.Action.{Action}
use Rattle.records.specs.declared.Action.TheVariants.{Key, Enc, Adc, Midi, KeyVel, Pressure}
use Rattle.records.specs.declared.Order.{Order}
use Rattle.records.specs.declared.Order.TheVariants.{Read, Write, Step}
use Rattle.records.specs.declared.Body.{Body}
use Rattle.records.specs.declared.Body.TheVariants as body
use Rattle.records.specs.Decoded.{TimedAt, RecordAt, timed_at, record_at, broken_at}
use Rattle.regs.specs.Told.{told_value}
use Rattle.uart.specs.Told.{told_byte}
use Rattle.uart.specs.declared.Byte.{Byte}
use Rattle.promises.specs.Told.{Apart, ToldApart}

apart : {A : Type 0} (tell : A → Told) (back : Told → A) → ((x : A) → back (tell x) ≡ x) → Apart A tell
apart tell back b x y e = sym (b x) ∙ ap back e ∙ b y

-- ---- a value, or none

id_of : Told → Option ℕ
id_of t = cond (says t) (Some (value_at t 0)) None

id-back : (x : Option ℕ) → id_of (told_id x) ≡ x
unfolding id_of told_id
id-back (Some n) = refl
id-back None = refl

choice_of : Told → Option Choice
choice_of t = cond (says t) (Some (record { irq = value_at t 0; prio = value_at t 1 })) None

choice-back : (x : Option Choice) → choice_of (told_choice x) ≡ x
unfolding choice_of told_choice
choice-back (Some x) = refl
choice-back None = refl

value_of : Told → Option ℕ
value_of t = cond (says t) (Some (value_at t 0)) None

value-back : (x : Option ℕ) → value_of (told_value x) ≡ x
unfolding value_of told_value
value-back (Some n) = refl
value-back None = refl

half_of : Told → Option Half
half_of t = cond (says t) (Some (record { addr = value_at t 0; words = value_at t 1 })) None

half_back : (x : Option Half) → half_of (told_half x) ≡ x
unfolding half_of told_half
half_back (Some x) = refl
half_back None = refl

byte_of : Told → Option Byte
byte_of t = cond (says t) (Some (record { addr = value_at t 0; b = value_at t 1 })) None

byte-back : (x : Option Byte) → byte_of (told_byte x) ≡ x
unfolding byte_of told_byte
byte-back (Some x) = refl
byte-back None = refl

event_of : Told → Option Event
event_of t = cond (says t) (Some (cond (eqb (value_at t 0) 3) event.Reset (event.Wdt (eqb (value_at t 0) 2)))) None

event-back : (x : Option Event) → event_of (told_event x) ≡ x
unfolding event_of told_event
event-back None = refl
event-back (Some (event.Wdt true)) = refl
event-back (Some (event.Wdt false)) = refl
event-back (Some event.Reset) = refl

wrote_of : Told → Option ℕ
wrote_of t = cond (says t) (Some (value_at t 0)) None

wrote-back : (x : Option ℕ) → wrote_of (told_wrote x) ≡ x
unfolding wrote_of told_wrote
wrote-back (Some next) = refl
wrote-back None = refl

-- ---- records: the kind says which numbers follow

action_of : ℕ → ℕ → ℕ → Action
action_of kind a b =
    cond (eqb kind 1) (Key a (eqb b 1))
    (cond (eqb kind 2) (Enc a b)
    (cond (eqb kind 3) (Adc a b)
    (cond (eqb kind 4) (Midi a)
    (cond (eqb kind 5) (KeyVel a)
    (Pressure a b)))))

order_of : ℕ → ℕ → ℕ → Order
order_of kind a b = cond (eqb kind 0x101) (Read a) (cond (eqb kind 0x102) (Write a b) (Step a))

timed_of : Told → TimedAt
timed_of t =
    cond (eqb t.number RECORD) (broken_at (value_at t 0))
    (cond (says t) (timed_at (value_at t 2) (action_of (value_at t 0) (value_at t 3) (value_at t 4)) (value_at t 1)) (Ok None))

timed-back-at : (time : ℕ) (a : Action) (next : ℕ) → timed_of (told_timed (timed_at time a next)) ≡ timed_at time a next
unfolding timed_of action_of told_timed
timed-back-at time (Key k true) next = refl
timed-back-at time (Key k false) next = refl
timed-back-at time (Enc enc clicks) next = refl
timed-back-at time (Adc ch v) next = refl
timed-back-at time (Midi b) next = refl
timed-back-at time (KeyVel vel) next = refl
timed-back-at time (Pressure k vel) next = refl

timed-back : (x : TimedAt) → timed_of (told_timed x) ≡ x
unfolding timed_of told_timed
timed-back (Ok (Some t)) = timed-back-at t.time t.action t.next
timed-back (Ok None) = refl
timed-back (Err b) = refl

record_of : Told → RecordAt
record_of t =
    cond (eqb t.number RECORD) (broken_at (value_at t 0))
    (cond (says t)
    (cond (leb 0x101 (value_at t 0)) (record_at (body.Order (order_of (value_at t 0) (value_at t 2) (value_at t 3))) (value_at t 1))
    (record_at (body.Timed (value_at t 2) (action_of (value_at t 0) (value_at t 3) (value_at t 4))) (value_at t 1)))
    (Ok None))

record-back-at : (b : Body) (next : ℕ) → record_of (told_record (record_at b next)) ≡ record_at b next
unfolding record_of action_of order_of told_record
record-back-at (body.Timed time (Key k true)) next = refl
record-back-at (body.Timed time (Key k false)) next = refl
record-back-at (body.Timed time (Enc enc clicks)) next = refl
record-back-at (body.Timed time (Adc ch v)) next = refl
record-back-at (body.Timed time (Midi b)) next = refl
record-back-at (body.Timed time (KeyVel vel)) next = refl
record-back-at (body.Timed time (Pressure k vel)) next = refl
record-back-at (body.Order (Read addr)) next = refl
record-back-at (body.Order (Write addr v)) next = refl
record-back-at (body.Order (Step cycles)) next = refl

record-back : (x : RecordAt) → record_of (told_record x) ≡ x
unfolding record_of told_record
record-back (Ok (Some r)) = record-back-at r.body r.next
record-back (Ok None) = refl
record-back (Err b) = refl

pub told-apart : ToldApart
told-apart =
    record {
      ids = apart told_id id_of id-back;
      choices = apart told_choice choice_of choice-back;
      values = apart told_value value_of value-back;
      halves = apart told_half half_of half_back;
      bytes = apart told_byte byte_of byte-back;
      events = apart told_event event_of event-back;
      timed = apart told_timed timed_of timed-back;
      records = apart told_record record_of record-back;
      wrote = apart told_wrote wrote_of wrote-back;
    }
