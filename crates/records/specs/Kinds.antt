-- The nine kinds by name, each with document 01's number, and what a record of any kind holds.
use Rattle.std.specs.Prelude.{cond, List, Option, Some, None, ◌≡◌, ℕ, ◌≤◌, length}
use Rattle.records.specs.Layout.{is_order, length_of, kind_of, kind_of_order, bytes_of_timed, bytes_of_order, time_in, action_in, order_in, whole_kind}
use Rattle.records.specs.declared.Kind.{Kind}
use Rattle.records.specs.declared.Kind.TheVariants.{Key, Enc, Adc, Midi, KeyVel, Pressure, Read, Write, Step}
use Rattle.records.specs.declared.Body.{Body}
use Rattle.records.specs.declared.Body.TheVariants.{Timed, Order}

abbrev pub number_of : Kind → ℕ
number_of Key = 1
number_of Enc = 2
number_of Adc = 3
number_of Midi = 4
number_of KeyVel = 5
number_of Pressure = 6
number_of Read = 0x101
number_of Write = 0x102
number_of Step = 0x103

-- an action with its time, or an order
abbrev pub kind_of_body : Body → ℕ
kind_of_body (Timed time action) = kind_of action
kind_of_body (Order order) = kind_of_order order

abbrev pub bytes_of : Body → List ℕ
bytes_of (Timed time action) = bytes_of_timed time action
bytes_of (Order order) = bytes_of_order order

abbrev pub body_in : ℕ → List ℕ → Body
body_in kind s = cond (is_order kind) (Order (order_in kind s)) (Timed (time_in s) (action_in kind s))

-- What a search for a kind ensures: it is the one that the layout gives, and its record is all there.
abbrev pub Found : List ℕ → Option Kind → Type 0
Found s None = whole_kind s ≡ 0
Found s (Some kind) = (number_of kind ≡ whole_kind s) × (length_of (number_of kind) ≤ length s)
