-- The layout of a record, document 01, "Records and driver".
use Rattle.std.specs.Prelude.{Bool, cond, not, ◌&&◌, ◌||◌, List, ◌++◌, ℕ, eqb, ltb, leb, length}
use Rattle.records.specs.Le.{le, number_at}
use Rattle.records.specs.declared.Action.{Action}
use Rattle.records.specs.declared.Action.TheVariants.{Key, Enc, Adc, Midi, KeyVel, Pressure}
use Rattle.records.specs.declared.Order.{Order}
use Rattle.records.specs.declared.Order.TheVariants.{Read, Write, Step}

-- "Kinds 1 to 6": an action with its time.
abbrev pub is_timed : ℕ → Bool
is_timed kind = leb 1 kind && leb kind 6

-- "Driver only: 0x101 read; 0x102 write; 0x103 step."
abbrev pub is_order : ℕ → Bool
is_order kind = leb 0x101 kind && leb kind 0x103

-- "Lengths 14, 17, 15, 13, 13, 14", the driver's own 8, 12, 12; 0 for a kind that there is not.
unfoldable pub length_of : ℕ → ℕ
length_of kind =
    cond (eqb kind 1) 14
    (cond (eqb kind 2) 17
    (cond (eqb kind 3) 15
    (cond (eqb kind 4) 13
    (cond (eqb kind 5) 13
    (cond (eqb kind 6) 14
    (cond (eqb kind 0x101) 8
    (cond (eqb kind 0x102) 12
    (cond (eqb kind 0x103) 12
    0))))))))

abbrev pub kind_of : Action → ℕ
kind_of (Key id down) = 1
kind_of (Enc enc clicks) = 2
kind_of (Adc ch value) = 3
kind_of (Midi b) = 4
kind_of (KeyVel vel) = 5
kind_of (Pressure id vel) = 6

abbrev pub kind_of_order : Order → ℕ
kind_of_order (Read addr) = 0x101
kind_of_order (Write addr value) = 0x102
kind_of_order (Step cycles) = 0x103

-- "down 0 or 1"
abbrev pub flag_of : Bool → ℕ
flag_of down = cond down 1 0

-- "body: Key id, down 0 or 1; Enc enc, clicks (i32); Adc ch, value (2); Midi b; KeyVel vel; Pressure id, vel."
abbrev pub body_of : Action → List ℕ
body_of (Key id down) = le 1 id ++ le 1 (flag_of down)
body_of (Enc enc clicks) = le 1 enc ++ le 4 clicks
body_of (Adc ch value) = le 1 ch ++ le 2 value
body_of (Midi b) = le 1 b
body_of (KeyVel vel) = le 1 vel
body_of (Pressure id vel) = le 1 id ++ le 1 vel

-- "0x101 read, address (4); 0x102 write, address and value (4 each); 0x103 step, cycles (8)."
abbrev pub body_of_order : Order → List ℕ
body_of_order (Read addr) = le 4 addr
body_of_order (Write addr value) = le 4 addr ++ le 4 value
body_of_order (Step cycles) = le 8 cycles

-- "Length of the whole record (2 bytes), kind (2), little-endian."
abbrev pub head_of : ℕ → List ℕ
head_of kind = le 2 (length_of kind) ++ le 2 kind

-- "Kinds 1 to 6 go on with the time (8) and body"
unfoldable pub bytes_of_timed : ℕ → Action → List ℕ
bytes_of_timed time action = head_of (kind_of action) ++ (le 8 time ++ body_of action)

unfoldable pub bytes_of_order : Order → List ℕ
bytes_of_order order = head_of (kind_of_order order) ++ body_of_order order

-- The same places, read: s are the bytes that are left, from the record's first on.
abbrev pub length_in : List ℕ → ℕ
length_in s = number_at 0 2 s

abbrev pub kind_in : List ℕ → ℕ
kind_in s = number_at 2 2 s

abbrev pub time_in : List ℕ → ℕ
time_in s = number_at 4 8 s

unfoldable pub action_in : ℕ → List ℕ → Action
action_in kind s =
    cond (eqb kind 1) (Key (number_at 12 1 s) (eqb (number_at 13 1 s) 1))
    (cond (eqb kind 2) (Enc (number_at 12 1 s) (number_at 13 4 s))
    (cond (eqb kind 3) (Adc (number_at 12 1 s) (number_at 13 2 s))
    (cond (eqb kind 4) (Midi (number_at 12 1 s))
    (cond (eqb kind 5) (KeyVel (number_at 12 1 s))
    (Pressure (number_at 12 1 s) (number_at 13 1 s))))))

unfoldable pub order_in : ℕ → List ℕ → Order
order_in kind s =
    cond (eqb kind 0x101) (Read (number_at 4 4 s))
    (cond (eqb kind 0x102) (Write (number_at 4 4 s) (number_at 8 4 s))
    (Step (number_at 4 8 s)))

-- "A record breaks the layout when: one to three bytes are left; its kind is none of 1 to 6, 0x101, 0x102, 0x103; its
-- length is not exactly its kind's; fewer bytes are left than its length; it is a Key whose `down` is neither 0 nor 1."
abbrev pub breaks_layout : List ℕ → Bool
breaks_layout s =
    ltb (length s) 4
    || eqb (length_of (kind_in s)) 0
    || not (eqb (length_in s) (length_of (kind_in s)))
    || ltb (length s) (length_in s)
    || (eqb (kind_in s) 1 && ltb 1 (number_at 13 1 s))

-- the kind of the record that s begins with, 0 where it breaks the layout
unfoldable pub whole_kind : List ℕ → ℕ
whole_kind s = cond (breaks_layout s) 0 (kind_in s)
