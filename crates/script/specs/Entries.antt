-- The lent entries: what stands at a place, what the ring holds, and what look, push and take answer.
use Rattle.std.specs.Prelude.{ℕ, Bool, true, false, cond, not, ◌||◌, List, Option, Some, None, Result, Ok, Err, eqb, length, get_or, set}
use Rattle.base.specs.declared.Refusal.{Refusal}
use Rattle.base.specs.declared.Refusal.TheVariants.{Size, State, Full}
use Rattle.base.specs.Ring.{ring}
use Rattle.records.specs.declared.Action.TheVariants.{Key}
use Rattle.script.specs.declared.Script.{Script}
use Rattle.script.specs.declared.Entry.{Entry}
use Rattle.script.specs.declared.Front.{Front}
use Rattle.script.specs.declared.Spot.{Spot}
use Rattle.script.specs.declared.Took.{Took}
use Rattle.script.specs.Script.{entries, script_whole, spot_of, full_of, pushed_of, looked_of, next_place, taken_of}

-- what stands past the end
abbrev pub no_entry : Entry
no_entry = record { at = 0; action = Key 0 false }

-- the lent entries as a function from places
abbrev pub entries_at : List Entry → ℕ → Entry
entries_at ys i = get_or ys i no_entry

-- what waits, the front first: `count` entries from `place` on, round the end
abbrev pub contents_of : Script → List Entry → List Entry
contents_of s ys = ring no_entry entries ys s.place s.count

-- ---- a look

abbrev pub shown : ℕ → Entry → Front
shown n e = record { len = n; entry = e }

abbrev pub front_of : List Entry → ℕ → Front
front_of ys i = shown (length ys) (entries_at ys i)

-- none waits, or the lent front has the time that the record tells
abbrev pub agrees_of : Script → Front → Bool
agrees_of s f = eqb s.count 0 || eqb f.entry.at s.at

-- ---- refusals

-- "2 SIZE: a lent length differs"; "3 STATE: the record is not whole"
abbrev pub lent_of : Script → ℕ → Result (Unit {0}) Refusal
lent_of s n = cond (not (eqb n entries)) (Err Size) (cond (script_whole s) (Ok tt) (Err State))

-- "5 FULL: a push onto 256 waiting script entries"
abbrev pub room_of : Script → ℕ → Result (Unit {0}) Refusal
room_of s n = cond (not (eqb n entries)) (Err Size) (cond (script_whole s) (cond (full_of s) (Err Full) (Ok tt)) (Err State))

-- an answer, unless the call is refused
abbrev pub unless_refused : {A : Type 0} → Result (Unit {0}) Refusal → A → Result A Refusal
unless_refused (Ok _) a = Ok a
unless_refused (Err refusal) a = Err refusal

abbrev pub is_done : {A : Type 0} → Result A Refusal → Bool
is_done (Ok _) = true
is_done (Err _) = false

-- ---- a push

abbrev pub pushes : Script → ℕ → Bool
pushes s n = is_done (room_of s n)

abbrev pub spot_for : Script → ℕ → Entry → Result Spot Refusal
spot_for s n e = unless_refused (room_of s n) (record { ring = pushed_of s e.at; place = spot_of s })

-- the answer: the ring with one more
abbrev pub push_of : Script → ℕ → Entry → Result Script Refusal
push_of s n e = unless_refused (room_of s n) (pushed_of s e.at)

-- the lent entries after it: the entry in its spot, or all as they were
abbrev pub push_in : Script → List Entry → Entry → List Entry
push_in s ys e = cond (pushes s (length ys)) (set ys (spot_of s) e) ys

-- the ring that its holder goes on with: after a refusal its own
abbrev pub ring_pushed : Script → Result Script Refusal → Script
ring_pushed s (Ok ring) = ring
ring_pushed s (Err _) = s

-- ---- a take

-- by what stands at the front and behind it
abbrev pub took_of : Script → Front → Front → Option Took
took_of s f n = cond (eqb s.count 0) None (Some (record { ring = looked_of (taken_of s) n.entry.at; entry = f.entry }))

abbrev pub take_at : Script → Front → Front → Result (Option Took) Refusal
take_at s f n = unless_refused (lent_of s f.len) (took_of s f n)

abbrev pub take_of : Script → List Entry → Result (Option Took) Refusal
take_of s ys = take_at s (front_of ys s.place) (front_of ys (next_place s))

-- the ring that its holder goes on with: where none is taken its own
abbrev pub ring_taken : Script → Result (Option Took) Refusal → Script
ring_taken s (Ok (Some t)) = t.ring
ring_taken s (Ok None) = s
ring_taken s (Err _) = s
