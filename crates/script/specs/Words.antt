-- The script as plain words, two an entry: the time, and the action.
use Rattle.std.specs.Prelude.{ℕ, ◌+◌, ◌*◌, ◌/◌, ◌%◌, ◌^◌, cond, List, eqb, length, get_or}
use Rattle.records.specs.Layout.{flag_of}
use Rattle.records.specs.declared.Action.{Action}
use Rattle.records.specs.declared.Action.TheVariants.{Key, Enc, Adc, Midi, KeyVel, Pressure}
use Rattle.script.specs.declared.Entry.{Entry}

-- the kind in three bits, the first field in eight, the second above
abbrev pub packed : ℕ → ℕ → ℕ → ℕ
packed kind first second = kind + 8 * first + 0x800 * second

-- the kinds are numbered from 0, in the order of the actions
abbrev pub word_of : Action → ℕ
word_of (Key id down) = packed 0 id (flag_of down)
word_of (Enc enc clicks) = packed 1 enc clicks
word_of (Adc ch value) = packed 2 ch value
word_of (Midi b) = packed 3 b 0
word_of (KeyVel vel) = packed 4 vel 0
word_of (Pressure id vel) = packed 5 id vel

abbrev pub first_in : ℕ → ℕ
first_in w = w / 8 % 2 ^ 8

-- the second field, of so many values
abbrev pub second_in : ℕ → ℕ → ℕ
second_in many w = w / 0x800 % many

-- every word is an action: the two kinds that are none are read as Pressure
unfoldable pub action_of : ℕ → Action
action_of w =
    cond (eqb (w % 8) 0) (Key (first_in w) (eqb (second_in 2 w) 1))
    (cond (eqb (w % 8) 1) (Enc (first_in w) (second_in (2 ^ 32) w))
    (cond (eqb (w % 8) 2) (Adc (first_in w) (second_in (2 ^ 16) w))
    (cond (eqb (w % 8) 3) (Midi (first_in w))
    (cond (eqb (w % 8) 4) (KeyVel (first_in w))
    (Pressure (first_in w) (second_in (2 ^ 8) w))))))

abbrev pub entry_of : ℕ → ℕ → Entry
entry_of at w = record { at = at; action = action_of w }

-- the words as a function from places
abbrev pub words_at : List ℕ → ℕ → Entry
words_at ws i = entry_of (get_or ws (2 * i) 0) (get_or ws (2 * i + 1) 0)

-- how many entries so many words are: an odd number of words is no script
abbrev pub places_of : ℕ → ℕ
places_of n = cond (eqb (n % 2) 0) (n / 2) 0

abbrev pub places_in : List ℕ → ℕ
places_in ws = places_of (length ws)
