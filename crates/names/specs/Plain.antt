-- What names are accepted, in plain terms: each constructor is a form of name, in upper case, with the id that it stands for.
-- proofs/Exact.antt proves that the definitions of Names.antt accept these names with these ids, and no others.
use Rattle.std.specs.Prelude.{ℕ, ◌+◌, ◌-◌, ◌*◌, ◌≤◌, ◌<◌}
use Prim.Native.Char.{code}
use Prim.Native.String.{String}
use mathlib.Core.List.{List, [], ◌∷◌, ◌++◌, Memᴰ}
use Rattle.names.specs.Ascii.{bytes}
use Rattle.names.specs.Midi.{key_number, lowest_key, highest_key, first_note_id}
use Rattle.names.specs.Names.{buttons, encoders}

-- digits and their value: one digit, or digits and one digit more
pub data Decimal : List ℕ → ℕ → Type 0 where
  one : {d : ℕ} → d < 10 → Decimal ((code "0" + d) ∷ []) d
  more : {s : List ℕ} {v d : ℕ} → Decimal s v → d < 10 → Decimal (s ++ ((code "0" + d) ∷ [])) (v * 10 + d)

pub data Numeral : List ℕ → ℕ → Type 0 where
  plain : {s : List ℕ} {v : ℕ} → Decimal s v → Numeral s v
  plus : {s : List ℕ} {v : ℕ} → Decimal s v → Numeral (bytes "+" ++ s) v

-- a note's letter and its semitones above C
pub data Letter : ℕ → ℕ → Type 0 where
  letter-C : Letter (code "C") 0
  letter-D : Letter (code "D") 2
  letter-E : Letter (code "E") 4
  letter-F : Letter (code "F") 5
  letter-G : Letter (code "G") 7
  letter-A : Letter (code "A") 9
  letter-B : Letter (code "B") 11

-- a note's name and its key number: letter and octave, with a sharp between them, or a flat before an octave of one byte
pub data Note : List ℕ → ℕ → Type 0 where
  natural : {l semitone octave : ℕ} {s : List ℕ} → Letter l semitone → Numeral s octave
      → Note (l ∷ s) (key_number octave semitone 0 0)
  sharp : {l semitone octave : ℕ} {s : List ℕ} → Letter l semitone → Numeral s octave
      → Note (l ∷ (bytes "#" ++ s)) (key_number octave semitone 1 0)
  flat : {l semitone octave b : ℕ} → Letter l semitone → Numeral (b ∷ []) octave
      → Note (l ∷ (bytes "B" ++ (b ∷ []))) (key_number octave semitone 0 1)

pub data KeyName : List ℕ → ℕ → Type 0 where
  button : {word : String} {i : ℕ} → Memᴰ (word, i) buttons → KeyName (bytes word) i
  key : {s : List ℕ} {k : ℕ} → Numeral s k → k ≤ 40 → KeyName (bytes "K" ++ s) k
  note : {n : List ℕ} {number : ℕ} → Note n number → lowest_key ≤ number → number ≤ highest_key
      → KeyName n (number - lowest_key + first_note_id)
  note_key : {s : List ℕ} {k : ℕ} → Numeral s k → k ≤ 26 → KeyName (bytes "N" ++ s) (first_note_id + k)

pub data EncName : List ℕ → ℕ → Type 0 where
  named : {word : String} {i : ℕ} → Memᴰ (word, i) encoders → EncName (bytes word) i
  enc : {s : List ℕ} {k : ℕ} → Numeral s k → k ≤ 6 → EncName (bytes "ENC" ++ s) k
