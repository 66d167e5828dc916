-- Notes by name, through MIDI 1.0's key numbers: 60 is middle C, which is named C4, and an octave has twelve keys.
use Rattle.std.specs.Prelude.{ℕ, ◌+◌, ◌-◌, ◌*◌, ◌&&◌, cond, List, eqb, leb, length, get_or, drop, Option, None, Some, option_and_then}
use Prim.Native.Char.{code}
use Rattle.names.specs.Numbers.{number_of}

-- `sharp` and `flat` are 0 or 1
abbrev pub key_number : ℕ → ℕ → ℕ → ℕ → ℕ
key_number octave semitone sharp flat = 12 * (octave + 1) + semitone + sharp - flat

-- a letter's semitones above the C of its octave
unfoldable pub semitone_of : ℕ → Option ℕ
semitone_of letter =
    cond (eqb letter (code "C")) (Some 0)
    (cond (eqb letter (code "D")) (Some 2)
    (cond (eqb letter (code "E")) (Some 4)
    (cond (eqb letter (code "F")) (Some 5)
    (cond (eqb letter (code "G")) (Some 7)
    (cond (eqb letter (code "A")) (Some 9)
    (cond (eqb letter (code "B")) (Some 11)
    None))))))

abbrev pub in_octave : ℕ → ℕ → ℕ → List ℕ → Option ℕ
in_octave semitone sharp flat octave = option_and_then (λ o. Some (key_number o semitone sharp flat)) (number_of octave)

-- after the letter a sharp, or in a name of three bytes a flat, whose `b` is a B in upper case; then the octave
unfoldable pub after_letter : List ℕ → ℕ → Option ℕ
after_letter n semitone =
    cond (eqb (get_or n 1 0) (code "#")) (in_octave semitone 1 0 (drop 2 n))
    (cond (eqb (get_or n 1 0) (code "B") && eqb (length n) 3) (in_octave semitone 0 1 (drop 2 n))
    (in_octave semitone 0 0 (drop 1 n)))

unfoldable pub note_number : List ℕ → Option ℕ
note_number n = option_and_then (after_letter n) (semitone_of (get_or n 0 0))

-- the keyboard's 27 keys are F3 to G5; their ids follow those of the fourteen buttons
abbrev pub lowest_key : ℕ
lowest_key = 53

abbrev pub highest_key : ℕ
highest_key = 79

abbrev pub first_note_id : ℕ
first_note_id = 14

unfoldable pub key_of_number : ℕ → Option ℕ
key_of_number number =
    cond (leb lowest_key number && leb number highest_key) (Some (number - lowest_key + first_note_id)) None
