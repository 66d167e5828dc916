-- The ids of keys and encoders by name.
use Rattle.std.specs.Prelude.{ℕ, List, [], ◌∷◌, Option, option_and_then}
use Prim.Native.String.{String}
use Rattle.std.specs.Option.{option_or}
use Rattle.names.specs.Ascii.{bytes, uppers}
use Rattle.names.specs.Words.{look_up}
use Rattle.names.specs.Numbers.{numbered}
use Rattle.names.specs.Midi.{note_number, first_note_id, key_of_number}

abbrev pub buttons : List (String × ℕ)
buttons =
    ("OCTDN", 0) ∷ ("OCTUP", 1) ∷ ("FX", 2) ∷ ("SCL", 3) ∷ ("ENV", 4) ∷ ("LFO", 5) ∷ ("EDIT", 6)
    ∷ ("GLO", 7) ∷ ("HOME", 8) ∷ ("SAVE", 9) ∷ ("ARP", 10) ∷ ("SEQ", 11) ∷ ("PLAY", 12) ∷ ("REC", 13) ∷ []

-- "The fourteen button names, compared as upper-case bytes, then K0 to K40, notes F3 to G5, N0 to N26. [..] Anything else
-- gives none."
unfoldable pub key_of : List ℕ → Option ℕ
key_of n =
    -- a button
    option_or (look_up buttons n)
    -- K0 to K40, the ids 0 to 40
    (option_or (numbered (bytes "K") 41 0 n)
    -- a note of the keyboard
    (option_or (option_and_then key_of_number (note_number n))
    -- N0 to N26, the ids 14 to 40
    (numbered (bytes "N") 27 first_note_id n)))

unfoldable pub key_id_of : List ℕ → Option ℕ
key_id_of name = key_of (uppers name)

abbrev pub encoders : List (String × ℕ)
encoders =
    ("SELECT", 0) ∷ ("ALGO", 1) ∷ ("ALGORITHM", 1) ∷ ("PRESET", 6) ∷ ("PRESETS", 6)
    ∷ ("K1", 2) ∷ ("K2", 3) ∷ ("K3", 4) ∷ ("K4", 5) ∷ []

-- "Encoders: the source's names, K1 to K4 as 2 to 5, then ENC0 to ENC6. Anything else gives none."
unfoldable pub enc_of : List ℕ → Option ℕ
enc_of n =
    option_or (look_up encoders n)
    -- ENC0 to ENC6, the ids 0 to 6
    (numbered (bytes "ENC") 7 0 n)

unfoldable pub enc_id_of : List ℕ → Option ℕ
enc_id_of name = enc_of (uppers name)
