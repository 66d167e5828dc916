-- What the code's types say of its numbers: the theorems on records hold of these.
use Rattle.std.specs.Prelude.{List, ℕ, ◌<◌, ◌^◌, get_or}
use Rattle.records.specs.declared.Action.{Action}
use Rattle.records.specs.declared.Action.TheVariants.{Key, Enc, Adc, Midi, KeyVel, Pressure}
use Rattle.records.specs.declared.Order.{Order}
use Rattle.records.specs.declared.Order.TheVariants.{Read, Write, Step}

-- each element is a byte
abbrev pub AreBytes : List ℕ → Type 0
AreBytes s = (i : ℕ) → get_or s i 0 < 2 ^ 8

abbrev pub FitsAction : Action → Type 0
FitsAction (Key id down) = id < 2 ^ 8
FitsAction (Enc enc clicks) = (enc < 2 ^ 8) × (clicks < 2 ^ 32)
FitsAction (Adc ch value) = (ch < 2 ^ 8) × (value < 2 ^ 16)
FitsAction (Midi b) = b < 2 ^ 8
FitsAction (KeyVel vel) = vel < 2 ^ 8
FitsAction (Pressure id vel) = (id < 2 ^ 8) × (vel < 2 ^ 8)

abbrev pub FitsOrder : Order → Type 0
FitsOrder (Read addr) = addr < 2 ^ 32
FitsOrder (Write addr value) = (addr < 2 ^ 32) × (value < 2 ^ 32)
FitsOrder (Step cycles) = cycles < 2 ^ 64
