-- A record's answer in 01's numbers. Its line (crate driver_lines) prints the same values: `S` and `E` the number, `R`, `W` and `A` the values, and `X` the offset of a record that is "8 RECORD".
use Rattle.std.specs.Prelude.{ℕ, List, [], ◌∷◌, ◌++◌}
use Rattle.base.specs.Bits.{when_of}
use Rattle.base.specs.Told.{Told, told, nothing, says, value_at}
use Rattle.audio.specs.Told.{told_half}
use Rattle.records.specs.Told.{broken}
use Rattle.regs.specs.Told.{told_value}
use Rattle.uart.specs.Told.{told_byte}
use Rattle.driver_carry.specs.declared.Answer.{Answer}
use Rattle.driver_carry.specs.declared.Answer.TheVariants.{Pushed, Read, Wrote, Stepped, Refused, Broken, Nothing}

-- an audio half or a byte among other values: 1 and its two values, or three zeros
abbrev pub pair : Told → List ℕ
pair t = when_of (says t) 1 ∷ value_at t 0 ∷ value_at t 1 ∷ []

unfoldable pub told_answer : Answer → Told
told_answer (Pushed number) = record { number = number; values = number ∷ [] }
told_answer (Read addr value) = told (addr ∷ (told_value value).values)
told_answer (Wrote addr value handled) = told (addr ∷ value ∷ when_of handled 1 ∷ [])
told_answer (Stepped clock half byte applied) = told (clock ∷ applied ∷ (pair (told_half half) ++ pair (told_byte byte)))
told_answer (Refused number) = record { number = number; values = [] }
told_answer (Broken at) = broken at
told_answer Nothing = nothing
