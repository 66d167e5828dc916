-- "Where an answer is an enum, a definition gives this paper's number and values for each of the enum's cases. The promises use this definition." The shape of such an answer; the definition
-- stands beside each enum (module Told of names, irq, regs, audio, uart, p33, records and driver_carry).
use Rattle.std.specs.Prelude.{ℕ, Bool, not, List, [], length, ◌==◌, slice_index}

-- document 01's number, 0 where nothing is turned away, and the case's values; a case that says none has no value
pub record Told : Type 0 where
  pub number : ℕ
  pub values : List ℕ

abbrev pub told : List ℕ → Told
told values = record { number = 0; values = values }

abbrev pub nothing : Told
nothing = told []

-- whether there is a value, and the value at a place, 0 where there is none
abbrev pub says : Told → Bool
says t = not (length t.values == 0)

abbrev pub value_at : Told → ℕ → ℕ
value_at t i = slice_index t.values i
