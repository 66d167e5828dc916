-- A byte handed out as an answer: "address/byte", or no value for "-".
use Rattle.std.specs.Prelude.{[], ◌∷◌, Option, Some, None}
use Rattle.base.specs.Told.{Told, told, nothing}
use Rattle.uart.specs.declared.Byte.{Byte}

unfoldable pub told_byte : Option Byte → Told
told_byte (Some x) = told (x.addr ∷ x.b ∷ [])
told_byte None = nothing
