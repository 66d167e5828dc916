-- A register's value as an answer: "a read says none" of an unknown address, which is no value.
use Rattle.std.specs.Prelude.{ℕ, [], ◌∷◌, Option, Some, None}
use Rattle.base.specs.Told.{Told, told, nothing}

unfoldable pub told_value : Option ℕ → Told
told_value (Some v) = told (v ∷ [])
told_value None = nothing
