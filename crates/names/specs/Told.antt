-- An id as an answer: the id, or no value where the name is none.
use Rattle.std.specs.Prelude.{ℕ, [], ◌∷◌, Option, Some, None}
use Rattle.base.specs.Told.{Told, told, nothing}

unfoldable pub told_id : Option ℕ → Told
told_id (Some n) = told (n ∷ [])
told_id None = nothing
