-- A choice as an answer: the interrupt's number and its priority, or no value where none qualifies.
use Rattle.std.specs.Prelude.{[], ◌∷◌, Option, Some, None}
use Rattle.base.specs.Told.{Told, told, nothing}
use Rattle.irq.specs.declared.Choice.{Choice}

unfoldable pub told_choice : Option Choice → Told
told_choice (Some c) = told (c.irq ∷ c.prio ∷ [])
told_choice None = nothing
