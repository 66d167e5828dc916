-- An audio half as an answer: "address/words", or no value for "-".
use Rattle.std.specs.Prelude.{[], ◌∷◌, Option, Some, None}
use Rattle.base.specs.Told.{Told, told, nothing}
use Rattle.audio.specs.declared.Half.{Half}

unfoldable pub told_half : Option Half → Told
told_half (Some h) = told (h.addr ∷ h.words ∷ [])
told_half None = nothing
