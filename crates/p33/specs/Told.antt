-- An event as an answer: 1 the watchdog's control written, 2 the same with a feed, 3 a reset, and no value where there is none. Document 01 names the events and gives them no numbers: these are ours
-- (docs/DECISIONS.md).
use Rattle.std.specs.Prelude.{cond, [], ◌∷◌, Option, Some, None}
use Rattle.base.specs.Told.{Told, told, nothing}
use Rattle.p33.specs.declared.Event.{Event}
use Rattle.p33.specs.declared.Event.TheVariants.{Wdt, Reset}

unfoldable pub told_event : Option Event → Told
told_event None = nothing
told_event (Some (Wdt fed)) = told (cond fed 2 1 ∷ [])
told_event (Some Reset) = told (3 ∷ [])
