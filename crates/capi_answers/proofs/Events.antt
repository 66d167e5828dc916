-- What C is told of an event, by its number, is what `told_event` says.
use mathlib.Core.Path.{◌≡◌, refl}
use mathlib.Core.Bool.{true, false, not}
use lib.Dec.{eqb}
use Rattle.std.specs.Prelude.{Option, Some, None}
use Rattle.base.specs.Bits.{when_of}
use Rattle.p33.specs.Told.{told_event}
use Rattle.p33.specs.declared.Event.{Event}
use Rattle.p33.specs.declared.Event.TheVariants.{Wdt, Reset}
use Rattle.capi_answers.specs.Edge.{said_of, said_by}
use Rattle.capi_answers.specs.Ports.{number_of}

pub event_said : (e : Option Event) → said_of (number_of e) 0 (when_of (not (eqb (number_of e) 0)) 1) ≡ said_by (told_event e)
unfolding number_of told_event
event_said None = refl
event_said (Some (Wdt true)) = refl
event_said (Some (Wdt false)) = refl
event_said (Some Reset) = refl
