-- What C is told, read back: a flag that is not 0 is yes, and values count where the flag beside them says so.
use Rattle.std.specs.Prelude.{cond, List, [], ◌∷◌, ℕ, eqb}
use Rattle.base.specs.Told.{Told, told, nothing}
use Rattle.capi.specs.Flags.{is_yes}
use Rattle.capi_answers.specs.declared.Advanced.{Advanced}
use Rattle.capi_answers.specs.declared.Chosen.{Chosen}
use Rattle.capi_answers.specs.declared.Moved.{Moved}
use Rattle.capi_answers.specs.declared.Reading.{Reading}
use Rattle.promises.specs.Refusals.{Answer, value, choice, events}

abbrev pub read_back : ℕ → List ℕ → Told
read_back some values = cond (eqb some 0) nothing (told values)

abbrev pub from_reading : Reading → Answer
from_reading r = value r.refused (read_back r.some (r.value ∷ []))

abbrev pub from_chosen : Chosen → Answer
from_chosen c = choice c.refused (read_back c.some (c.source ∷ c.priority ∷ []))

abbrev pub from_moved : Moved → Told
from_moved m = read_back m.some (m.addr ∷ m.value ∷ [])

abbrev pub from_advanced : Advanced → List ℕ → Answer
from_advanced a out =
    events a.due.refused (from_moved a.due.audio) (from_moved a.due.uart) (is_yes a.due.usb_frame) (is_yes a.due.wdt) a.due.applied a.due.written out
