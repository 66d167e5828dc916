-- The port's record as numbers, both ways, and its answers.
use Rattle.std.specs.Prelude.{ℕ, Bool, cond, true, false, eqb, Option, Some, None, Result, Ok, Err}
use Rattle.base.specs.Bits.{when_of}
use Rattle.base.specs.Refusals.{number_of as refusal_number}
use Rattle.base.specs.Told.{value_at}
use Rattle.base.specs.declared.Refusal.{Refusal}
use Rattle.p33.specs.P33.{port_new}
use Rattle.p33.specs.Told.{told_event}
use Rattle.p33.specs.declared.Event.{Event}
use Rattle.p33.specs.declared.Event.TheVariants.{Wdt, Reset}
use Rattle.p33.specs.declared.P33.{P33}
use Rattle.p33.specs.declared.Taken.{Taken}
use Rattle.capi_answers.specs.Edge.{said_of, said_by}
use Rattle.capi_answers.specs.declared.Port.{Port}
use Rattle.capi_answers.specs.declared.PortAnswered.{PortAnswered}
use Rattle.capi_answers.specs.declared.Said.{Said}

-- an event's number: that of `told_event`, 0 for none; any number above 3 is read as none
unfoldable pub number_of : Option Event → ℕ
number_of e = value_at (told_event e) 0

unfoldable pub event_of : ℕ → Option Event
event_of n = cond (eqb n 1) (Some (Wdt false)) (cond (eqb n 2) (Some (Wdt true)) (cond (eqb n 3) (Some Reset) None))

abbrev pub port_in : Port → P33
port_in p = record { con = p.con; dat = p.dat; step = p.step; cmd = p.cmd; addr = p.addr; changed = p.changed; event = event_of p.event }

abbrev pub port_out : P33 → Port
port_out p = record { changed = p.changed; con = p.con; dat = p.dat; event = number_of p.event; addr = p.addr; step = p.step; cmd = p.cmd }

-- a call of the port p: done, it hands back the port that it made; turned away, p as it came, whatever its event's number is
unfoldable pub of_port_done : Port → Result P33 Refusal → PortAnswered
of_port_done p (Ok port) = record { port = port_out port; said = said_of 0 0 0 }
of_port_done p (Err refused) = record { port = p; said = said_of 0 (refusal_number refused) 0 }

-- a new port; a refused making answers a zero port
abbrev pub of_port_new : Result P33 Refusal → PortAnswered
of_port_new made = of_port_done (port_out port_new) made

abbrev pub of_taken : Taken → PortAnswered
of_taken t = record { port = port_out t.port; said = said_by (told_event t.event) }

abbrev pub of_register : Result ℕ Refusal → Said
of_register (Ok value) = said_of value 0 0
of_register (Err refused) = said_of 0 (refusal_number refused) 0

abbrev pub of_compared : Result Bool Refusal → Said
of_compared (Ok same) = said_of 0 0 (when_of same 1)
of_compared (Err refused) = said_of 0 (refusal_number refused) 0
