-- What a line does to the port, to the one kept aside and to the memory of both, and what it answers: each call as `p33` promises it.
use Rattle.std.specs.Prelude.{ℕ, zero, suc, ◌*◌, ◌%◌, ◌^◌, Bool, List, bit_xor, slice_index, Option, Some, None, Result, Ok, Err}
use Rattle.line_answer.specs.declared.Answer.{Answer}
use Rattle.line_answer.specs.declared.Answer.TheVariants.{Number, Flag, Hex, Byte, Refused, Sum as Summed, NoValue, Watchdog, Reset as WasReset, Snap as Shown}
use Rattle.line_ask.specs.declared.Ask.{Ask}
use Rattle.line_ask.specs.declared.Ask.TheVariants.{Port}
use Rattle.line_ask.specs.declared.PortAsk.{PortAsk}
use Rattle.line_ask.specs.declared.PortAsk.TheVariants.{Write, Read, Event as TakeEvent, Reg, Same, Snap as Look, Sum, Keep, Ms, New, Reset as ChipReset}
use Rattle.p33.specs.P33.{memory_bytes, new_of, new_in, write_of, write_in, reset_of, reset_in, eventless, read_of, reg_of, snap_of}
use Rattle.p33.specs.Sameness.{same_of}
use Rattle.base.specs.Refusals.{number_of}
use Rattle.base.specs.declared.Refusal.{Refusal}
use Rattle.p33.specs.declared.P33.{P33}
use Rattle.p33.specs.declared.Event.{Event}
use Rattle.p33.specs.declared.Event.TheVariants.{Wdt, Reset}
use Rattle.p33.specs.declared.Snap.{Snap}
use Rattle.times.specs.Watchdog.{wdt_ms}
use Rattle.calls_port.specs.declared.Ported.{Ported}
use Rattle.calls_port.specs.declared.Ports.{Ports}

-- ---- calls that change the port, or the one aside

-- the port that a call left, and its refusal's number
abbrev pub done_of : Ports → Result P33 Refusal → Ported
done_of p (Ok port) = record { ports = record { port = port; kept = p.kept }; answer = Number 0 }
done_of p (Err refusal) = record { ports = p; answer = Number (number_of refusal) }

-- `none`, `wdt FED`, `reset`
unfoldable pub event_answer : Option Event → Answer
event_answer None = NoValue
event_answer (Some (Wdt fed)) = Watchdog fed
event_answer (Some Reset) = WasReset

-- the event is taken
abbrev pub event_of : Ports → Ported
event_of p = record { ports = record { port = eventless p.port; kept = p.kept }; answer = event_answer p.port.event }

-- the port is copied aside
abbrev pub kept_of : Ports → Ported
kept_of p = record { ports = record { port = p.port; kept = p.port }; answer = Number 0 }

-- ---- calls that look

-- both ports as they were, and an answer
abbrev pub looked_of : Ports → Answer → Ported
looked_of p a = record { ports = p; answer = a }

abbrev pub register_answer : Result ℕ Refusal → Answer
register_answer (Ok value) = Byte value
register_answer (Err refusal) = Refused (number_of refusal)

abbrev pub same_answer : Result Bool Refusal → Answer
same_answer (Ok same) = Flag same
same_answer (Err refusal) = Refused (number_of refusal)

-- con, dat, step, cmd, addr, changed
abbrev pub snap_answer : Snap → Answer
snap_answer s = Shown s.0 s.1 s.2 s.3 s.4 s.5

-- FNV-1a on 64 bits: its prime, and the sum over so many registers from the first on
abbrev pub times_prime : ℕ → ℕ
times_prime h = h * 0x100_0000_01b3 % 2 ^ 64

unfoldable pub sum_of : ℕ → List ℕ → ℕ
sum_of zero regs = 0xcbf2_9ce4_8422_2325
sum_of (suc n) regs = times_prime (bit_xor (sum_of n regs) (slice_index regs n))

-- ---- any line

-- a call of the port
unfoldable pub carried_of : Ports → PortAsk → List ℕ → List ℕ → Ported
carried_of p (Write addr value) regs aside = done_of p (write_of p.port regs addr value)
carried_of p New regs aside = done_of p (new_of regs)
carried_of p (ChipReset cause) regs aside = done_of p (reset_of p.port regs)
carried_of p TakeEvent regs aside = event_of p
carried_of p Keep regs aside = kept_of p
carried_of p (Read addr) regs aside = looked_of p (Hex (read_of p.port addr))
carried_of p (Reg addr rtc) regs aside = looked_of p (register_answer (reg_of regs addr rtc))
carried_of p (Ms con) regs aside = looked_of p (Number (wdt_ms con))
carried_of p Same regs aside = looked_of p (same_answer (same_of p.port regs p.kept aside))
carried_of p Look regs aside = looked_of p (snap_answer (snap_of p.port))
carried_of p Sum regs aside = looked_of p (Summed (sum_of memory_bytes regs))

-- the registers after it, and those kept aside
unfoldable pub carried_in : Ports → PortAsk → List ℕ → List ℕ
carried_in p (Write addr value) regs = write_in p.port regs addr value
carried_in p New regs = new_in regs
carried_in p (ChipReset cause) regs = reset_in p.port regs cause
carried_in p call regs = regs

unfoldable pub carried_aside : PortAsk → List ℕ → List ℕ → List ℕ
carried_aside Keep regs aside = regs
carried_aside call regs aside = aside

-- a line that asks nothing of the port passes it by
unfoldable pub ported_of : Ports → Ask → Answer → List ℕ → List ℕ → Ported
ported_of p (Port call) a regs aside = carried_of p call regs aside
ported_of p ask a regs aside = looked_of p a

unfoldable pub regs_after : Ports → Ask → List ℕ → List ℕ
regs_after p (Port call) regs = carried_in p call regs
regs_after p ask regs = regs

unfoldable pub aside_after : Ask → List ℕ → List ℕ → List ℕ
aside_after (Port call) regs aside = carried_aside call regs aside
aside_after ask regs aside = aside
