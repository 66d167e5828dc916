-- What a call came to, as an answer: "answers with the line itself, ` = `, and the result"; a refused call "`E` and its number".
use Rattle.std.specs.Prelude.{ℕ, Bool, cond, eqb, Option, Some, None}
use Rattle.audio.specs.declared.Half.{Half}
use Rattle.spi.specs.declared.Spi.{Spi}
use Rattle.state.specs.declared.Clock.{Clock}
use Rattle.line_answer.specs.Answers.{unless_refused}
use Rattle.line_answer.specs.declared.Answer.{Answer}
use Rattle.line_answer.specs.declared.Answer.TheVariants.{Number as Numbered, Pair, NoValue, Value as Valued, Stepped}
use Rattle.uart.specs.declared.Byte.{Byte}
use Rattle.calls_answers.specs.declared.Tells.{Tells}
use Rattle.calls_answers.specs.declared.Tells.TheVariants.{Done, Number, Spi1, Clock as Passed}

-- clock, audio half or `-`, byte or `-`, USB frame, watchdog, actions applied
unfoldable pub half_told : Option Half → Option (ℕ × ℕ)
half_told (Some h) = Some (h.addr, h.words)
half_told None = None

unfoldable pub byte_told : Option Byte → Option (ℕ × ℕ)
byte_told (Some x) = Some (x.addr, x.b)
byte_told None = None

abbrev pub step_answer : ℕ → ℕ → Option Half → Option Byte → Bool → Bool → ℕ → Answer
step_answer refused clock half byte usb wdt applied =
    unless_refused refused (Stepped clock (half_told half) (byte_told byte) usb wdt applied)

-- the value or `none`; while idle time is skipped also clock and `skipped`
unfoldable pub clock_shown : Clock → Option (ℕ × ℕ)
clock_shown c = cond (eqb c.skip_idle 0) None (Some (c.cycles, c.skipped))

abbrev pub read_answer : ℕ → Option ℕ → Clock → Answer
read_answer refused v c = unless_refused refused (Valued v (clock_shown c))

-- `spi1`: `spi1_done_at` and `spi1_wire`; `idle`: clock and `skipped`; `usb`, `wdt` and `new` answer the refusal's number itself
unfoldable pub told_of : Tells → ℕ → Spi → Clock → Answer
told_of Done refused s c = unless_refused refused (Numbered 0)
told_of Number refused s c = Numbered refused
told_of Spi1 refused s c = unless_refused refused (Pair s.spi1_done_at s.spi1_wire)
told_of Passed refused s c = unless_refused refused (Pair c.cycles c.skipped)

-- a name's id or `none`
unfoldable pub named_as : Option ℕ → Answer
named_as (Some k) = Numbered k
named_as None = NoValue
