-- The public calls between steps, each by its refusals in document 01's order and by what it does where there is none.
use Rattle.std.specs.Prelude.{ℕ, Bool, cond, false, not, List, eqb, leb, ltb, length, replicate}
use Rattle.base.specs.Limits.{spi_bytes_max, spi_baud_max, ms_max}
use Rattle.base.specs.Moments.{clock_max, is_deadline}
use Rattle.irq.specs.Banks.{enabled_for}
use Rattle.irq.specs.Choice.{choice_of}
use Rattle.irq.specs.Sources.{any_pending_of}
use Rattle.runner.specs.Runner.{ticked_of, is_due, room_of, next_due_of, idle_end, idled_of, spi1_of, spi1_off_of, spi2_of, shifted_of, ms_of, cycles_of, light_of, with_ticks, with_skip, with_isr, with_cap, with_exc, with_spi2, with_usb, with_wdt}
use Rattle.state.specs.State.{board_whole, pending_of}
use Rattle.state.specs.With.{with_chip}
use Rattle.state.specs.declared.Board.{Board}
use Rattle.board_guard.specs.Answers.{answered}
use Rattle.base.specs.Refusals.{STATE, PARAM, COUNT, TIME, count_max}
use Rattle.board_guard.specs.Refusals.{whole_refused, banks_refused}
use Rattle.board_guard.specs.declared.Done.{Done}
use Rattle.board_runner.specs.Answers.{number, flag, chosen}
use Rattle.board_runner.specs.declared.Chosen.{Chosen}
use Rattle.board_runner.specs.declared.Flag.{Flag}
use Rattle.board_runner.specs.declared.Lit.{Lit}
use Rattle.board_runner.specs.declared.Number.{Number}
use Rattle.board_runner.specs.declared.Ticked.{Ticked}

-- ---- ticks and idle time

-- "a tick is refused at 2^53"
unfoldable pub tick_refused : Board → ℕ
tick_refused b = cond (not (board_whole b)) STATE (cond (leb clock_max b.chip.clock.cycles) TIME 0)

unfoldable pub tick_call : Board → Ticked
tick_call b =
    cond (eqb (tick_refused b) 0)
    (record { board = with_chip b (ticked_of b.chip); refused = 0; due = is_due (ticked_of b.chip) })
    (record { board = b; refused = tick_refused b; due = false })

unfoldable pub room_call : Board → Number
room_call b = number (whole_refused b) (room_of b.chip)

unfoldable pub next_due_call : Board → Flag
next_due_call b = flag (whole_refused b) (next_due_of b.chip)

-- where it would jump and end past 2^53
unfoldable pub idle_refused : Board → ℕ
idle_refused b = cond (not (board_whole b)) STATE (cond (ltb clock_max (idle_end b.chip)) TIME 0)

unfoldable pub idle_call : Board → Done
idle_call b = answered b (idle_refused b) (idled_of b.chip)

-- ---- interrupts

unfoldable pub any_call : Board → Flag
any_call b = flag (whole_refused b) (any_pending_of (pending_of b.chip))

unfoldable pub enabled_call : Board → ℕ → ℕ → List ℕ → List ℕ → Flag
enabled_call b core n icfg icfg1 = flag (banks_refused b (length icfg) (length icfg1)) (enabled_for core n icfg icfg1)

unfoldable pub choice_call : Board → ℕ → List ℕ → List ℕ → Chosen
choice_call b core icfg icfg1 = chosen (banks_refused b (length icfg) (length icfg1)) (choice_of (pending_of b.chip) core icfg icfg1)

-- ---- LEDs

unfoldable pub led_call : Board → Lit
led_call b =
    cond (eqb (whole_refused b) 0) (record { board = (light_of b).board; lit = (light_of b).lit; span = (light_of b).span; refused = 0 })
    (record { board = b; lit = replicate 41 0; span = 0; refused = whole_refused b })

-- ---- SPI and the shift register

-- "SPI: 0 to 65,536 bytes, baud 0 to 16,383"; the wire's count below 2^62
unfoldable pub spi1_refused : Board → ℕ → ℕ → ℕ
spi1_refused b bytes baud =
    cond (not (board_whole b)) STATE
    (cond (ltb spi_bytes_max bytes) PARAM (cond (ltb spi_baud_max baud) PARAM (cond (leb count_max b.chip.spi.spi1_wire) COUNT 0)))

unfoldable pub spi1_call : Board → ℕ → ℕ → Bool → Done
spi1_call b bytes baud irq = answered b (spi1_refused b bytes baud) (spi1_of b.chip bytes baud irq)

unfoldable pub spi2_refused : Board → ℕ → ℕ → ℕ
spi2_refused b bytes baud = cond (not (board_whole b)) STATE (cond (ltb spi_bytes_max bytes) PARAM (cond (ltb spi_baud_max baud) PARAM 0))

unfoldable pub spi2_call : Board → ℕ → ℕ → Bool → Done
spi2_call b bytes baud irq = answered b (spi2_refused b bytes baud) (spi2_of b.chip bytes baud irq)

unfoldable pub spi1_off_call : Board → Done
spi1_off_call b = answered b (whole_refused b) (spi1_off_of b.chip)

unfoldable pub shift_call : Board → ℕ → Done
shift_call b byte = answered b (whole_refused b) (shifted_of b.chip byte)

-- ---- times and counts

unfoldable pub ms_call : Board → Number
ms_call b = number (whole_refused b) (ms_of b.chip)

-- "at most 2^34 ms"
unfoldable pub cycles_refused : Board → ℕ → ℕ
cycles_refused b ms = cond (not (board_whole b)) STATE (cond (ltb ms_max ms) PARAM 0)

unfoldable pub cycles_call : Board → ℕ → Number
cycles_call b ms = number (cycles_refused b ms) (cycles_of b.chip ms)

unfoldable pub queued_call : Board → Number
queued_call b = number (whole_refused b) b.chip.uart.count

unfoldable pub dropped_call : Board → Number
dropped_call b = number (whole_refused b) b.chip.uart.dropped

-- ---- settings

unfoldable pub ticks_call : Board → ℕ → Done
ticks_call b ticks = answered b (whole_refused b) (with_ticks b.chip ticks)

unfoldable pub skip_call : Board → Bool → Done
skip_call b on = answered b (whole_refused b) (with_skip b.chip on)

unfoldable pub isr_call : Board → Bool → Done
isr_call b on = answered b (whole_refused b) (with_isr b.chip on)

unfoldable pub cap_call : Board → ℕ → Done
cap_call b cap = answered b (whole_refused b) (with_cap b.chip cap)

unfoldable pub exc_call : Board → Bool → Done
exc_call b on = answered b (whole_refused b) (with_exc b.chip on)

unfoldable pub spi2_flag_call : Board → Bool → Done
spi2_flag_call b on = answered b (whole_refused b) (with_spi2 b.chip on)

-- "A settable deadline is at most 2^63, or all ones for never", "USB period 1 to 2^53"
unfoldable pub usb_refused : Board → ℕ → ℕ → ℕ
usb_refused b at period =
    cond (not (board_whole b)) STATE
    (cond (is_deadline at) (cond (eqb period 0) PARAM (cond (ltb clock_max period) PARAM 0)) PARAM)

unfoldable pub usb_call : Board → ℕ → ℕ → Done
usb_call b at period = answered b (usb_refused b at period) (with_usb b.chip at period)

unfoldable pub wdt_refused : Board → ℕ → ℕ
wdt_refused b at = cond (not (board_whole b)) STATE (cond (is_deadline at) 0 PARAM)

unfoldable pub wdt_call : Board → ℕ → Done
wdt_call b at = answered b (wdt_refused b at) (with_wdt b.chip at)
