-- What is asked of a new board: each call as `board` promises it.
use Rattle.std.specs.Prelude.{ℕ, ◌%◌, ◌^◌, Bool, not, true, List, [], ◌∷◌, Option, eqb, get_or}
use Rattle.board_runner.specs.Calls.{tick_call, room_call, next_due_call, idle_call, ms_call, cycles_call, queued_call, dropped_call, any_call, led_call, spi1_call, spi2_call, spi1_off_call, shift_call, ticks_call, skip_call, isr_call, cap_call, exc_call, spi2_flag_call, usb_call, wdt_call}
use Prim.Native.String.{String}
use Rattle.text.specs.Tables.{named}
use Rattle.refusals_limits.specs.declared.banks.Lent.TheVariants as lent
use Rattle.refusals_limits.specs.declared.asks.Call.{Call}
use Rattle.refusals_limits.specs.declared.asks.Call.TheVariants.{Lent as WithBanks, Made, Tick, TickRoom, NextTickDue, Idle, Ms, CycleOfMs, MidiQueued, MidiDropped, AnyPending, LedTake, Spi1Start, Spi2Start, Spi1IrqOff, SrShiftByte, SetCycleTicks, SetSkipIdle, SetInIsr, SetRoomCap, SetExcPending, SetSpi2Pending, SetUsb, SetWdt}
use Rattle.refusals_limits.specs.Lent.{made_tried, banked_tried}
use Rattle.state.specs.State.{board_new}
use Rattle.state.specs.declared.Board.{Board}

abbrev pub calls : List (String × Call)
calls =
    ("read", WithBanks lent.Read) ∷ ("irq_enabled", WithBanks lent.IrqEnabled)
    ∷ ("pending_irq_for", WithBanks lent.PendingIrqFor) ∷ ("pending_irq", WithBanks lent.PendingIrq)
    ∷ ("write", WithBanks lent.Write) ∷ ("chip_reset", WithBanks lent.ChipReset) ∷ ("made", Made) ∷ ("tick", Tick)
    ∷ ("tick_room", TickRoom) ∷ ("next_tick_due", NextTickDue) ∷ ("idle", Idle) ∷ ("ms", Ms)
    ∷ ("cycle_of_ms", CycleOfMs) ∷ ("midi_queued", MidiQueued) ∷ ("midi_dropped", MidiDropped)
    ∷ ("any_pending", AnyPending) ∷ ("led_take", LedTake) ∷ ("spi1_start", Spi1Start) ∷ ("spi2_start", Spi2Start)
    ∷ ("spi1_irq_off", Spi1IrqOff) ∷ ("sr_shift_byte", SrShiftByte) ∷ ("set_cycle_ticks", SetCycleTicks)
    ∷ ("set_skip_idle", SetSkipIdle) ∷ ("set_in_isr", SetInIsr) ∷ ("set_room_cap", SetRoomCap)
    ∷ ("set_exc_pending", SetExcPending) ∷ ("set_spi2_pending", SetSpi2Pending) ∷ ("set_usb", SetUsb)
    ∷ ("set_wdt", SetWdt) ∷ []

unfoldable pub call_of : List ℕ → Option Call
call_of = named calls

abbrev pub low : ℕ → ℕ
low n = n % 2 ^ 32

abbrev pub on : ℕ → Bool
on v = not (eqb v 0)

unfoldable pub of_board : Board → Call → List ℕ → ℕ
of_board b (WithBanks call) n = banked_tried b call (low (get_or n 0 0)) (get_or n 1 0) (get_or n 2 0)
of_board b Made n = made_tried (get_or n 0 0) (get_or n 1 0) (get_or n 2 0) (get_or n 3 0) (get_or n 4 0)
of_board b Tick n = (tick_call b).refused
of_board b TickRoom n = (room_call b).refused
of_board b NextTickDue n = (next_due_call b).refused
of_board b Idle n = (idle_call b).refused
of_board b Ms n = (ms_call b).refused
of_board b CycleOfMs n = (cycles_call b (get_or n 0 0)).refused
of_board b MidiQueued n = (queued_call b).refused
of_board b MidiDropped n = (dropped_call b).refused
of_board b AnyPending n = (any_call b).refused
of_board b LedTake n = (led_call b).refused
of_board b Spi1Start n = (spi1_call b (low (get_or n 0 0)) (low (get_or n 1 0)) true).refused
of_board b Spi2Start n = (spi2_call b (low (get_or n 0 0)) (low (get_or n 1 0)) true).refused
of_board b Spi1IrqOff n = (spi1_off_call b).refused
of_board b SrShiftByte n = (shift_call b 0).refused
of_board b SetCycleTicks n = (ticks_call b (get_or n 0 0)).refused
of_board b SetSkipIdle n = (skip_call b (on (get_or n 0 0))).refused
of_board b SetInIsr n = (isr_call b (on (get_or n 0 0))).refused
of_board b SetRoomCap n = (cap_call b (get_or n 0 0)).refused
of_board b SetExcPending n = (exc_call b (on (get_or n 0 0))).refused
of_board b SetSpi2Pending n = (spi2_flag_call b (on (get_or n 0 0))).refused
of_board b SetUsb n = (usb_call b (get_or n 0 0) (get_or n 1 0)).refused
of_board b SetWdt n = (wdt_call b (get_or n 0 0)).refused

-- "On a new board of that rate, which no test has looked at"
abbrev pub asked_of : ℕ → Call → List ℕ → ℕ
asked_of hz call n = of_board (board_new (low hz)) call n
