-- What crosses to C. A call's own definition stands where the call does (crates board, board_words), and its contract here is the same; here is only how an answer is written as numbers. What an enum's
-- cases say is not decided here either: `told_value` and its like give 01's values of each, and C's records hold these, 0 where there is none, with a flag beside them that says whether there are any.
use Rattle.std.specs.Prelude.{ℕ, Option}
use Rattle.base.specs.Bits.{when_of}
use Rattle.base.specs.Told.{Told, says, value_at}
use Rattle.audio.specs.Told.{told_half}
use Rattle.audio.specs.declared.Half.{Half}
use Rattle.uart.specs.Told.{told_byte}
use Rattle.uart.specs.declared.Byte.{Byte}
use Rattle.irq.specs.Told.{told_choice}
use Rattle.irq.specs.declared.Choice.{Choice}
use Rattle.names.specs.Told.{told_id}
use Rattle.regs.specs.Told.{told_value}
use Rattle.board_runner.specs.declared.Chosen.{Chosen as BoardChosen}
use Rattle.board.specs.declared.Reading.{Reading as BoardReading}
use Rattle.state.specs.declared.Board.{Board}
use Rattle.step.specs.declared.Stepped.{Stepped}
use Rattle.capi_answers.specs.declared.Advanced.{Advanced}
use Rattle.capi_answers.specs.declared.Chosen.{Chosen}
use Rattle.capi_answers.specs.declared.Moved.{Moved}
use Rattle.capi_answers.specs.declared.Reading.{Reading}
use Rattle.capi_answers.specs.declared.Said.{Said}

abbrev pub said_of : ℕ → ℕ → ℕ → Said
said_of value refused is = record { value = value; refused = refused; is = is }

-- an answer of one value at the most
abbrev pub said_by : Told → Said
said_by t = said_of (value_at t 0) t.number (when_of (says t) 1)

-- ---- calls that change the record

abbrev pub read_by : Board → ℕ → Told → Reading
read_by b n t = record { board = b; refused = n; some = when_of (says t) 1; value = value_at t 0 }

unfoldable pub read_of : Board → ℕ → Option ℕ → Reading
read_of b n v = read_by b n (told_value v)

abbrev pub of_reading : BoardReading → Reading
of_reading r = read_of r.board r.refused r.value

-- ---- the step

abbrev pub moved_by : Told → Moved
moved_by t = record { some = when_of (says t) 1; addr = value_at t 0; value = value_at t 1 }

unfoldable pub of_half : Option Half → Moved
of_half h = moved_by (told_half h)

unfoldable pub of_byte : Option Byte → Moved
of_byte x = moved_by (told_byte x)

abbrev pub of_stepped : Stepped → Advanced
of_stepped s = record {
  board = s.board;
  due = record {
    written = s.written;
    applied = s.applied;
    refused = s.refused;
    audio = of_half s.audio_half;
    uart = of_byte s.uart_rx;
    usb_frame = when_of s.usb_frame 1;
    wdt = when_of s.wdt 1;
  };
}

-- ---- calls that ask

abbrev pub chosen_by : ℕ → Told → Chosen
chosen_by n t = record { refused = n; some = when_of (says t) 1; source = value_at t 0; priority = value_at t 1 }

unfoldable pub of_choice : ℕ → Option Choice → Chosen
of_choice n c = chosen_by n (told_choice c)

abbrev pub of_chosen : BoardChosen → Chosen
of_chosen c = of_choice c.refused c.choice

unfoldable pub of_id : Option ℕ → Said
of_id i = said_by (told_id i)
