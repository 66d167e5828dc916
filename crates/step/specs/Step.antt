-- A step and a push, over a look into the script: a function from places to entries. Whoever holds the script says what its memory looks like through that function.
use Rattle.std.specs.Prelude.{ℕ, zero, suc, ◌+◌, ◌*◌, ◌%◌, ◌^◌, ◌≤◌, ◌<◌, Bool, true, false, cond, not, ◌&&◌, List, [], ◌++◌, ◌≡◌, eqb, leb, ltb, length, None}
use Rattle.base.specs.Moments.{clock_max}
use Rattle.base.specs.Refusals.{SIZE, STATE, FULL, COUNT, TIME, count_max}
use Rattle.records.specs.Encoded.{written_of}
use Rattle.records.specs.Layout.{bytes_of_timed}
use Rattle.script.specs.Entries.{shown, agrees_of}
use Rattle.script.specs.Script.{entries, spot_of, full_of, looked_of, taken_of, next_place, pushed_of as script_pushed}
use Rattle.script.specs.declared.Entry.{Entry}
use Rattle.script.specs.declared.Front.{Front}
use Rattle.state.specs.State.{board_whole, next_event}
use Rattle.state.specs.Whole.{Sound}
use Rattle.state.specs.With.{moved_to, due_at, due_now, with_chip, with_script}
use Rattle.state.specs.declared.Board.{Board}
use Rattle.uart.specs.Uart.{queue_bytes}
use Rattle.step.specs.Apply.{apply_of, apply_in}
use Rattle.step.specs.Stages.{now_of, served_of}
use Rattle.step.specs.declared.Going.{Going}
use Rattle.board_guard.specs.declared.Done.{Done}
use Rattle.step.specs.declared.Spot.{Spot}
use Rattle.step.specs.declared.Stepped.{Stepped}
use Rattle.step.specs.declared.stages.Served.{Served}

-- "action output at least 4,352 bytes": 256 records of at most 17
abbrev pub out_bytes : ℕ
out_bytes = 4352

-- where the front stands, and how many wait
abbrev pub front_place : Board → ℕ
front_place b = b.chip.script.place

abbrev pub waits : Board → ℕ
waits b = b.chip.script.count

-- whole, and the lent front's time is the record's where entries wait
abbrev pub is_state : Board → Front → Bool
is_state b front = board_whole b && agrees_of b.chip.script front

-- ---- the refusals, 0 for none: "Checked in the order 2, 3, 4, 5, 6, 7"

-- a lent length is not its own
abbrev pub wrong_size : Front → ℕ → ℕ → Bool
wrong_size front queue out = cond (not (eqb queue queue_bytes)) true (cond (not (eqb front.len entries)) true (ltb out out_bytes))

-- what a whole record can still refuse of a step
abbrev pub past_limit : ℕ → ℕ → ℕ → ℕ
past_limit dropped now cycles = cond (leb count_max dropped) COUNT (cond (ltb clock_max (now + cycles)) TIME 0)

unfoldable pub step_refusal : Board → ℕ → Front → ℕ → ℕ → ℕ
step_refusal b cycles front queue out =
    cond (not (eqb queue queue_bytes)) SIZE
    (cond (not (eqb front.len entries)) SIZE
    (cond (ltb out out_bytes) SIZE
    (cond (not (is_state b front)) STATE
    (past_limit b.chip.uart.dropped (now_of b.chip) cycles))))

unfoldable pub push_refusal : Board → Front → ℕ
push_refusal b front =
    cond (not (eqb front.len entries)) SIZE
    (cond (not (is_state b front)) STATE
    (cond (full_of b.chip.script) FULL
    0))

-- ---- a step begins

-- it ends here, with a board and a number alone
abbrev pub stopped_of : Board → ℕ → Going
stopped_of b number = record {
  board = b;
  audio_half = None;
  uart_rx = None;
  written = 0;
  place = 0;
  applied = 0;
  refused = number;
  usb_frame = false;
  wdt = false;
  on = false;
  served = false;
}

-- served, it goes on to the script if entries wait
abbrev pub going_of : Board → Served → Going
going_of b s = record {
  board = with_chip b s.chip;
  audio_half = s.audio_half;
  uart_rx = s.uart_rx;
  written = 0;
  place = s.chip.script.place;
  applied = 0;
  refused = 0;
  usb_frame = s.usb_frame;
  wdt = s.wdt;
  on = ltb 0 s.chip.script.count;
  served = true;
}

abbrev pub moved_by : Board → ℕ → Board
moved_by b cycles = with_chip b (moved_to b.chip (now_of b.chip + cycles))

-- "Before `next_due` a step only moves the clock."
unfoldable pub started_of : Board → ℕ → List ℕ → Going
started_of b cycles queue =
    cond (ltb (now_of b.chip + cycles) b.chip.clock.next_due)
    (stopped_of (moved_by b cycles) 0)
    (going_of b (served_of (moved_to b.chip (now_of b.chip + cycles)) queue))

unfoldable pub begun_of : Board → ℕ → Front → List ℕ → List ℕ → Going
begun_of b cycles front queue out =
    cond (eqb (step_refusal b cycles front (length queue) (length out)) 0)
    (started_of b cycles queue)
    (stopped_of b (step_refusal b cycles front (length queue) (length out)))

-- ---- an entry of the script

abbrev pub waiting : Going → ℕ
waiting g = waits g.board

-- what a turn asks: an entry waits, and output and counts have room for all that wait
pub record Ready (g : Going) (queue out : ℕ) : Type 0 where
  pub sound : Sound g.board
  pub lent : queue ≡ queue_bytes
  pub front : g.place ≡ front_place g.board
  pub place : g.place < entries
  pub some : 0 < waiting g
  pub few : g.applied + waiting g ≤ entries
  pub lost : g.board.chip.uart.dropped + waiting g ≤ 2 ^ 62 + entries
  pub room : g.written + 17 * waiting g ≤ out

abbrev pub later : Going → Entry → Bool
later g e = ltb (now_of g.board.chip) e.at

-- the front noted: the step goes no further
abbrev pub noted_of : Going → Entry → Going
noted_of g e = record {
  board = with_chip g.board (with_script g.board.chip (looked_of g.board.chip.script e.at));
  audio_half = g.audio_half;
  uart_rx = g.uart_rx;
  written = g.written;
  place = g.place;
  applied = g.applied;
  refused = g.refused;
  usb_frame = g.usb_frame;
  wdt = g.wdt;
  on = false;
  served = g.served;
}

-- the front gone
abbrev pub shorter : Going → Board
shorter g = with_chip g.board (with_script g.board.chip (taken_of g.board.chip.script))

-- "A step's action output uses these, with the time the script gave."
abbrev pub record_of : Entry → List ℕ
record_of e = bytes_of_timed e.at e.action

abbrev pub taken_by : Going → Entry → Going
taken_by g e = record {
  board = apply_of (shorter g) e.action;
  audio_half = g.audio_half;
  uart_rx = g.uart_rx;
  written = g.written + length (record_of e);
  place = next_place g.board.chip.script;
  applied = g.applied + 1;
  refused = g.refused;
  usb_frame = g.usb_frame;
  wdt = g.wdt;
  on = ltb 0 (taken_of g.board.chip.script).count;
  served = g.served;
}

-- "the front alone is looked at"
unfoldable pub turned_of : Going → Entry → Going
turned_of g e = cond (later g e) (noted_of g e) (taken_by g e)

unfoldable pub queue_of : Going → Entry → List ℕ → List ℕ
queue_of g e queue = cond (later g e) queue (apply_in (shorter g) e.action queue)

unfoldable pub out_of : Going → Entry → List ℕ → List ℕ
out_of g e out = cond (later g e) out (written_of out g.written (record_of e))

-- ---- and ends

-- a step that was served knows when the next event comes
abbrev pub settled : Bool → Board → Board
settled served b = cond served (with_chip b (due_at b.chip (next_event b.chip))) b

unfoldable pub finished_of : Going → Stepped
finished_of g = record {
  board = settled g.served g.board;
  audio_half = g.audio_half;
  uart_rx = g.uart_rx;
  written = g.written;
  applied = g.applied;
  refused = g.refused;
  usb_frame = g.usb_frame;
  wdt = g.wdt;
}

-- ---- the whole of a step: its state, the queue and the output

abbrev pub Ran : Type 0
Ran = Going × (List ℕ × List ℕ)

abbrev pub turn_of : (ℕ → Entry) → Ran → Ran
turn_of look z =
    (turned_of z.0 (look z.0.place), (queue_of z.0 (look z.0.place) z.1.0, out_of z.0 (look z.0.place) z.1.1))

-- at most k turns
unfoldable pub runs : ℕ → (ℕ → Entry) → Ran → Ran
runs zero look z = z
runs (suc k) look z = cond z.0.on (runs k look (turn_of look z)) z

-- of a script of n entries, which `look` shows; there are at most as many turns as entries wait
unfoldable pub ran : Board → ℕ → (ℕ → Entry) → ℕ → List ℕ → List ℕ → Ran
ran b cycles look n queue out =
    runs (waits b) look (begun_of b cycles (shown n (look (front_place b))) queue out, (queue, out))

abbrev pub step_of : Board → ℕ → (ℕ → Entry) → ℕ → List ℕ → List ℕ → Stepped
step_of b cycles look n queue out = finished_of (ran b cycles look n queue out).0

-- the records of k entries from a place on, round the script's end
unfoldable pub records_of : (ℕ → Entry) → ℕ → ℕ → List ℕ
records_of look place zero = []
records_of look place (suc k) = record_of (look place) ++ records_of look ((place + 1) % entries) k

-- ---- a push: one more entry waits, and the next step looks at everything

abbrev pub more_pushed : Board → ℕ → Board
more_pushed b at = with_chip b (due_now (with_script b.chip (script_pushed b.chip.script at)))

unfoldable pub placed_of : Board → Front → ℕ → Spot
placed_of b front at =
    cond (eqb (push_refusal b front) 0)
    (record { board = more_pushed b at; place = spot_of b.chip.script; refused = 0; ok = true })
    (record { board = b; place = 0; refused = push_refusal b front; ok = false })

abbrev pub pushed_of : Spot → Done
pushed_of s = record { board = s.board; refused = s.refused }
