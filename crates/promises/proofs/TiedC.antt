-- C's calls are the run's: what each one's contract says of the record, the lent memory and the answer, read back from C's numbers (specs/Boundary), is what the run does and what `answer_of` says.
use mathlib.Core.Path.{◌≡◌, refl, ap, ◌∙◌}
use mathlib.Core.Bool.{Bool, true, false}
use mathlib.Core.List.{List}
use Prim.Native.Nat.{ℕ, ◌<◌, ◌^◌}
use base.Logic.{SProp, ent, via}
use contract.Fact.{fact, fact_mono}
use contract.Lifetimes.{Lfts}
use contract.Monad.{Fun}
use denote.Triple.Clauses.{AtExit}
use denote.Triple.Entry.{Args}
use types.Logic.{Logic}
use seplogic.Ra.Ura.{Ura}
use lib.ListN.{length}
use prog.Memory.{Memory}
use prog.Routine.{Routine}
use Rattle.std.specs.Prelude.{Option, Some, None}
use Rattle.audio.specs.Told.{told_half}
use Rattle.audio.specs.declared.Half.{Half}
use Rattle.base.specs.Bits.{when_of}
use Rattle.board.specs.Calls.{read_call}
use Rattle.board_runner.specs.Calls.{any_call, cap_call, choice_call, cycles_call, dropped_call, enabled_call, exc_call, idle_call, isr_call, led_call, ms_call, next_due_call, queued_call, room_call, shift_call, skip_call, spi1_call, spi1_off_call, spi2_call, spi2_flag_call, tick_call, ticks_call, usb_call, wdt_call}
use Rattle.board_guard.specs.declared.Done.{Done}
use Rattle.board_runner.specs.declared.Chosen.{Chosen as BoardChosen}
use Rattle.board_runner.specs.declared.Flag.{Flag}
use Rattle.board_runner.specs.declared.Lit.{Lit}
use Rattle.board_runner.specs.declared.Number.{Number}
use Rattle.board.specs.declared.Reading.{Reading as BoardReading}
use Rattle.board_runner.specs.declared.Ticked.{Ticked}
use Rattle.board.specs.declared.Written.{Written}
use Rattle.capi.specs.Flags.{is_yes}
use Rattle.capi_answers.specs.Edge.{read_of, of_half, of_byte, of_choice, of_reading as reading_of, of_stepped as advanced_of, of_chosen as chosen_of}
use Rattle.capi_answers.specs.declared.Advanced.{Advanced}
use Rattle.capi_answers.specs.declared.Chosen.{Chosen}
use Rattle.capi_answers.specs.declared.Reading.{Reading}
use Rattle.irq.specs.Told.{told_choice}
use Rattle.irq.specs.declared.Choice.{Choice}
use Rattle.regs.specs.Told.{told_value}
use Rattle.script.proofs.Words.{action-fits}
use Rattle.script.specs.Words.{action_of, words_at, places_in}
use Rattle.script.specs.declared.Entry.{Entry}
use Rattle.state.specs.declared.Board.{Board}
use Rattle.step.specs.Step.{step_of}
use Rattle.step.specs.declared.Stepped.{Stepped}
use Rattle.uart.specs.Told.{told_byte}
use Rattle.uart.specs.declared.Byte.{Byte}
use Rattle.promises.specs.Boundary.{from_reading, from_chosen, from_moved, from_advanced}
use Rattle.promises.specs.Refusals.{Answer, of_done, of_ticked, of_number, of_flag, of_reading, of_written, of_lit, of_chosen, of_stepped, Tied}
use Rattle.promises.specs.Run.{Held, advance, apply, push, read, write, chip_reset, tick, tick_room, next_tick_due, idle, any_pending, irq_enabled, pending_irq, pending_irq_for, led_take, spi1_start, spi2_start, spi1_irq_off, sr_shift_byte, ms, cycle_of_ms, midi_queued, midi_dropped, set_cycle_ticks, set_skip_idle, set_in_isr, set_room_cap, set_exc_pending, set_spi2_pending, set_usb, set_wdt, with_board, made_refused, made}
use Rattle.promises.proofs.Forms.{both-forms}
use Rattle.promises.proofs.Once.{told-two, beside, beside_two}
use Rattle.promises.proofs.Tied.{held, new-number}
use Rattle.capi.specs.contracts.calls.fm1_advance as capi-fm1-advance
use Rattle.capi.specs.contracts.calls.fm1_any_pending as capi-fm1-any-pending
use Rattle.capi.specs.contracts.calls.fm1_apply as capi-fm1-apply
use Rattle.capi.specs.contracts.calls.fm1_chip_reset as capi-fm1-chip-reset
use Rattle.capi.specs.contracts.calls.fm1_cycle_of_ms as capi-fm1-cycle-of-ms
use Rattle.capi.specs.contracts.calls.fm1_idle as capi-fm1-idle
use Rattle.capi.specs.contracts.calls.fm1_irq_enabled as capi-fm1-irq-enabled
use Rattle.capi.specs.contracts.calls.fm1_led_take as capi-fm1-led-take
use Rattle.capi.specs.contracts.calls.fm1_midi_dropped as capi-fm1-midi-dropped
use Rattle.capi.specs.contracts.calls.fm1_midi_queued as capi-fm1-midi-queued
use Rattle.capi.specs.contracts.calls.fm1_ms as capi-fm1-ms
use Rattle.capi.specs.contracts.calls.fm1_new as capi-fm1-new
use Rattle.capi.specs.contracts.calls.fm1_next_tick_due as capi-fm1-next-tick-due
use Rattle.capi.specs.contracts.calls.fm1_pending_irq as capi-fm1-pending-irq
use Rattle.capi.specs.contracts.calls.fm1_pending_irq_for as capi-fm1-pending-irq-for
use Rattle.capi.specs.contracts.calls.fm1_push as capi-fm1-push
use Rattle.capi.specs.contracts.calls.fm1_read as capi-fm1-read
use Rattle.capi.specs.contracts.calls.fm1_set_cycle_ticks as capi-fm1-set-cycle-ticks
use Rattle.capi.specs.contracts.calls.fm1_set_exc_pending as capi-fm1-set-exc-pending
use Rattle.capi.specs.contracts.calls.fm1_set_in_isr as capi-fm1-set-in-isr
use Rattle.capi.specs.contracts.calls.fm1_set_room_cap as capi-fm1-set-room-cap
use Rattle.capi.specs.contracts.calls.fm1_set_skip_idle as capi-fm1-set-skip-idle
use Rattle.capi.specs.contracts.calls.fm1_set_spi2_pending as capi-fm1-set-spi2-pending
use Rattle.capi.specs.contracts.calls.fm1_set_usb as capi-fm1-set-usb
use Rattle.capi.specs.contracts.calls.fm1_set_wdt as capi-fm1-set-wdt
use Rattle.capi.specs.contracts.calls.fm1_spi1_irq_off as capi-fm1-spi1-irq-off
use Rattle.capi.specs.contracts.calls.fm1_spi1_start as capi-fm1-spi1-start
use Rattle.capi.specs.contracts.calls.fm1_spi2_start as capi-fm1-spi2-start
use Rattle.capi.specs.contracts.calls.fm1_sr_shift_byte as capi-fm1-sr-shift-byte
use Rattle.capi.specs.contracts.calls.fm1_tick as capi-fm1-tick
use Rattle.capi.specs.contracts.calls.fm1_tick_room as capi-fm1-tick-room
use Rattle.capi.specs.contracts.calls.fm1_write as capi-fm1-write

-- ---- what C is told, read back

reading-back : (r : BoardReading) → from_reading (reading_of r) ≡ of_reading r
unfolding read_of told_value
reading-back r = go r.value
  where
    go : (v : Option ℕ) → from_reading (read_of r.board r.refused v) ≡ Answer.value r.refused (told_value v)
    go (Some n) = refl
    go None = refl

chosen-back : (c : BoardChosen) → from_chosen (chosen_of c) ≡ of_chosen c
unfolding of_choice told_choice
chosen-back c = go c.choice
  where
    go : (x : Option Choice) → from_chosen (of_choice c.refused x) ≡ Answer.choice c.refused (told_choice x)
    go (Some x) = refl
    go None = refl

half_back : (h : Option Half) → from_moved (of_half h) ≡ told_half h
unfolding of_half told_half
half_back (Some h) = refl
half_back None = refl

byte-back : (x : Option Byte) → from_moved (of_byte x) ≡ told_byte x
unfolding of_byte told_byte
byte-back (Some x) = refl
byte-back None = refl

flag-back : (t : Bool) → is_yes (when_of t 1) ≡ t
flag-back true = refl
flag-back false = refl

advanced-back : (s : Stepped) (out : List ℕ) → from_advanced (advanced_of s) out ≡ of_stepped s out
advanced-back s out i =
    Answer.events s.refused (half_back s.audio_half i) (byte-back s.uart_rx i) (flag-back s.usb_frame i) (flag-back s.wdt i) s.applied s.written out

module _ {M : Type 1} {𝓤 : Ura M} (𝓛 : Logic 𝓤) (mem : Memory → SProp 𝓤) (run : Routine → Fun 𝓤) where
  pub capi-fm1-tick-tied : (s : Held) (κs : Lfts 0) (g : Unit {0}) (r : Ticked) (e : AtExit capi-fm1-tick.ended κs)
      → ent 𝓤 ((capi-fm1-tick.clauses 𝓛 mem run κs (s.board, tt)).ensures g r e) (fact 𝓤 (Tied tick s (with_board s r.board) (of_ticked r)))
  capi-fm1-tick-tied s κs g r e = fact_mono 𝓤 (r ≡ tick_call s.board) _ (λ p. (ap (λ (d : Ticked). with_board s d.board) p, ap (λ (d : Ticked). of_ticked d) p))

  pub capi-fm1-tick-room-tied : (s : Held) (κs : Lfts 0) (g : Unit {0}) (r : Number) (e : AtExit capi-fm1-tick-room.ended κs)
      → ent 𝓤 ((capi-fm1-tick-room.clauses 𝓛 mem run κs (s.board, tt)).ensures g r e) (fact 𝓤 (Tied tick_room s s (of_number r)))
  capi-fm1-tick-room-tied s κs g r e = fact_mono 𝓤 (r ≡ room_call s.board) _ (λ p. (refl, ap (λ (d : Number). of_number d) p))

  pub capi-fm1-next-tick-due-tied : (s : Held) (κs : Lfts 0) (g : Unit {0}) (r : Flag) (e : AtExit capi-fm1-next-tick-due.ended κs)
      → ent 𝓤 ((capi-fm1-next-tick-due.clauses 𝓛 mem run κs (s.board, tt)).ensures g r e) (fact 𝓤 (Tied next_tick_due s s (of_flag r)))
  capi-fm1-next-tick-due-tied s κs g r e = fact_mono 𝓤 (r ≡ next_due_call s.board) _ (λ p. (refl, ap (λ (d : Flag). of_flag d) p))

  pub capi-fm1-idle-tied : (s : Held) (κs : Lfts 0) (g : Unit {0}) (r : Done) (e : AtExit capi-fm1-idle.ended κs)
      → ent 𝓤 ((capi-fm1-idle.clauses 𝓛 mem run κs (s.board, tt)).ensures g r e) (fact 𝓤 (Tied idle s (with_board s r.board) (of_done r)))
  capi-fm1-idle-tied s κs g r e = fact_mono 𝓤 (r ≡ idle_call s.board) _ (λ p. (ap (λ (d : Done). with_board s d.board) p, ap (λ (d : Done). of_done d) p))

  pub capi-fm1-any-pending-tied : (s : Held) (κs : Lfts 0) (g : Unit {0}) (r : Flag) (e : AtExit capi-fm1-any-pending.ended κs)
      → ent 𝓤 ((capi-fm1-any-pending.clauses 𝓛 mem run κs (s.board, tt)).ensures g r e) (fact 𝓤 (Tied any_pending s s (of_flag r)))
  capi-fm1-any-pending-tied s κs g r e = fact_mono 𝓤 (r ≡ any_call s.board) _ (λ p. (refl, ap (λ (d : Flag). of_flag d) p))

  pub capi-fm1-led-take-tied : (s : Held) (κs : Lfts 0) (g : Unit {0}) (r : Lit) (e : AtExit capi-fm1-led-take.ended κs)
      → ent 𝓤 ((capi-fm1-led-take.clauses 𝓛 mem run κs (s.board, tt)).ensures g r e) (fact 𝓤 (Tied led_take s (with_board s r.board) (of_lit r)))
  capi-fm1-led-take-tied s κs g r e = fact_mono 𝓤 (r ≡ led_call s.board) _ (λ p. (ap (λ (d : Lit). with_board s d.board) p, ap (λ (d : Lit). of_lit d) p))

  pub capi-fm1-spi1-start-tied : (s : Held) (bytes baud irq : ℕ) (κs : Lfts 0) (g : Unit {0}) (r : Done) (e : AtExit capi-fm1-spi1-start.ended κs)
      → ent 𝓤 ((capi-fm1-spi1-start.clauses 𝓛 mem run κs (s.board, (bytes, (baud, (irq, tt))))).ensures g r e) (fact 𝓤 (Tied (spi1_start bytes baud (is_yes irq)) s (with_board s r.board) (of_done r)))
  capi-fm1-spi1-start-tied s bytes baud irq κs g r e = fact_mono 𝓤 (r ≡ spi1_call s.board bytes baud (is_yes irq)) _ (λ p. (ap (λ (d : Done). with_board s d.board) p, ap (λ (d : Done). of_done d) p))

  pub capi-fm1-spi2-start-tied : (s : Held) (bytes baud irq : ℕ) (κs : Lfts 0) (g : Unit {0}) (r : Done) (e : AtExit capi-fm1-spi2-start.ended κs)
      → ent 𝓤 ((capi-fm1-spi2-start.clauses 𝓛 mem run κs (s.board, (bytes, (baud, (irq, tt))))).ensures g r e) (fact 𝓤 (Tied (spi2_start bytes baud (is_yes irq)) s (with_board s r.board) (of_done r)))
  capi-fm1-spi2-start-tied s bytes baud irq κs g r e = fact_mono 𝓤 (r ≡ spi2_call s.board bytes baud (is_yes irq)) _ (λ p. (ap (λ (d : Done). with_board s d.board) p, ap (λ (d : Done). of_done d) p))

  pub capi-fm1-spi1-irq-off-tied : (s : Held) (κs : Lfts 0) (g : Unit {0}) (r : Done) (e : AtExit capi-fm1-spi1-irq-off.ended κs)
      → ent 𝓤 ((capi-fm1-spi1-irq-off.clauses 𝓛 mem run κs (s.board, tt)).ensures g r e) (fact 𝓤 (Tied spi1_irq_off s (with_board s r.board) (of_done r)))
  capi-fm1-spi1-irq-off-tied s κs g r e = fact_mono 𝓤 (r ≡ spi1_off_call s.board) _ (λ p. (ap (λ (d : Done). with_board s d.board) p, ap (λ (d : Done). of_done d) p))

  pub capi-fm1-sr-shift-byte-tied : (s : Held) (byte : ℕ) (κs : Lfts 0) (g : Unit {0}) (r : Done) (e : AtExit capi-fm1-sr-shift-byte.ended κs)
      → ent 𝓤 ((capi-fm1-sr-shift-byte.clauses 𝓛 mem run κs (s.board, (byte, tt))).ensures g r e) (fact 𝓤 (Tied (sr_shift_byte byte) s (with_board s r.board) (of_done r)))
  capi-fm1-sr-shift-byte-tied s byte κs g r e = fact_mono 𝓤 (r ≡ shift_call s.board byte) _ (λ p. (ap (λ (d : Done). with_board s d.board) p, ap (λ (d : Done). of_done d) p))

  pub capi-fm1-ms-tied : (s : Held) (κs : Lfts 0) (g : Unit {0}) (r : Number) (e : AtExit capi-fm1-ms.ended κs)
      → ent 𝓤 ((capi-fm1-ms.clauses 𝓛 mem run κs (s.board, tt)).ensures g r e) (fact 𝓤 (Tied ms s s (of_number r)))
  capi-fm1-ms-tied s κs g r e = fact_mono 𝓤 (r ≡ ms_call s.board) _ (λ p. (refl, ap (λ (d : Number). of_number d) p))

  pub capi-fm1-cycle-of-ms-tied : (s : Held) (n : ℕ) (κs : Lfts 0) (g : Unit {0}) (r : Number) (e : AtExit capi-fm1-cycle-of-ms.ended κs)
      → ent 𝓤 ((capi-fm1-cycle-of-ms.clauses 𝓛 mem run κs (s.board, (n, tt))).ensures g r e) (fact 𝓤 (Tied (cycle_of_ms n) s s (of_number r)))
  capi-fm1-cycle-of-ms-tied s n κs g r e = fact_mono 𝓤 (r ≡ cycles_call s.board n) _ (λ p. (refl, ap (λ (d : Number). of_number d) p))

  pub capi-fm1-midi-queued-tied : (s : Held) (κs : Lfts 0) (g : Unit {0}) (r : Number) (e : AtExit capi-fm1-midi-queued.ended κs)
      → ent 𝓤 ((capi-fm1-midi-queued.clauses 𝓛 mem run κs (s.board, tt)).ensures g r e) (fact 𝓤 (Tied midi_queued s s (of_number r)))
  capi-fm1-midi-queued-tied s κs g r e = fact_mono 𝓤 (r ≡ queued_call s.board) _ (λ p. (refl, ap (λ (d : Number). of_number d) p))

  pub capi-fm1-midi-dropped-tied : (s : Held) (κs : Lfts 0) (g : Unit {0}) (r : Number) (e : AtExit capi-fm1-midi-dropped.ended κs)
      → ent 𝓤 ((capi-fm1-midi-dropped.clauses 𝓛 mem run κs (s.board, tt)).ensures g r e) (fact 𝓤 (Tied midi_dropped s s (of_number r)))
  capi-fm1-midi-dropped-tied s κs g r e = fact_mono 𝓤 (r ≡ dropped_call s.board) _ (λ p. (refl, ap (λ (d : Number). of_number d) p))

  pub capi-fm1-set-cycle-ticks-tied : (s : Held) (ticks : ℕ) (κs : Lfts 0) (g : Unit {0}) (r : Done) (e : AtExit capi-fm1-set-cycle-ticks.ended κs)
      → ent 𝓤 ((capi-fm1-set-cycle-ticks.clauses 𝓛 mem run κs (s.board, (ticks, tt))).ensures g r e) (fact 𝓤 (Tied (set_cycle_ticks ticks) s (with_board s r.board) (of_done r)))
  capi-fm1-set-cycle-ticks-tied s ticks κs g r e = fact_mono 𝓤 (r ≡ ticks_call s.board ticks) _ (λ p. (ap (λ (d : Done). with_board s d.board) p, ap (λ (d : Done). of_done d) p))

  pub capi-fm1-set-skip-idle-tied : (s : Held) (on : ℕ) (κs : Lfts 0) (g : Unit {0}) (r : Done) (e : AtExit capi-fm1-set-skip-idle.ended κs)
      → ent 𝓤 ((capi-fm1-set-skip-idle.clauses 𝓛 mem run κs (s.board, (on, tt))).ensures g r e) (fact 𝓤 (Tied (set_skip_idle (is_yes on)) s (with_board s r.board) (of_done r)))
  capi-fm1-set-skip-idle-tied s on κs g r e = fact_mono 𝓤 (r ≡ skip_call s.board (is_yes on)) _ (λ p. (ap (λ (d : Done). with_board s d.board) p, ap (λ (d : Done). of_done d) p))

  pub capi-fm1-set-in-isr-tied : (s : Held) (on : ℕ) (κs : Lfts 0) (g : Unit {0}) (r : Done) (e : AtExit capi-fm1-set-in-isr.ended κs)
      → ent 𝓤 ((capi-fm1-set-in-isr.clauses 𝓛 mem run κs (s.board, (on, tt))).ensures g r e) (fact 𝓤 (Tied (set_in_isr (is_yes on)) s (with_board s r.board) (of_done r)))
  capi-fm1-set-in-isr-tied s on κs g r e = fact_mono 𝓤 (r ≡ isr_call s.board (is_yes on)) _ (λ p. (ap (λ (d : Done). with_board s d.board) p, ap (λ (d : Done). of_done d) p))

  pub capi-fm1-set-room-cap-tied : (s : Held) (cap : ℕ) (κs : Lfts 0) (g : Unit {0}) (r : Done) (e : AtExit capi-fm1-set-room-cap.ended κs)
      → ent 𝓤 ((capi-fm1-set-room-cap.clauses 𝓛 mem run κs (s.board, (cap, tt))).ensures g r e) (fact 𝓤 (Tied (set_room_cap cap) s (with_board s r.board) (of_done r)))
  capi-fm1-set-room-cap-tied s cap κs g r e = fact_mono 𝓤 (r ≡ cap_call s.board cap) _ (λ p. (ap (λ (d : Done). with_board s d.board) p, ap (λ (d : Done). of_done d) p))

  pub capi-fm1-set-exc-pending-tied : (s : Held) (on : ℕ) (κs : Lfts 0) (g : Unit {0}) (r : Done) (e : AtExit capi-fm1-set-exc-pending.ended κs)
      → ent 𝓤 ((capi-fm1-set-exc-pending.clauses 𝓛 mem run κs (s.board, (on, tt))).ensures g r e) (fact 𝓤 (Tied (set_exc_pending (is_yes on)) s (with_board s r.board) (of_done r)))
  capi-fm1-set-exc-pending-tied s on κs g r e = fact_mono 𝓤 (r ≡ exc_call s.board (is_yes on)) _ (λ p. (ap (λ (d : Done). with_board s d.board) p, ap (λ (d : Done). of_done d) p))

  pub capi-fm1-set-spi2-pending-tied : (s : Held) (on : ℕ) (κs : Lfts 0) (g : Unit {0}) (r : Done) (e : AtExit capi-fm1-set-spi2-pending.ended κs)
      → ent 𝓤 ((capi-fm1-set-spi2-pending.clauses 𝓛 mem run κs (s.board, (on, tt))).ensures g r e) (fact 𝓤 (Tied (set_spi2_pending (is_yes on)) s (with_board s r.board) (of_done r)))
  capi-fm1-set-spi2-pending-tied s on κs g r e = fact_mono 𝓤 (r ≡ spi2_flag_call s.board (is_yes on)) _ (λ p. (ap (λ (d : Done). with_board s d.board) p, ap (λ (d : Done). of_done d) p))

  pub capi-fm1-set-usb-tied : (s : Held) (at period : ℕ) (κs : Lfts 0) (g : Unit {0}) (r : Done) (e : AtExit capi-fm1-set-usb.ended κs)
      → ent 𝓤 ((capi-fm1-set-usb.clauses 𝓛 mem run κs (s.board, (at, (period, tt)))).ensures g r e) (fact 𝓤 (Tied (set_usb at period) s (with_board s r.board) (of_done r)))
  capi-fm1-set-usb-tied s at period κs g r e = fact_mono 𝓤 (r ≡ usb_call s.board at period) _ (λ p. (ap (λ (d : Done). with_board s d.board) p, ap (λ (d : Done). of_done d) p))

  pub capi-fm1-set-wdt-tied : (s : Held) (at : ℕ) (κs : Lfts 0) (g : Unit {0}) (r : Done) (e : AtExit capi-fm1-set-wdt.ended κs)
      → ent 𝓤 ((capi-fm1-set-wdt.clauses 𝓛 mem run κs (s.board, (at, tt))).ensures g r e) (fact 𝓤 (Tied (set_wdt at) s (with_board s r.board) (of_done r)))
  capi-fm1-set-wdt-tied s at κs g r e = fact_mono 𝓤 (r ≡ wdt_call s.board at) _ (λ p. (ap (λ (d : Done). with_board s d.board) p, ap (λ (d : Done). of_done d) p))

  pub capi-fm1-read-tied : (queue : List ℕ) (look : ℕ → Entry) (n : ℕ) (κs : Lfts (capi-fm1-read.signature).lifetimes) (args : Args capi-fm1-read.signature κs) (g : Unit {0}) (r : Reading) (e : AtExit capi-fm1-read.ended κs)
      → ent 𝓤 ((capi-fm1-read.clauses 𝓛 mem run κs args).ensures g r e)
      (fact 𝓤 (Tied (read args.1.0) (held args.0 queue look n args.1.1.0.now args.1.1.1.0.now) (held r.board queue look n args.1.1.0.now args.1.1.1.0.now) (from_reading r)))
  unfolding read_of
  capi-fm1-read-tied queue look n κs args g r e = fact_mono 𝓤 (r ≡ reading_of (read_call args.0 args.1.0 args.1.1.0.now args.1.1.1.0.now)) _ (λ p. (ap (λ (d : Reading). held d.board queue look n args.1.1.0.now args.1.1.1.0.now) p, ap (λ (d : Reading). from_reading d) p ∙ reading-back (read_call args.0 args.1.0 args.1.1.0.now args.1.1.1.0.now)))

  pub capi-fm1-irq-enabled-tied : (queue : List ℕ) (look : ℕ → Entry) (n : ℕ) (κs : Lfts (capi-fm1-irq-enabled.signature).lifetimes) (args : Args capi-fm1-irq-enabled.signature κs) (g : Unit {0}) (r : Flag) (e : AtExit capi-fm1-irq-enabled.ended κs)
      → ent 𝓤 ((capi-fm1-irq-enabled.clauses 𝓛 mem run κs args).ensures g r e)
      (fact 𝓤 (Tied (irq_enabled args.1.0 args.1.1.0) (held args.0 queue look n args.1.1.1.0.now args.1.1.1.1.0.now) (held args.0 queue look n args.1.1.1.0.now args.1.1.1.1.0.now) (of_flag r)))
  capi-fm1-irq-enabled-tied queue look n κs args g r e = fact_mono 𝓤 (r ≡ enabled_call args.0 args.1.0 args.1.1.0 args.1.1.1.0.now args.1.1.1.1.0.now) _ (λ p. (refl, ap (λ (d : Flag). of_flag d) p))

  pub capi-fm1-pending-irq-tied : (queue : List ℕ) (look : ℕ → Entry) (n : ℕ) (κs : Lfts (capi-fm1-pending-irq.signature).lifetimes) (args : Args capi-fm1-pending-irq.signature κs) (g : Unit {0}) (r : Chosen) (e : AtExit capi-fm1-pending-irq.ended κs)
      → ent 𝓤 ((capi-fm1-pending-irq.clauses 𝓛 mem run κs args).ensures g r e)
      (fact 𝓤 (Tied pending_irq (held args.0 queue look n args.1.0.now args.1.1.0.now) (held args.0 queue look n args.1.0.now args.1.1.0.now) (from_chosen r)))
  capi-fm1-pending-irq-tied queue look n κs args g r e = fact_mono 𝓤 (r ≡ chosen_of (choice_call args.0 0 args.1.0.now args.1.1.0.now)) _ (λ p. (refl, ap (λ (d : Chosen). from_chosen d) p ∙ chosen-back (choice_call args.0 0 args.1.0.now args.1.1.0.now)))

  pub capi-fm1-pending-irq-for-tied : (queue : List ℕ) (look : ℕ → Entry) (n : ℕ) (κs : Lfts (capi-fm1-pending-irq-for.signature).lifetimes) (args : Args capi-fm1-pending-irq-for.signature κs) (g : Unit {0}) (r : Chosen) (e : AtExit capi-fm1-pending-irq-for.ended κs)
      → ent 𝓤 ((capi-fm1-pending-irq-for.clauses 𝓛 mem run κs args).ensures g r e)
      (fact 𝓤 (Tied (pending_irq_for args.1.0) (held args.0 queue look n args.1.1.0.now args.1.1.1.0.now) (held args.0 queue look n args.1.1.0.now args.1.1.1.0.now) (from_chosen r)))
  capi-fm1-pending-irq-for-tied queue look n κs args g r e = fact_mono 𝓤 (r ≡ chosen_of (choice_call args.0 args.1.0 args.1.1.0.now args.1.1.1.0.now)) _ (λ p. (refl, ap (λ (d : Chosen). from_chosen d) p ∙ chosen-back (choice_call args.0 args.1.0 args.1.1.0.now args.1.1.1.0.now)))

  pub capi-fm1-write-tied : (queue : List ℕ) (look : ℕ → Entry) (n : ℕ) (κs : Lfts (capi-fm1-write.signature).lifetimes) (args : Args capi-fm1-write.signature κs) (fits : args.1.1.0 < 2 ^ 32) (g : Unit {0}) (r : Written) (e : AtExit capi-fm1-write.ended κs)
      → ent 𝓤 ((capi-fm1-write.clauses 𝓛 mem run κs args).ensures g r e)
      (fact 𝓤 (Tied (write args.1.0 args.1.1.0 fits) (held args.0 queue look n args.1.1.1.0.now args.1.1.1.1.0.now) (held r.board queue look n e.1.1.1.0.now e.1.1.1.1.0.now) (of_written r)))
  capi-fm1-write-tied queue look n κs args fits g r e =
      via 𝓤 _ (beside_two 𝓤 r _ e.1.1.1.0.now _ e.1.1.1.1.0.now _) (fact_mono 𝓤 _ _ (λ p. ((λ i. held (p.0 i).board queue look n (p.1 i).0 (p.1 i).1), ap (λ (d : Written). of_written d) p.0)))

  pub capi-fm1-chip-reset-tied : (queue : List ℕ) (look : ℕ → Entry) (n : ℕ) (κs : Lfts (capi-fm1-chip-reset.signature).lifetimes) (args : Args capi-fm1-chip-reset.signature κs) (g : Unit {0}) (r : Done) (e : AtExit capi-fm1-chip-reset.ended κs)
      → ent 𝓤 ((capi-fm1-chip-reset.clauses 𝓛 mem run κs args).ensures g r e)
      (fact 𝓤 (Tied chip_reset (held args.0 queue look n args.1.0.now args.1.1.0.now) (held r.board queue look n e.1.0.now e.1.1.0.now) (of_done r)))
  capi-fm1-chip-reset-tied queue look n κs args g r e =
      via 𝓤 _ (beside_two 𝓤 r _ e.1.0.now _ e.1.1.0.now _) (fact_mono 𝓤 _ _ (λ p. ((λ i. held (p.0 i).board queue look n (p.1 i).0 (p.1 i).1), ap (λ (d : Done). of_done d) p.0)))

  pub capi-fm1-apply-tied : (look : ℕ → Entry) (n : ℕ) (icfg icfg1 : List ℕ) (κs : Lfts (capi-fm1-apply.signature).lifetimes) (args : Args capi-fm1-apply.signature κs) (g : Unit {0}) (r : Done) (e : AtExit capi-fm1-apply.ended κs)
      → ent 𝓤 ((capi-fm1-apply.clauses 𝓛 mem run κs args).ensures g r e)
      (fact 𝓤 (Tied (apply (action_of args.1.0)) (held args.0 args.1.1.0.now look n icfg icfg1) (held r.board e.1.1.0.now look n icfg icfg1) (of_done r)))
  capi-fm1-apply-tied look n icfg icfg1 κs args g r e =
      via 𝓤 _ (beside 𝓤 r _ e.1.1.0.now _) (fact_mono 𝓤 _ _ (λ p. ((λ i. held (p.0 i).board (p.1 i) look n icfg icfg1), ap (λ (d : Done). of_done d) p.0)))

  pub capi-fm1-advance-tied : (icfg icfg1 : List ℕ) (κs : Lfts (capi-fm1-advance.signature).lifetimes) (args : Args capi-fm1-advance.signature κs) (g : Unit {0}) (r : Advanced) (e : AtExit capi-fm1-advance.ended κs)
      → ent 𝓤 ((capi-fm1-advance.clauses 𝓛 mem run κs args).ensures g r e)
      (fact 𝓤 (Tied (advance args.1.0 args.1.1.1.1.0.now) (held args.0 args.1.1.0.now (words_at args.1.1.1.0.now) (places_in args.1.1.1.0.now) icfg icfg1)
      (held r.board e.1.1.0.now (words_at args.1.1.1.0.now) (places_in args.1.1.1.0.now) icfg icfg1) (from_advanced r e.1.1.1.1.0.now)))
  capi-fm1-advance-tied icfg icfg1 κs args g r e =
      via 𝓤 _ (told-two 𝓤 r _ e.1.1.0.now _ e.1.1.1.1.0.now _)
      (fact_mono 𝓤 _ _ (λ p. ((λ i. held (p.0 i).board (p.1 i).0 (words_at args.1.1.1.0.now) (places_in args.1.1.1.0.now) icfg icfg1), (λ i. from_advanced (p.0 i) (p.1 i).1) ∙ advanced-back (step_of args.0 args.1.0 (words_at args.1.1.1.0.now) (places_in args.1.1.1.0.now) args.1.1.0.now args.1.1.1.1.0.now) _)))

  pub capi-fm1-push-tied : (queue icfg icfg1 : List ℕ) (κs : Lfts (capi-fm1-push.signature).lifetimes) (args : Args capi-fm1-push.signature κs) (g : Unit {0}) (r : Done) (e : AtExit capi-fm1-push.ended κs)
      → ent 𝓤 ((capi-fm1-push.clauses 𝓛 mem run κs args).ensures g r e)
      (fact 𝓤 (Tied (push args.1.1.0 (action_of args.1.1.1.0)) (held args.0 queue (words_at args.1.0.now) (places_in args.1.0.now) icfg icfg1) (held r.board queue (words_at e.1.0.now) (places_in e.1.0.now) icfg icfg1) (of_done r)))
  capi-fm1-push-tied queue icfg icfg1 κs args g r e =
      let s = held args.0 queue (words_at args.1.0.now) (places_in args.1.0.now) icfg icfg1 in
      fact_mono 𝓤 _ _
      (λ p. (
        (λ i. held (p.0 i).board queue (words_at (p.1 i)) (places_in (p.1 i)) icfg icfg1)
            ∙ (both-forms s args.0 queue).words-push args.1.0.now args.1.1.0 (action_of args.1.1.1.0) (action-fits args.1.1.1.0),
        ap (λ (d : Done). of_done d) p.0,
      ))

  pub capi-fm1-new-tied : (any : Board) (κs : Lfts (capi-fm1-new.signature).lifetimes) (args : Args capi-fm1-new.signature κs) (g : Unit {0}) (r : Done) (e : AtExit capi-fm1-new.ended κs)
      → ent 𝓤 ((capi-fm1-new.clauses 𝓛 mem run κs args).ensures g r e)
      (fact 𝓤 ((held r.board args.1.0.now (words_at args.1.1.0.now) (places_in args.1.1.0.now) e.1.1.1.0.now e.1.1.1.1.0.now ≡ made args.0 (held any args.1.0.now (words_at args.1.1.0.now) (places_in args.1.1.0.now) args.1.1.1.0.now args.1.1.1.1.0.now)) × (r.refused ≡ made_refused args.0 (held any args.1.0.now (words_at args.1.1.0.now) (places_in args.1.1.0.now) args.1.1.1.0.now args.1.1.1.1.0.now))))
  capi-fm1-new-tied any κs args g r e =
      via 𝓤 _ (beside_two 𝓤 r _ e.1.1.1.0.now _ e.1.1.1.1.0.now _)
      (fact_mono 𝓤 _ _
      (λ p. (
        (λ i. held (p.0 i).board args.1.0.now (words_at args.1.1.0.now) (places_in args.1.1.0.now) (p.1 i).0 (p.1 i).1),
        ap (λ (d : Done). d.refused) p.0 ∙ new-number args.0 (length args.1.0.now) (places_in args.1.1.0.now) (length args.1.1.1.0.now) (length args.1.1.1.1.0.now),
      )))
