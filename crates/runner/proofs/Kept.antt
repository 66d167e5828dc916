-- What the runner asks keeps a whole record whole.
use Rattle.std.proofs.Common.{◌≡◌, ℕ, ◌+◌, ◌-◌, ◌%◌, ◌^◌, ◌<◌, ◌≤◌, min, Bool, true, false, cond, ◌||◌, eqb, ltb, refl, inr, ⊎_elim, le_trans, le_refl, arith, ltb-true}
use Rattle.base.specs.Limits.{spi_bytes_max, spi_baud_max}
use Rattle.base.specs.Bits.{unless_of}
use Rattle.base.specs.Moments.{clock_max, never, Deadline}
use Rattle.irq.specs.Sources.{any_pending_of}
use Rattle.panel.proofs.Kept.{credited-kept, taken-kept, light-taken}
use Rattle.panel.specs.Led.{taken_of}
use Rattle.panel.specs.Pins.{byte_shifted, credited, taken}
use Rattle.spi.proofs.Kept.{spi1-start-kept, spi1-off-kept, spi2-start-kept}
use Rattle.spi.specs.Spi.{spi_next, spi1_started, spi1_off, spi2_started}
use Rattle.state.proofs.Kept.{put-spi, put-pins, put-host, put-latch, put-clock, put-chip, later}
use Rattle.state.specs.State.{timers_next, wires_next, host_next, front_next, next_event, pending_of}
use Rattle.uart.specs.Uart.{uart_next}
use Rattle.state.specs.Whole.{ChipOk, Whole}
use Rattle.state.specs.With.{with_clock, with_spi, clock_at, set_clock, due_at, due_now, with_chip}
use Rattle.state.specs.declared.Board.{Board}
use Rattle.state.specs.declared.Chip.{Chip}
use Rattle.runner.specs.Runner.{ticked_of, idle_end, jump_to, idled_of, spi1_of, spi1_off_of, spi2_of, shifted_of, light_of, flag_of, with_ticks, with_skip, with_isr, with_cap, with_exc, with_spi2, with_usb, with_wdt}

-- a word on what is due that is cleared or kept is no later
unless-most : (t : Bool) (due event : ℕ) → due ≤ event → unless_of t due ≤ event
unless-most true due event h = omega arith
unless-most false due event h = h

-- where a smaller one of two deadlines goes later, so may their least
min-up : (x y z : ℕ) → x ≤ y → min x z ≤ min y z
min-up x y z h = omega arith

min-up-right : (x y z : ℕ) → x ≤ y → min z x ≤ min z y
min-up-right x y z h = omega arith

-- an SPI1 interrupt that is switched off is later than any
off-later : (x : Chip) → x.spi.spi1_irq_at ≤ never → next_event x ≤ next_event (with_spi x (spi1_off x.spi))
unfolding next_event
off-later x h =
    min-up (min (timers_next x) (wires_next x)) (min (timers_next x) (wires_next (with_spi x (spi1_off x.spi)))) (min (host_next x) (front_next x))
    (min-up-right (wires_next x) (wires_next (with_spi x (spi1_off x.spi))) (timers_next x)
    (min-up (spi_next x.spi) (spi_next (spi1_off x.spi)) (min x.audio.next (uart_next x.uart))
    (min-up x.spi.spi1_irq_at never x.spi.spi2_next h)))

module _ (b : Board) (w : Whole b) where
  abbrev c : Chip
  c = b.chip

  abbrev now : ℕ
  now = b.chip.clock.cycles

  abbrev k : ChipOk b.chip
  k = w.sound.chip

  hz-fits : c.clock.hz < 2 ^ 32
  hz-fits = omega (arith, k.clock.high)

  -- ---- the clock

  -- a later clock, with what is due cleared or as it was
  moved-kept : (t : Bool) (end skipped : ℕ) → now ≤ end → end ≤ clock_max
      → Whole (with_chip b (with_clock c (clock_at c.clock end (unless_of t c.clock.next_due) skipped)))
  unfolding next_event
  moved-kept t end skipped l m = record {
    sound = later b w.sound end (unless_of t c.clock.next_due) skipped l m;
    due = unless-most t c.clock.next_due (next_event c) w.due;
  }

  pub tick-kept : now < clock_max → Whole (with_chip b (ticked_of c))
  tick-kept h = moved-kept false (now + 1) c.clock.skipped (omega arith) (omega arith)

  idle-forward : now ≤ idle_end c
  unfolding idle_end
  idle-forward = go (eqb c.clock.skip_idle 0 || any_pending_of (pending_of c)) (eqb (next_event c) never) (ltb (now + 1) (next_event c)) refl
    where
      go : (s n t : Bool) → ltb (now + 1) (next_event c) ≡ t → now ≤ cond s now (cond n now (cond t (next_event c - 1) now))
      go true n t e = le_refl now
      go false true t e = le_refl now
      go false false true e = let h = ltb-true (now + 1) (next_event c) e in omega arith
      go false false false e = le_refl now

  pub idle-kept : idle_end c ≤ clock_max → Whole (with_chip b (idled_of c))
  unfolding idled_of jump_to
  idle-kept m = moved-kept (ltb now (idle_end c)) (idle_end c) ((c.clock.skipped + (idle_end c - now)) % 2 ^ 64) idle-forward m

  -- ---- SPI and the shift register

  module _ (bytes baud : ℕ) (irq : Bool) (f : bytes ≤ spi_bytes_max) (g : baud ≤ spi_baud_max) where
    abbrev due : ℕ
    due = unless_of irq c.clock.next_due

    spi1-due : (t : Bool) → unless_of t c.clock.next_due ≤ next_event (with_spi (due_at c (unless_of t c.clock.next_due)) (spi1_started c.spi bytes baud t now c.clock.hz))
    unfolding next_event spi1_started
    spi1-due true = omega arith
    spi1-due false = w.due

    pub spi1-kept : Whole (with_chip b (spi1_of c bytes baud irq))
    unfolding spi1_of
    spi1-kept =
        let s = spi1_started c.spi bytes baud irq now c.clock.hz in
        let d = due_at c due in
        let e = put-clock c k now due c.clock.skipped (le_refl now) k.clock.cycles in
        record {
          sound = put-chip b w.sound (with_spi d s) (put-spi d e s (spi1-start-kept c.spi bytes baud irq now c.clock.hz k.spi f g k.clock.cycles hz-fits)) refl refl refl;
          due = spi1-due irq;
        }

    pub spi2-kept : Whole (with_chip b (spi2_of c bytes baud irq))
    unfolding spi2_of
    spi2-kept =
        let s = spi2_started c.spi bytes baud irq now c.clock.hz in
        let d = due_now c in
        let e = put-clock c k now 0 c.clock.skipped (le_refl now) k.clock.cycles in
        record {
          sound = put-chip b w.sound (with_spi d s) (put-spi d e s (spi2-start-kept c.spi bytes baud irq now c.clock.hz k.spi f g k.clock.cycles hz-fits)) refl refl refl;
          due = omega arith;
        }

  pub spi1-off-whole : Whole (with_chip b (spi1_off_of c))
  unfolding spi1_off_of
  spi1-off-whole = record {
    sound = put-chip b w.sound (with_spi c (spi1_off c.spi)) (put-spi c k (spi1_off c.spi) (spi1-off-kept c.spi k.spi)) refl refl refl;
    due = le_trans w.due
        (off-later c (⊎_elim (λ (e : c.spi.spi1_irq_at ≤ 2 ^ 63). omega arith) (λ (e : c.spi.spi1_irq_at ≡ never). omega (arith, e)) k.spi.irq));
  }

  pub shift_kept : (x : ℕ) → Whole (with_chip b (shifted_of c x))
  unfolding shifted_of next_event
  shift_kept x =
      let p = byte_shifted c.pins x in
      record {
        sound = record {
          chip = put-pins c k p (record { last = k.pins.last; since = k.pins.since; pend = k.pins.pend });
          ramps = w.sound.ramps;
          sized = w.sound.sized;
          light = w.sound.light;
        };
        due = w.due;
      }

  -- ---- LEDs

  pub light-kept : Whole (light_of b).board
  unfolding light_of taken_of next_event
  light-kept =
      let p = credited c.pins now in
      record {
        sound = record {
          chip = put-pins c k (taken p now) (taken-kept p now (credited-kept c.pins now k.pins));
          ramps = w.sound.ramps;
          sized = w.sound.sized;
          light = light-taken p now;
        };
        due = w.due;
      }

  -- ---- settings

  set-kept : (ticks cap isr skip : ℕ) → Whole (with_chip b (with_clock c (set_clock c.clock ticks cap isr skip)))
  unfolding next_event
  set-kept ticks cap isr skip = record {
    sound = record {
      chip = record { clock = record { low = k.clock.low; high = k.clock.high; cycles = k.clock.cycles }; t4 = k.t4; t5 = k.t5; tmr = k.tmr; tmrs = k.tmrs; tick = k.tick; audio = k.audio; spi = k.spi; uart = k.uart; host = k.host; script = k.script; pins = k.pins; enc = k.enc; encs = k.encs; keys = k.keys };
      ramps = w.sound.ramps;
      sized = w.sound.sized;
      light = w.sound.light;
    };
    due = w.due;
  }

  pub ticks-kept : (ticks : ℕ) → Whole (with_chip b (with_ticks c ticks))
  ticks-kept ticks = set-kept ticks c.clock.room_cap c.clock.in_isr c.clock.skip_idle

  pub cap-kept : (cap : ℕ) → Whole (with_chip b (with_cap c cap))
  cap-kept cap = set-kept c.clock.cycle_ticks cap c.clock.in_isr c.clock.skip_idle

  pub skip-kept : (on : Bool) → Whole (with_chip b (with_skip c on))
  unfolding with_skip
  skip-kept on = set-kept c.clock.cycle_ticks c.clock.room_cap c.clock.in_isr (flag_of on)

  pub isr-kept : (on : Bool) → Whole (with_chip b (with_isr c on))
  unfolding with_isr
  isr-kept on = set-kept c.clock.cycle_ticks c.clock.room_cap (flag_of on) c.clock.skip_idle

  pub exc-kept : (on : Bool) → Whole (with_chip b (with_exc c on))
  unfolding with_exc next_event
  exc-kept on =
      record { sound = put-chip b w.sound (with_exc c on) (put-latch c k (with_exc c on).latch) refl refl refl; due = w.due }

  pub spi2-flag-kept : (on : Bool) → Whole (with_chip b (with_spi2 c on))
  unfolding with_spi2 next_event
  spi2-flag-kept on = record {
    sound = put-chip b w.sound (with_spi2 c on) (put-spi c k (with_spi2 c on).spi (record { done = k.spi.done; irq = k.spi.irq; spi2 = k.spi.spi2 })) refl refl refl;
    due = w.due;
  }

  pub usb-set-kept : (at period : ℕ) → Deadline at → 1 ≤ period → period ≤ clock_max → Whole (with_chip b (with_usb c at period))
  usb-set-kept at period d l m =
      let e = put-clock c k now 0 c.clock.skipped (le_refl now) k.clock.cycles in
      record {
        sound = put-chip b w.sound (with_usb c at period) (put-host (due_now c) e (with_usb c at period).host (record { usb = d; wdt = k.host.wdt; period = inr (l, m) })) refl refl refl;
        due = omega arith;
      }

  pub wdt-set-kept : (at : ℕ) → Deadline at → Whole (with_chip b (with_wdt c at))
  wdt-set-kept at d =
      let e = put-clock c k now 0 c.clock.skipped (le_refl now) k.clock.cycles in
      record {
        sound = put-chip b w.sound (with_wdt c at) (put-host (due_now c) e (with_wdt c at).host (record { usb = k.host.usb; wdt = d; period = k.host.period })) refl refl refl;
        due = omega arith;
      }
