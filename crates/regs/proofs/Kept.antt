-- A write keeps a whole record whole.
use mathlib.Core.Path.{◌≡◌, refl, sym, subst}
use mathlib.Core.Bool.{Bool, true, false, cond, ◌&&◌, ◌||◌, true≢false}
use mathlib.Core.List.{List}
use mathlib.Core.Logic.{◌⊎◌, ⊎_elim, inl, inr}
use Prim.Native.Nat.{ℕ, zero, suc, ◌+◌, ◌≤◌, ◌<◌, ◌^◌}
use native.Mathlib.Nat.{le_refl}
use native.Mathlib.Omega.{arith}
use borrow.Author.Tests.{eqb-true, ne_eqb, ltb-false}
use lib.Dec.{eqb, ltb}
use Rattle.base.specs.Bits.{unless_of}
use Rattle.base.specs.Moments.{clock_max}
use Rattle.adc.specs.Adc.{con_written}
use Rattle.audio.proofs.Kept.{con0-kept as audio-con0-kept, con1-kept, pend-kept, con3-kept, adr-kept, len-kept}
use Rattle.audio.specs.Audio.{con0_written as audio_con0, con1_written, pend_written, con3_written, adr_written, len_written}
use Rattle.audio.specs.Facts.{AudioOk}
use Rattle.audio.specs.declared.Audio.{Audio}
use Rattle.panel.proofs.Kept.{credited-kept, light-credited, pa-kept, light-pa}
use Rattle.panel.proofs.Once.{fm1-none-twice}
use Rattle.panel.specs.Facts.{PinsOk, LightOk}
use Rattle.panel.specs.Led.{credited_times}
use Rattle.panel.specs.Map.{fm1_map}
use Rattle.panel.specs.Pins.{credited, pa_written, ph_written, dir_written, pu_written, hd0_written, hd_written}
use Rattle.panel.specs.declared.pins.Pins.{Pins}
use Rattle.timers.proofs.Kept.{t4-con-kept, t4-cnt-kept, t5-con-kept, t5-prd-kept, tmr-con-kept, tmr-cnt-kept, tmr-prd-kept, tick-ctl-kept, tick-cnt-kept, tick-prd-kept}
use Rattle.timers.specs.Facts.{T4Ok, T5Ok, TmrOk, TickOk}
use Rattle.timers.specs.OsTick.{tick_ctl_written, tick_cnt_written, tick_prd_written}
use Rattle.timers.specs.Timer.{tmr_of, tmr_con_written, tmr_cnt_written, tmr_prd_written}
use Rattle.timers.specs.Timer4.{t4_con_written, t4_cnt_written}
use Rattle.timers.specs.Timer5.{t5_con_written, t5_prd_written}
use Rattle.timers.specs.declared.os_tick.Tick.{Tick}
use Rattle.timers.specs.declared.timer.Tmr.{Tmr}
use Rattle.timers.specs.declared.timer4.T4.{T4}
use Rattle.timers.specs.declared.timer5.T5.{T5}
use Rattle.uart.proofs.Kept.{con0-kept as uart-con0-kept, rxsadr-kept, rxeadr-kept, rxcnt-kept, otcnt-kept, txcnt-kept}
use Rattle.uart.specs.Facts.{UartOk}
use Rattle.uart.specs.Uart.{con0_written as uart_con0, rxsadr_written, rxeadr_written, rxcnt_written, otcnt_written, txcnt_written}
use Rattle.uart.specs.declared.Uart.{Uart}
use Rattle.state.proofs.Kept.{put-clock, put-adc, put-chip}
use Rattle.state.specs.State.{next_event}
use Rattle.state.specs.Whole.{ChipOk, Whole}
use Rattle.state.specs.With.{with_adc, with_chip, due_at}
use Rattle.state.specs.declared.Board.{Board}
use Rattle.state.specs.declared.Chip.{Chip}
use Rattle.regs.proofs.ReadsKept.{unless-most}
use Rattle.regs.specs.Writes.{timed_at, t4_written, t5_written, tmr_written, tmrs_written, audio_written, tick_written, uart_written, pins_written, times_written, chip_written, adc_written, board_written}

-- what holds in both cases holds in either
either : {A : Type 0} (P : A → Type 0) (t : Bool) (x y : A) → P x → P y → P (cond t x y)
either P true x y p q = p
either P false x y p q = q

-- an address is the one, or is told apart from it
which : (addr k : ℕ) → (addr ≡ k) ⊎ (eqb addr k ≡ false)
which addr k = go (eqb addr k) refl
  where
    go : (t : Bool) → eqb addr k ≡ t → (addr ≡ k) ⊎ (eqb addr k ≡ false)
    go true e = inl (eqb-true addr k e)
    go false e = inr e

-- ---- the blocks

module _ (addr v now hz : ℕ) (m : now ≤ clock_max) (g : hz < 2 ^ 32) (r : v < 2 ^ 32) where
  t4-kept : (t : T4) → T4Ok t now → T4Ok (t4_written t addr v now) now
  unfolding t4_written
  t4-kept t w =
      either (λ x. T4Ok x now) (eqb addr 0x10800) (t4_con_written t v now) _ (t4-con-kept t v now w)
      (either (λ x. T4Ok x now) (eqb addr 0x10804) (t4_cnt_written t now) t (t4-cnt-kept t now w) w)

  t5-kept : (t : T5) → T5Ok t → T5Ok (t5_written t addr v now hz)
  unfolding t5_written
  t5-kept t w =
      either T5Ok (eqb addr 0x10900) (t5_con_written t v now hz) _ (t5-con-kept t v now hz w m g)
      (either T5Ok (eqb addr 0x10908) (t5_prd_written t v) t (t5-prd-kept t v w r) w)

  -- over the base: the four timers are one
  tmr-kept : (t : Tmr) (base : ℕ) → TmrOk t now → TmrOk (tmr_written t base addr v now hz) now
  unfolding tmr_written
  tmr-kept t base w =
      either (λ x. TmrOk x now) (eqb addr base) (tmr_con_written t v now hz) _ (tmr-con-kept t v now hz w m g)
      (either (λ x. TmrOk x now) (eqb addr (base + 4)) (tmr_cnt_written t v now hz) _ (tmr-cnt-kept t v now hz w m g)
      (either (λ x. TmrOk x now) (eqb addr (base + 8)) (tmr_prd_written t v now hz) t (tmr-prd-kept t v now hz w m g r) w))

  tmrs-kept : (ts : List Tmr) → ((i : ℕ) → i < 4 → TmrOk (tmr_of ts i) now) → (i : ℕ) → i < 4 → TmrOk (tmr_of (tmrs_written ts addr v now hz) i) now
  unfolding tmrs_written
  tmrs-kept ts w zero h = tmr-kept (tmr_of ts 0) 0x10400 (w 0 h)
  tmrs-kept ts w (suc zero) h = tmr-kept (tmr_of ts 1) 0x10500 (w 1 h)
  tmrs-kept ts w (suc (suc zero)) h = tmr-kept (tmr_of ts 2) 0x10600 (w 2 h)
  tmrs-kept ts w (suc (suc (suc zero))) h = tmr-kept (tmr_of ts 3) 0x10700 (w 3 h)
  tmrs-kept ts w (suc (suc (suc (suc i)))) h = absurd (omega arith)

  tick-kept : (t : Tick) → TickOk t now → TickOk (tick_written t addr v now hz) now
  unfolding tick_written
  tick-kept t w =
      either (λ x. TickOk x now) (eqb addr 0x1eef0ec) (tick_ctl_written t v now hz) _ (tick-ctl-kept t now hz w m g v)
      (either (λ x. TickOk x now) (eqb addr 0x1eef0f0) (tick_cnt_written t now hz) _ (tick-cnt-kept t now hz w m g)
      (either (λ x. TickOk x now) (eqb addr 0x1eef0f4) (tick_prd_written t v) t (tick-prd-kept t v now w) w))

  audio-kept : (a : Audio) → AudioOk a → AudioOk (audio_written a addr v now hz)
  unfolding audio_written
  audio-kept a w =
      either AudioOk (eqb addr 0x12e00) (audio_con0 a v now hz) _ (audio-con0-kept a now hz w m g v)
      (either AudioOk (eqb addr 0x12e04) (con1_written a v) _ (con1-kept a v w)
      (either AudioOk (eqb addr 0x12e08) (pend_written a v) _ (pend-kept a v w)
      (either AudioOk (eqb addr 0x12e0c) (con3_written a v) _ (con3-kept a v w)
      (either AudioOk (eqb addr 0x12e1c) (adr_written a v) _ (adr-kept a v w)
      (either AudioOk (eqb addr 0x12e20) (len_written a v) a (len-kept a v w) w)))))

  uart-kept : (u : Uart) → UartOk u → UartOk (uart_written u addr v)
  unfolding uart_written
  uart-kept u w =
      either UartOk (eqb addr 0x12100) (uart_con0 u v) _ (uart-con0-kept u w v)
      (either UartOk (eqb addr 0x1211c) (rxsadr_written u v) _ (rxsadr-kept u w v)
      (either UartOk (eqb addr 0x12120) (rxeadr_written u v) _ (rxeadr-kept u w v)
      (either UartOk (eqb addr 0x12124) (rxcnt_written u v) _ (rxcnt-kept u w v)
      (either UartOk (eqb addr 0x12110) (otcnt_written u v) _ (otcnt-kept u w v r)
      (either UartOk (eqb addr 0x12118) (txcnt_written u) u (txcnt-kept u w) w)))))

  pins-kept : (p : Pins) → PinsOk p now → PinsOk (pins_written p addr v now) now
  unfolding pins_written
  pins-kept p w =
      let k = credited-kept p now w in
      either (λ x. PinsOk x now) (eqb addr 0x50000) (pa_written (credited p now) v) _ (pa-kept (credited p now) now k v)
      (either (λ x. PinsOk x now) (eqb addr 0x50008) (dir_written p v) _ (record { last = w.last; since = w.since; pend = w.pend })
      (either (λ x. PinsOk x now) (eqb addr 0x50010) (pu_written p v) _ (record { last = w.last; since = w.since; pend = w.pend })
      (either (λ x. PinsOk x now) (eqb addr 0x50018) (hd0_written p v) _ (record { last = w.last; since = w.since; pend = w.pend })
      (either (λ x. PinsOk x now) (eqb addr 0x5001c) (hd_written p v) _ (record { last = w.last; since = w.since; pend = w.pend })
      (either (λ x. PinsOk x now) (eqb addr 0x501c0) (ph_written (credited p now) v) p (record { last = k.last; since = k.since; pend = k.pend }) w)))))

-- ---- the LEDs' account

module _ (p : Pins) (v now : ℕ) (acc : List ℕ) (w : PinsOk p now) (lit : LightOk p acc) where
  abbrev Lit : ℕ → Type 0
  Lit addr = LightOk (pins_written p addr v now) (times_written p addr now acc)

  charged : LightOk (credited p now) (credited_times fm1_map p now acc)
  charged = light-credited fm1_map fm1-none-twice p now acc w lit

  dark : (addr : ℕ) → eqb addr 0x50000 ≡ false → eqb addr 0x50008 ≡ false → eqb addr 0x50010 ≡ false → eqb addr 0x50018 ≡ false
      → eqb addr 0x5001c ≡ false → eqb addr 0x501c0 ≡ false → Lit addr
  unfolding pins_written times_written
  dark addr a b c d e f = rw (a, b, c, d, e, f) lit

  at-pa : Lit 0x50000
  unfolding pins_written times_written
  at-pa = light-pa (credited p now) (credited_times fm1_map p now acc) charged v

  at-dir : Lit 0x50008
  unfolding pins_written times_written
  at-dir = lit

  at-pu : Lit 0x50010
  unfolding pins_written times_written
  at-pu = lit

  at-hd0 : Lit 0x50018
  unfolding pins_written times_written
  at-hd0 = lit

  at-hd : Lit 0x5001c
  unfolding pins_written times_written
  at-hd = lit

  at-ph : Lit 0x501c0
  unfolding pins_written times_written
  at-ph = charged

  light-kept : (addr : ℕ) → Lit addr
  light-kept addr =
      ⊎_elim (λ e. subst Lit (sym e) at-pa) (λ a.
      ⊎_elim (λ e. subst Lit (sym e) at-dir) (λ b.
      ⊎_elim (λ e. subst Lit (sym e) at-pu) (λ c.
      ⊎_elim (λ e. subst Lit (sym e) at-hd0) (λ d.
      ⊎_elim (λ e. subst Lit (sym e) at-hd) (λ e.
      ⊎_elim (λ e'. subst Lit (sym e') at-ph) (λ f. dark addr a b c d e f)
      (which addr 0x501c0)) (which addr 0x5001c)) (which addr 0x50018)) (which addr 0x50010)) (which addr 0x50008)) (which addr 0x50000)

-- ---- the chip

pub chip-kept : (c : Chip) (addr v : ℕ) → ChipOk c → v < 2 ^ 32 → ChipOk (chip_written c addr v)
unfolding chip_written tmrs_written
chip-kept c addr v w r =
    let now = c.clock.cycles in
    let hz = c.clock.hz in
    let m = w.clock.cycles in
    let g : hz < 2 ^ 32 = omega (arith, w.clock.high) in
    record {
      clock = record { low = w.clock.low; high = w.clock.high; cycles = m };
      t4 = t4-kept addr v now hz m g r c.t4 w.t4;
      t5 = t5-kept addr v now hz m g r c.t5 w.t5;
      tmr = tmrs-kept addr v now hz m g r c.tmr w.tmr;
      tmrs = refl;
      tick = tick-kept addr v now hz m g r c.tick w.tick;
      audio = audio-kept addr v now hz m g r c.audio w.audio;
      spi = w.spi;
      uart = uart-kept addr v now hz m g r c.uart w.uart;
      host = w.host;
      script = w.script;
      pins = pins-kept addr v now hz m g r c.pins w.pins;
      enc = w.enc;
      encs = w.encs;
      keys = w.keys;
    }

-- ---- `next_due`

module _ (c : Chip) (addr v : ℕ) where
  -- an address among the ports' is none of a timed block's
  module _ (l : 0x50000 ≤ addr) (h : addr ≤ 0x501ff) where
    below : (k : ℕ) → k < 0x50000 → eqb addr k ≡ false
    below k g = ne_eqb addr k (λ (e : addr ≡ k). absurd (omega arith))

    above : (k : ℕ) → 0x501ff < k → eqb addr k ≡ false
    above k g = ne_eqb addr k (λ (e : addr ≡ k). absurd (omega arith))

    -- TIMER0 to 3 over the base
    tmr-else : (t : Tmr) (base : ℕ) → base ≤ 0x10700 → tmr_written t base addr v c.clock.cycles c.clock.hz ≡ t
    unfolding tmr_written
    tmr-else t base g = rw (below base (omega arith), below (base + 4) (omega arith), below (base + 8) (omega arith))

    ports-event : next_event (chip_written c addr v) ≡ next_event c
    unfolding chip_written next_event t5_written tmrs_written tick_written audio_written uart_written
    ports-event =
        rw
        (below 0x10900 (omega arith), below 0x10908 (omega arith), tmr-else (tmr_of c.tmr 0) 0x10400 (omega arith), tmr-else (tmr_of c.tmr 1) 0x10500 (omega arith), tmr-else (tmr_of c.tmr 2) 0x10600 (omega arith), tmr-else (tmr_of c.tmr 3) 0x10700 (omega arith), above 0x1eef0ec (omega arith), above 0x1eef0f0 (omega arith), above 0x1eef0f4 (omega arith), below 0x12e00 (omega arith), below 0x12e04 (omega arith), below 0x12e08 (omega arith), below 0x12e0c (omega arith), below 0x12e1c (omega arith), below 0x12e20 (omega arith), below 0x12100 (omega arith), below 0x1211c (omega arith), below 0x12120 (omega arith), below 0x12124 (omega arith), below 0x12110 (omega arith), below 0x12118 (omega arith))

-- the words that ignore writes move no deadline
ignored-event : (c : Chip) (v addr : ℕ) → (addr ≡ 0x13100) ⊎ ((addr ≡ 0x13104) ⊎ ((addr ≡ 0x10808) ⊎ (addr ≡ 0x10904))) → next_event (chip_written c addr v) ≡ next_event c
unfolding chip_written next_event t5_written tmrs_written tmr_written tick_written audio_written uart_written
ignored-event c v addr (inl e) = rw e
ignored-event c v addr (inr (inl e)) = rw e
ignored-event c v addr (inr (inr (inl e))) = rw e
ignored-event c v addr (inr (inr (inr e))) = rw e

-- what is not timed and none of those is a port's
ports-of : (addr : ℕ) → timed_at addr ≡ false → eqb addr 0x13100 ≡ false → eqb addr 0x13104 ≡ false → eqb addr 0x10808 ≡ false → eqb addr 0x10904 ≡ false
    → (0x50000 ≤ addr) × (addr ≤ 0x501ff)
unfolding timed_at
ports-of addr h a b c d = go (ltb addr 0x50000) (ltb 0x501ff addr) (eqb addr 0x500c0) refl refl (rw (a, b, c, d) at h)
  where
    go : (x y z : Bool) → ltb addr 0x50000 ≡ x → ltb 0x501ff addr ≡ y → ((x || y || z) && true && true) ≡ false
        → (0x50000 ≤ addr) × (addr ≤ 0x501ff)
    go true y z p q r = absurd (true≢false r)
    go false true z p q r = absurd (true≢false r)
    go false false z p q r = (ltb-false addr 0x50000 p, ltb-false 0x501ff addr q)

untimed-event : (c : Chip) (addr v : ℕ) → timed_at addr ≡ false → next_event (chip_written c addr v) ≡ next_event c
untimed-event c addr v h =
    ⊎_elim (λ e. ignored-event c v addr (inl e)) (λ a.
    ⊎_elim (λ e. ignored-event c v addr (inr (inl e))) (λ b.
    ⊎_elim (λ e. ignored-event c v addr (inr (inr (inl e)))) (λ d.
    ⊎_elim (λ e. ignored-event c v addr (inr (inr (inr e)))) (λ f.
    let k = ports-of addr h a b d f in ports-event c addr v k.0 k.1)
    (which addr 0x10904)) (which addr 0x10808)) (which addr 0x13104)) (which addr 0x13100)

chip-due : (c : Chip) (addr v : ℕ) → c.clock.next_due ≤ next_event c → (chip_written c addr v).clock.next_due ≤ next_event (chip_written c addr v)
unfolding chip_written
chip-due c addr v h = go (timed_at addr) refl
  where
    go : (t : Bool) → timed_at addr ≡ t → unless_of (timed_at addr) c.clock.next_due ≤ next_event (chip_written c addr v)
    go true e = rw e (omega arith)
    go false e = rw (untimed-event c addr v e, e) h

-- ---- the board

adc-whole : (b : Board) (v : ℕ) → Whole b → Whole (with_chip b (adc_written b.chip b.panel.ramps b.panel.values v))
unfolding adc_written next_event
adc-whole b v w =
    let c = b.chip in
    let wrote = con_written c.adc fm1_map c.pins b.panel.ramps b.panel.values c.clock.cycles v in
    let due = unless_of wrote.due c.clock.next_due in
    let k = put-clock c w.sound.chip c.clock.cycles due c.clock.skipped (le_refl c.clock.cycles) w.sound.chip.clock.cycles in
    record {
      sound = put-chip b w.sound (with_adc (due_at c due) wrote.adc) (put-adc (due_at c due) k wrote.adc) refl refl refl;
      due = unless-most wrote.due c.clock.next_due (next_event c) w.due;
    }

-- "Accepted calls keep a whole record whole": a write
pub write_kept : (b : Board) (addr v : ℕ) → Whole b → v < 2 ^ 32 → Whole (board_written b addr v)
unfolding board_written chip_written
write_kept b addr v w r =
    let c = b.chip in
    let k = w.sound in
    either Whole (eqb addr 0x13100) (with_chip b (adc_written c b.panel.ramps b.panel.values v)) _ (adc-whole b v w)
    (record {
      sound = record {
        chip = chip-kept c addr v k.chip r;
        ramps = k.ramps;
        sized = k.sized;
        light = light-kept c.pins v c.clock.cycles b.panel.acc k.chip.pins k.light addr;
      };
      due = chip-due c addr v w.due;
    })
