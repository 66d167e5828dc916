-- Moments and writes keep each timer's part of a whole record; before its deadline a timer is itself.
use Rattle.std.proofs.Common.{◌≡◌, ℕ, zero, suc, ◌+◌, ◌-◌, ◌*◌, ◌/◌, ◌^◌, ◌<◌, ◌≤◌, min, max, Bool, true, false, cond, ◌||◌, eqb, ltb, ◌⊎◌, List, length, refl, inl, inr, ⊎_elim, le_trans, le_refl, lt_of_lt_of_le, mul-le-mul, arith, le-ltb, lt-ltb}
use Rattle.base.proofs.Lists.{get_or-map, map_same}
use lib.Bits.{bit_and}
use Rattle.base.proofs.Cases.{lt-or-ge}
use Rattle.base.proofs.Deadlines.{rearmed-deadline, switched-fact, started-past}
use Rattle.base.specs.Bits.{is_set}
use Rattle.base.specs.Moments.{never, clock_max, Deadline}
use Rattle.times.specs.Clocks.{cycles_of_mhz6, cycles_of_mhz24}
use Rattle.times.specs.Divider.{divider_of}
use Rattle.times.proofs.Quotients.{slower}
use Rattle.times.proofs.Dividers.{divider-most}
use Rattle.timers.specs.declared.timer4.T4.{T4}
use Rattle.timers.specs.declared.timer5.T5.{T5}
use Rattle.timers.specs.declared.timer.Tmr.{Tmr}
use Rattle.timers.specs.declared.os_tick.Tick.{Tick}
use Rattle.timers.specs.Timer4.{poll_of, poll_end, streak_of, t4_con_written, t4_cnt_written}
use Rattle.timers.specs.Timer5.{t5_period, t5_at, t5_con_written, t5_prd_written}
use Rattle.timers.specs.Timer.{no_tmr, tmr_of, tmrs_at, tmrs_next, tmr_per_count, tmr_period, tmr_at, tmr_armed, tmr_con_written, tmr_cnt_written, tmr_prd_written}
use Rattle.timers.specs.OsTick.{tick_period, tick_at, tick_ctl_written, tick_cnt_written, tick_prd_written}
use Rattle.timers.specs.Facts.{T4Ok, T5Ok, TmrOk, TickOk}

-- ---- TIMER5

pub t5-quiet : (t : T5) (now hz : ℕ) → now < t.next → t5_at t now hz ≡ t
unfolding t5_at
t5-quiet t now hz h = rw (lt-ltb now t.next h)

t5-period-most : (t : T5) (hz : ℕ) → t.prd < 2 ^ 32 → hz < 2 ^ 32 → t5_period t hz ≤ 2 ^ 42
unfolding t5_period
t5-period-most t hz h g =
    let k : cycles_of_mhz6 (max t.prd 1) hz ≤ max t.prd 1 * 716 = slower (max t.prd 1) hz 716 6_000_000 (omega arith) (omega arith) in
    omega arith

pub t5-at-kept : (t : T5) (now hz : ℕ) → T5Ok t → now ≤ clock_max → hz < 2 ^ 32 → T5Ok (t5_at t now hz)
unfolding t5_at
t5-at-kept t now hz w c g =
    ⊎_elim
    (λ (l : now < t.next). rw (lt-ltb now t.next l) w)
    (λ (l : t.next ≤ now).
    rw (le-ltb now t.next l)
    (record {
      next = rearmed-deadline t.next now (t5_period t hz) l c (le_trans (t5-period-most t hz w.prd g) (omega arith));
      prd = w.prd;
    }))
    (lt-or-ge now t.next)

pub t5-con-kept : (t : T5) (v now hz : ℕ) → T5Ok t → now ≤ clock_max → hz < 2 ^ 32 → T5Ok (t5_con_written t v now hz)
unfolding t5_con_written
t5-con-kept t v now hz w c g =
    record {
      next = switched-fact (is_set t.con 1) (is_set v 1) t.next (now + t5_period t hz) w.next
          (inl (omega (arith, t5-period-most t hz w.prd g)));
      prd = w.prd;
    }

pub t5-prd-kept : (t : T5) (v : ℕ) → T5Ok t → v < 2 ^ 32 → T5Ok (t5_prd_written t v)
t5-prd-kept t v w h = record { next = w.next; prd = h }

-- ---- timers 0 to 3

pub tmr-quiet : (t : Tmr) (now hz : ℕ) → now < t.next → tmr_at t now hz ≡ t
unfolding tmr_at
tmr-quiet t now hz h = rw (lt-ltb now t.next h)

tmr-count-most : (t : Tmr) (hz : ℕ) → hz < 2 ^ 32 → tmr_per_count t hz ≤ 2 ^ 23
unfolding tmr_per_count
tmr-count-most t hz g =
    let d = divider_of (t.con / 16) in
    let k : cycles_of_mhz24 d hz ≤ d * 179 = slower d hz 179 24_000_000 (omega arith) (omega arith) in
    omega (arith, divider-most (t.con / 16))

-- counts of a register's size, in cycles
counts-most : (n : ℕ) (t : Tmr) (hz : ℕ) → n ≤ 2 ^ 32 → hz < 2 ^ 32 → n * tmr_per_count t hz ≤ 2 ^ 55
counts-most n t hz h g = omega (arith, mul-le-mul h (tmr-count-most t hz g))

pub tmr-at-kept : (t : Tmr) (now hz : ℕ) → TmrOk t now → now ≤ clock_max → hz < 2 ^ 32 → TmrOk (tmr_at t now hz) now
unfolding tmr_at tmr_period
tmr-at-kept t now hz w c g =
    ⊎_elim
    (λ (l : now < t.next). rw (lt-ltb now t.next l) w)
    (λ (l : t.next ≤ now).
    let p : max t.prd 1 ≤ 2 ^ 32 = omega (arith, w.prd) in
    rw (le-ltb now t.next l)
    (record {
      start = l;
      next = rearmed-deadline t.next now (max t.prd 1 * tmr_per_count t hz) l c
          (le_trans (counts-most (max t.prd 1) t hz p g) (omega arith));
      prd = w.prd;
    }))
    (lt-or-ge now t.next)

armed_kept : (t : Tmr) (now hz : ℕ) → TmrOk t now → now ≤ clock_max → hz < 2 ^ 32 → TmrOk (tmr_armed t now hz) now
unfolding tmr_armed
armed_kept t now hz w c g = go (eqb (bit_and t.con 3) 0 || eqb t.prd 0)
  where
    n : ℕ
    n = max (t.prd - t.cnt0) 1

    on : Tmr
    on = record { start = now; next = now + n * tmr_per_count t hz; con = t.con; prd = t.prd; cnt0 = t.cnt0; pending = t.pending }

    off : Tmr
    off = record { start = t.start; next = never; con = t.con; prd = t.prd; cnt0 = t.cnt0; pending = t.pending }

    go : (b : Bool) → TmrOk (cond b off on) now
    go true = record { start = w.start; next = inr refl; prd = w.prd }
    go false =
        let p : n ≤ 2 ^ 32 = omega (arith, w.prd) in
        record { start = omega arith; next = inl (omega (arith, counts-most n t hz p g)); prd = w.prd }

module _ (t : Tmr) (v now hz : ℕ) (w : TmrOk t now) (c : now ≤ clock_max) (g : hz < 2 ^ 32) where
  pub tmr-con-kept : TmrOk (tmr_con_written t v now hz) now
  unfolding tmr_con_written
  tmr-con-kept = armed_kept _ now hz (record { start = w.start; next = w.next; prd = w.prd }) c g

  pub tmr-cnt-kept : TmrOk (tmr_cnt_written t v now hz) now
  unfolding tmr_cnt_written
  tmr-cnt-kept = armed_kept _ now hz (record { start = w.start; next = w.next; prd = w.prd }) c g

  pub tmr-prd-kept : v < 2 ^ 32 → TmrOk (tmr_prd_written t v now hz) now
  unfolding tmr_prd_written
  tmr-prd-kept h = armed_kept _ now hz (record { start = w.start; next = w.next; prd = h }) c g

-- ---- the OS tick

pub tick-quiet : (t : Tick) (now hz : ℕ) → now < t.next → tick_at t now hz ≡ t
unfolding tick_at
tick-quiet t now hz h = rw (lt-ltb now t.next h)

module _ (t : Tick) (now hz : ℕ) (w : TickOk t now) (c : now ≤ clock_max) (g : hz < 2 ^ 32) where
  pub tick-at-kept : TickOk (tick_at t now hz) now
  unfolding tick_at
  tick-at-kept =
      ⊎_elim
      (λ (l : now < t.next). rw (lt-ltb now t.next l) w)
      (λ (l : t.next ≤ now).
      rw (le-ltb now t.next l)
      (record { start = l; next = rearmed-deadline t.next now (tick_period hz) l c (omega arith) }))
      (lt-or-ge now t.next)

  pub tick-ctl-kept : (v : ℕ) → TickOk (tick_ctl_written t v now hz) now
  unfolding tick_ctl_written
  tick-ctl-kept v =
      record {
        start = started-past (is_set t.ctl 1) (is_set v 1) t.start now w.start;
        next = switched-fact (is_set t.ctl 1) (is_set v 1) t.next (now + tick_period hz) w.next (inl (omega arith));
      }

  pub tick-cnt-kept : TickOk (tick_cnt_written t now hz) now
  unfolding tick_cnt_written
  tick-cnt-kept = record { start = omega arith; next = go (eqb t.next never) }
    where
      go : (b : Bool) → Deadline (cond b t.next (now + tick_period hz))
      go true = w.next
      go false = inl (omega arith)

pub tick-prd-kept : (t : Tick) (v now : ℕ) → TickOk t now → TickOk (tick_prd_written t v) now
tick-prd-kept t v now w = record { start = w.start; next = w.next }

-- ---- TIMER4

-- a read ends no earlier than it began, at most 20 us on, and before the next event where it began before it
pub record Ends (now hz event end : ℕ) : Type 0 where
  pub forward : now ≤ end
  pub capped : end ≤ now + hz / 50_000
  pub before : now < event → end < event

pub poll-ends : (streak now hz event : ℕ) → Ends now hz event (poll_end streak now hz event)
poll-ends streak now hz event = go (ltb streak 2) (lt-or-ge (now + 1) m)
  where
    m : ℕ
    m = min event (now + hz / 50_000)

    stays : Ends now hz event now
    stays = record { forward = omega arith; capped = omega arith; before = λ h. h }

    jumps : now + 1 < m → Ends now hz event (m - 1)
    jumps l = record { forward = omega arith; capped = omega arith; before = λ h. omega arith }

    go : (b : Bool) → (now + 1 < m) ⊎ (m ≤ now + 1) → Ends now hz event (cond b now (cond (ltb (now + 1) m) (m - 1) now))
    go true d = stays
    go false (inl l) = rw (lt-ltb (now + 1) m l) (jumps l)
    go false (inr l) = rw (le-ltb (now + 1) m l) stays

pub t4-poll-kept : (t : T4) (now hz event : ℕ) → T4Ok t now → T4Ok (poll_of t now hz event).t4 (poll_of t now hz event).clock
unfolding poll_of
t4-poll-kept t now hz event w =
    let s = streak_of t.cnt_streak (now - t.last_cnt_read) in
    record { base = le_trans w.base (poll-ends s now hz event).forward; read = le_refl _ }

pub t4-con-kept : (t : T4) (v now : ℕ) → T4Ok t now → T4Ok (t4_con_written t v now) now
t4-con-kept t v now w =
    record { base = started-past (is_set t.con 1) (is_set v 1) t.base now w.base; read = w.read }

pub t4-cnt-kept : (t : T4) (now : ℕ) → T4Ok t now → T4Ok (t4_cnt_written t now) now
t4-cnt-kept t now w = record { base = omega arith; read = w.read }

-- ---- as the clock goes on

pub t4-later : (t : T4) (now later : ℕ) → now ≤ later → T4Ok t now → T4Ok t later
t4-later t now later h w = record { base = le_trans w.base h; read = le_trans w.read h }

pub tmr-later : (t : Tmr) (now later : ℕ) → now ≤ later → TmrOk t now → TmrOk t later
tmr-later t now later h w = record { start = le_trans w.start h; next = w.next; prd = w.prd }

pub tick-later : (t : Tick) (now later : ℕ) → now ≤ later → TickOk t now → TickOk t later
tick-later t now later h w = record { start = le_trans w.start h; next = w.next }

-- ---- the four timers, over the index

module _ (ts : List Tmr) (four : length ts ≡ 4) (now hz : ℕ) where
  pub tmrs-at : (i : ℕ) → i < 4 → tmr_of (tmrs_at ts now hz) i ≡ tmr_at (tmr_of ts i) now hz
  unfolding tmrs_at
  tmrs-at i h = get_or-map (λ t. tmr_at t now hz) no_tmr no_tmr ts i (omega arith)

  pub tmrs-kept : ((i : ℕ) → i < 4 → TmrOk (tmr_of ts i) now) → now ≤ clock_max → hz < 2 ^ 32
      → (i : ℕ) → i < 4 → TmrOk (tmr_of (tmrs_at ts now hz) i) now
  tmrs-kept w c g i h = rw (tmrs-at i h) (tmr-at-kept (tmr_of ts i) now hz (w i h) c g)

  -- the earliest deadline is none's later
  pub next-least : (i : ℕ) → i < 4 → tmrs_next ts ≤ (tmr_of ts i).next
  next-least zero h = omega arith
  next-least (suc zero) h = omega arith
  next-least (suc (suc zero)) h = omega arith
  next-least (suc (suc (suc zero))) h = omega arith
  next-least (suc (suc (suc (suc i)))) h = absurd (omega arith)

  pub tmrs-quiet : now < tmrs_next ts → tmrs_at ts now hz ≡ ts
  unfolding tmrs_at
  tmrs-quiet h =
      map_same (λ t. tmr_at t now hz) no_tmr ts
      (λ i g.
      let k : i < 4 = omega arith in
      tmr-quiet (tmr_of ts i) now hz (lt_of_lt_of_le h (next-least i k)))
