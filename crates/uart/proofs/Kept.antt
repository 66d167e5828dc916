-- Moments, bytes and writes keep UART1's part of a whole record, the test of which is the facts.
use Rattle.std.proofs.Common.{◌≡◌, ℕ, ◌+◌, ◌*◌, ◌^◌, ◌<◌, ◌≤◌, min, Bool, true, false, cond, not, ◌&&◌, ◌||◌, eqb, ltb, leb, List, [], ◌∷◌, refl, inl, inr, ⊎_elim, lt_of_lt_of_le, mod-lt, arith, ltb-true, lt-ltb, eq-eqb, ne_eqb, eqb-true, le-leb, leb-true}
use lib.Bits.{and_le_r}
use borrow.Author.Tests.{eqb-false}
use Rattle.base.specs.Moments.{never, clock_max, Deadline, is_deadline}
use Rattle.base.proofs.Cases.{lt-or-ge}
use Rattle.base.proofs.Deadlines.{deadline-fact, deadline-test}
use Rattle.base.proofs.Flags.{and_left, and_right}
use Rattle.times.specs.Clocks.{byte_time, cycles_of_uart}
use Rattle.times.proofs.Quotients.{slower}
use Rattle.uart.specs.declared.Uart.{Uart}
use Rattle.uart.specs.Uart.{queue_bytes, uart_new, front_due, due_at, lost, longer, shorter, with_queue, queued, offer_of, front_gone, receives, timeout_of, updated, stored, receive_at, silent, timed_out, timeout_at, con0_written, rxsadr_written, rxeadr_written, rxcnt_written, otcnt_written, txcnt_written, chip_reset_of, idle_if_empty, uart_whole}
use Rattle.uart.specs.Facts.{UartOk}
use Rattle.uart.proofs.Outcomes.{receive-outcome, timeout-outcome}
use Rattle.uart.proofs.Queue.{offer-room, offer-full}
use Rattle.uart.proofs.Receiver.{ring-least, ring-most}

-- ---- the test and the facts

idle-fact : (u : Uart) → idle_if_empty u ≡ true → (u.count ≡ 0 → u.next ≡ never) × (u.next ≡ never → u.count ≡ 0)
idle-fact u t = go (eqb u.count 0) (eqb u.next never) refl refl t
  where
    go : (a b : Bool) → eqb u.count 0 ≡ a → eqb u.next never ≡ b → ((a && b) || (not a && not b)) ≡ true
        → (u.count ≡ 0 → u.next ≡ never) × (u.next ≡ never → u.count ≡ 0)
    go true true p q e = ((λ h. eqb-true u.next never q), (λ h. eqb-true u.count 0 p))
    go true false p q e = absurd (let z : ◌≡◌ {A = ℕ} 0 1 = cc in omega arith)
    go false true p q e = absurd (let z : ◌≡◌ {A = ℕ} 0 1 = cc in omega arith)
    go false false p q e = ((λ h. absurd (eqb-false u.count 0 p h)), (λ h. absurd (eqb-false u.next never q h)))

all-seven : (a b c d e f g : Bool) → (a && b && c && d && e && f && g) ≡ true
    → (a ≡ true) × (b ≡ true) × (c ≡ true) × (d ≡ true) × (e ≡ true) × (f ≡ true) × (g ≡ true)
all-seven a b c d e f g t =
    let t6 = and_left (a && b && c && d && e && f) g t in
    let t5 = and_left (a && b && c && d && e) f t6 in
    let t4 = and_left (a && b && c && d) e t5 in
    let t3 = and_left (a && b && c) d t4 in
    let t2 = and_left (a && b) c t3 in (
      and_left a b t2,
      and_right a b t2,
      and_right (a && b) c t3,
      and_right (a && b && c) d t4,
      and_right (a && b && c && d) e t5,
      and_right (a && b && c && d && e) f t6,
      and_right (a && b && c && d && e && f) g t,
    )

module _ (u : Uart) where
  pub whole-facts : uart_whole u ≡ true → u.otcnt < 2 ^ 32 → UartOk u
  unfolding uart_whole
  whole-facts t o =
      let h =
      all-seven (is_deadline u.next) (is_deadline u.ot_next) (idle_if_empty u) (ltb u.place queue_bytes)
      (leb u.count queue_bytes) (ltb u.wr 65536) (leb u.rxcnt 65535) t in
      record {
        next = deadline-fact u.next h.0;
        timeout = deadline-fact u.ot_next h.1;
        idle = (idle-fact u h.2).0;
        empty = (idle-fact u h.2).1;
        place = ltb-true u.place queue_bytes h.3;
        count = leb-true u.count queue_bytes h.4;
        wr = ltb-true u.wr 65536 h.5;
        rxcnt = leb-true u.rxcnt 65535 h.6;
        otcnt = o;
      }

  pub facts-whole : UartOk u → uart_whole u ≡ true
  unfolding uart_whole
  facts-whole w =
      rw (
        deadline-test u.next w.next,
        deadline-test u.ot_next w.timeout,
        idle (eqb u.count 0) (eqb u.next never) refl refl,
        lt-ltb u.place queue_bytes w.place,
        le-leb u.count queue_bytes w.count,
        lt-ltb u.wr 65536 w.wr,
        le-leb u.rxcnt 65535 w.rxcnt,
      )
    where
      idle : (a b : Bool) → eqb u.count 0 ≡ a → eqb u.next never ≡ b → idle_if_empty u ≡ true
      idle true true p q = rw (p, q)
      idle true false p q = absurd (eqb-false u.next never q (w.idle (eqb-true u.count 0 p)))
      idle false true p q = absurd (eqb-false u.count 0 p (w.empty (eqb-true u.next never q)))
      idle false false p q = rw (p, q)

-- ---- what leaves the queue alone

abbrev queue_part : Uart → List ℕ
queue_part u = u.next ∷ u.place ∷ u.count ∷ []

same_queue : (u v : Uart) → queue_part v ≡ queue_part u → UartOk u
    → Deadline v.ot_next → v.wr < 65536 → v.rxcnt ≤ 65535 → v.otcnt < 2 ^ 32 → UartOk v
same_queue u v e w t h x o =
    let a : v.next ≡ u.next = cc in
    let b : v.place ≡ u.place = cc in
    let c : v.count ≡ u.count = cc in
    record {
      next = rw a w.next;
      timeout = t;
      idle = rw (a, c) w.idle;
      empty = rw (a, c) w.empty;
      place = rw b w.place;
      count = rw c w.count;
      wr = h;
      rxcnt = x;
      otcnt = o;
    }

module _ (u : Uart) (w : UartOk u) where
  updated-kept : UartOk (updated u)
  unfolding updated
  updated-kept = same_queue u (updated u) refl w w.timeout w.wr w.rxcnt w.otcnt

  lost-kept : UartOk (lost u)
  lost-kept = same_queue u (lost u) refl w w.timeout w.wr w.rxcnt w.otcnt

  pub con0-kept : (v : ℕ) → UartOk (con0_written u v)
  unfolding con0_written updated
  con0-kept v = same_queue u (con0_written u v) refl w w.timeout w.wr w.rxcnt w.otcnt

  pub rxsadr-kept : (v : ℕ) → UartOk (rxsadr_written u v)
  rxsadr-kept v = same_queue u (rxsadr_written u v) refl w w.timeout (omega arith) w.rxcnt w.otcnt

  pub rxeadr-kept : (v : ℕ) → UartOk (rxeadr_written u v)
  rxeadr-kept v = same_queue u (rxeadr_written u v) refl w w.timeout w.wr w.rxcnt w.otcnt

  pub rxcnt-kept : (v : ℕ) → UartOk (rxcnt_written u v)
  rxcnt-kept v = same_queue u (rxcnt_written u v) refl w w.timeout w.wr (and_le_r v 0xffff) w.otcnt

  pub otcnt-kept : (v : ℕ) → v < 2 ^ 32 → UartOk (otcnt_written u v)
  otcnt-kept v h = same_queue u (otcnt_written u v) refl w w.timeout w.wr w.rxcnt h

  pub txcnt-kept : UartOk (txcnt_written u)
  unfolding txcnt_written updated
  txcnt-kept = same_queue u (txcnt_written u) refl w w.timeout w.wr w.rxcnt w.otcnt

  pub reset-kept : UartOk (chip_reset_of u)
  reset-kept = same_queue u (chip_reset_of u) refl w (inr refl) (omega arith) (omega arith) (omega arith)

  silent-kept : UartOk (silent u)
  silent-kept = same_queue u (silent u) refl w (inr refl) w.wr w.rxcnt w.otcnt

  timed-out-kept : UartOk (timed_out u)
  unfolding timed_out updated
  timed-out-kept = same_queue u (timed_out u) refl w (inr refl) w.wr w.rxcnt w.otcnt

  pub timeout-kept : (now : ℕ) → UartOk (timeout_at u now)
  timeout-kept now = timeout-outcome u now UartOk (λ h. w) (λ h. silent-kept) (λ h. timed-out-kept)

pub new-kept : UartOk uart_new
new-kept =
    record {
      next = inr refl;
      timeout = inr refl;
      idle = λ e. refl;
      empty = λ e. refl;
      place = omega arith;
      count = omega arith;
      wr = omega arith;
      rxcnt = omega arith;
      otcnt = omega arith;
    }

-- ---- the queue

-- a deadline that is set with the queue is one, and never exactly where none waits
module _ (u : Uart) (now hz : ℕ) (c : now ≤ clock_max) (g : hz < 2 ^ 32) where
  due-deadline : Deadline (front_due u now hz)
  due-deadline = go (eqb u.count 0)
    where
      go : (t : Bool) → Deadline (cond t never (now + byte_time hz))
      go true = inr refl
      go false = inl (omega arith)

  due-idle : u.count ≡ 0 → front_due u now hz ≡ never
  due-idle e = rw (eq-eqb u.count 0 e)

  due-empty : front_due u now hz ≡ never → u.count ≡ 0
  due-empty = go (eqb u.count 0) refl
    where
      go : (t : Bool) → eqb u.count 0 ≡ t → cond t never (now + byte_time hz) ≡ never → u.count ≡ 0
      go true p e = eqb-true u.count 0 p
      go false p e = absurd (omega arith)

module _ (u : Uart) (now hz : ℕ) (w : UartOk u) (c : now ≤ clock_max) (g : hz < 2 ^ 32) where
  -- only the queue changes
  requeued : (next dropped place count : ℕ) → Deadline next → (count ≡ 0 → next ≡ never) → (next ≡ never → count ≡ 0)
      → place < queue_bytes → count ≤ queue_bytes → UartOk (with_queue u next dropped place count)
  requeued next dropped place count d i e p n =
      record {
        next = d;
        timeout = w.timeout;
        idle = i;
        empty = e;
        place = p;
        count = n;
        wr = w.wr;
        rxcnt = w.rxcnt;
        otcnt = w.otcnt;
      }

  gone-kept : 0 < u.count → UartOk (front_gone u now hz)
  unfolding front_gone
  gone-kept h =
      requeued _ _ _ _ (due-deadline (shorter u) now hz c g) (due-idle (shorter u) now hz c g) (due-empty (shorter u) now hz c g)
      (mod-lt (u.place + 1) (omega arith)) (omega (arith, w.count))

  queued-kept : u.count < queue_bytes → UartOk (queued u now hz)
  unfolding queued
  queued-kept h = go (eqb u.count 0) refl
    where
      soon : front_due (longer u) now hz ≡ now + byte_time hz
      soon = let n : u.count + 1 ≡ 0 → ⊥ = λ e. omega arith in rw (ne_eqb (u.count + 1) 0 n)

      go : (t : Bool) → eqb u.count 0 ≡ t → UartOk (due_at (longer u) (cond t (min u.next (front_due (longer u) now hz)) u.next))
      go true p =
          let n : u.next ≡ never = w.idle (eqb-true u.count 0 p) in
          rw (soon, n)
          (requeued (min never (now + byte_time hz)) _ _ _ (inl (omega arith)) (λ e. absurd (omega arith)) (λ e. absurd (omega arith)) w.place (omega arith))
      go false p =
          requeued _ _ _ _ w.next (λ e. absurd (omega arith)) (λ e. absurd (eqb-false u.count 0 p (w.empty e))) w.place (omega arith)

  pub offer-kept : UartOk (offer_of u now hz)
  offer-kept =
      ⊎_elim
      (λ (h : u.count < queue_bytes). rw (offer-room u now hz h) (queued-kept h))
      (λ (h : queue_bytes ≤ u.count). rw (offer-full u now hz h) (lost-kept u w))
      (lt-or-ge u.count queue_bytes)

  -- ---- moments

  timeout-most : timeout_of u hz ≤ 2 ^ 39
  timeout-most =
      let k : cycles_of_uart u.otcnt hz ≤ u.otcnt * 90 = slower u.otcnt hz 90 48_000_000 (omega arith) (omega arith) in
      omega (arith, w.otcnt)

  stored-kept : receives u ≡ true → UartOk (stored u now hz)
  unfolding stored updated
  stored-kept r =
      same_queue u (stored u now hz) refl w (inl (omega (arith, timeout-most)))
      (lt_of_lt_of_le (mod-lt (u.wr + 1) (ring-least u r)) (ring-most u r)) w.rxcnt w.otcnt

-- a byte that leaves the queue leaves the receiver
still-receives : (u : Uart) (now hz : ℕ) → receives u ≡ true → receives (front_gone u now hz) ≡ true
unfolding front_gone
still-receives u now hz r = r

module _ (u : Uart) (memory : List ℕ) (now hz : ℕ) (w : UartOk u) (c : now ≤ clock_max) (g : hz < 2 ^ 32) where
  pub receive-kept : UartOk (receive_at u memory now hz).uart
  receive-kept =
      receive-outcome u memory now hz (λ r. UartOk r.uart)
      (λ h. w)
      (λ h e. w)
      (λ h k r. stored-kept (front_gone u now hz) now hz (gone-kept u now hz w c g k) c g (still-receives u now hz r))
      (λ h k r. lost-kept (front_gone u now hz) (gone-kept u now hz w c g k))
