-- When bytes leave: none before its due time, one a step, the next a byte time from now; and a byte that is received puts off the timeout.
use Rattle.std.proofs.Common.{◌≡◌, ℕ, ◌+◌, ◌-◌, ◌^◌, ◌<◌, ◌≤◌, Bool, true, false, cond, eqb, List, refl, arith, ne_eqb}
use Rattle.base.specs.Moments.{never, clock_max}
use Rattle.times.specs.Clocks.{byte_time}
use Rattle.uart.specs.declared.Uart.{Uart}
use Rattle.std.specs.Prelude.{Some}
use Rattle.uart.specs.Facts.{UartOk}
use Rattle.uart.proofs.Queue.{offer-room}
use Rattle.uart.specs.Uart.{queue_bytes, queued, offer_of, front_gone, stored, updated, front_due, shorter, timeout_of, receive_at, timeout_at}
use Rattle.uart.proofs.Outcomes.{nothing, taken, missed, receive-quiet, receive-empty, receive-outcome, timeout-quiet}

-- a deadline of the queue that was just set lies ahead
front-later : (u : Uart) (now hz : ℕ) → now ≤ clock_max → now < front_due u now hz
front-later u now hz c = go (eqb u.count 0)
  where
    go : (t : Bool) → now < cond t never (now + byte_time hz)
    go true = omega arith
    go false = omega arith

module _ (u : Uart) (memory : List ℕ) (now hz : ℕ) where
  -- a byte that leaves was due
  pub not-early : (addr b : ℕ) → (receive_at u memory now hz).byte ≡ Some (record { addr = addr; b = b }) → u.next ≤ now
  not-early addr b =
      receive-outcome u memory now hz
      (λ r. r.byte ≡ Some (record { addr = addr; b = b }) → u.next ≤ now)
      (λ h e. absurd (let z : ◌≡◌ {A = ℕ} 0 1 = cc in omega arith))
      (λ h g e. h)
      (λ h g r e. h)
      (λ h g r e. h)

  -- the next one comes a byte time from now, however late this one was
  pub next-from-now : u.next ≤ now → 1 < u.count → (receive_at u memory now hz).uart.next ≡ now + byte_time hz
  unfolding front_gone stored updated
  next-from-now d g =
      let n : u.count - 1 ≡ 0 → ⊥ = λ e. omega arith in
      receive-outcome u memory now hz
      (λ r. r.uart.next ≡ now + byte_time hz)
      (λ h. absurd (omega arith))
      (λ h e. absurd (omega arith))
      (λ h k r. rw (ne_eqb (u.count - 1) 0 n))
      (λ h k r. rw (ne_eqb (u.count - 1) 0 n))

  -- after the last there is none to wait for
  pub none-after-last : u.next ≤ now → u.count ≡ 1 → (receive_at u memory now hz).uart.next ≡ never
  unfolding front_gone stored updated
  none-after-last d g =
      receive-outcome u memory now hz
      (λ r. r.uart.next ≡ never)
      (λ h. absurd (omega arith))
      (λ h e. absurd (omega arith))
      (λ h k r. rw g)
      (λ h k r. rw g)

  -- one a step: at the same moment no other leaves
  pub one-a-step : now ≤ clock_max
      → receive_at (receive_at u memory now hz).uart memory now hz ≡ nothing (receive_at u memory now hz).uart
  unfolding front_gone stored updated
  one-a-step c =
      receive-outcome u memory now hz
      (λ r. receive_at r.uart memory now hz ≡ nothing r.uart)
      (λ h. receive-quiet u memory now hz h)
      (λ h e. receive-empty u memory now hz h e)
      (λ h g r. receive-quiet (taken u memory now hz).uart memory now hz (front-later (shorter u) now hz c))
      (λ h g r. receive-quiet (missed u now hz).uart memory now hz (front-later (shorter u) now hz c))

  -- a byte that is received rearms the timeout from now
  pub rearms : (addr b : ℕ) → (receive_at u memory now hz).byte ≡ Some (record { addr = addr; b = b })
      → (receive_at u memory now hz).uart.ot_next ≡ now + timeout_of u hz
  unfolding front_gone stored updated
  rearms addr b =
      receive-outcome u memory now hz
      (λ r. r.byte ≡ Some (record { addr = addr; b = b }) → r.uart.ot_next ≡ now + timeout_of u hz)
      (λ h e. absurd (let z : ◌≡◌ {A = ℕ} 0 1 = cc in omega arith))
      (λ h g e. absurd (let z : ◌≡◌ {A = ℕ} 0 1 = cc in omega arith))
      (λ h g r e. refl)
      (λ h g r e. absurd (let z : ◌≡◌ {A = ℕ} 0 1 = cc in omega arith))

  -- so the timeout does not come at the moment of a byte, nor within a byte time of it
  pub no-timeout : (addr b later : ℕ) → (receive_at u memory now hz).byte ≡ Some (record { addr = addr; b = b }) → later < now + byte_time hz
      → timeout_at (receive_at u memory now hz).uart later ≡ (receive_at u memory now hz).uart
  no-timeout addr b later e h =
      timeout-quiet (receive_at u memory now hz).uart later (rw (rearms addr b e) (omega arith))

-- ---- a byte offered

module _ (u : Uart) (now hz : ℕ) (h : u.count < queue_bytes) where
  -- into an empty queue: it arrives a byte time from now
  pub offer-sets-due : UartOk u → now ≤ clock_max → hz < 2 ^ 32 → u.count ≡ 0 → (offer_of u now hz).next ≡ now + byte_time hz
  unfolding queued
  offer-sets-due w c g e =
      let n : u.next ≡ never = w.idle e in
      rw (offer-room u now hz h, e, n) (omega arith)

  -- behind others: their times stay
  pub offer-keeps-due : 0 < u.count → (offer_of u now hz).next ≡ u.next
  unfolding queued
  offer-keeps-due g =
      let n : u.count ≡ 0 → ⊥ = λ e. omega arith in
      rw (offer-room u now hz h, ne_eqb u.count 0 n)
