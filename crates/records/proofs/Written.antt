-- A record's bytes stored at a place: how long they are, and what storing them leaves.
use mathlib.Core.Path.{◌≡◌, refl}
use mathlib.Core.Bool.{Bool, false, true}
use mathlib.Core.List.{List, ◌++◌, append_assoc}
use Prim.Native.Nat.{ℕ, ◌+◌, ◌≤◌}
use borrow.Author.Tests.{le-leb, leb-true}
use lib.Dec.{leb, lit≤}
use lib.ListN.{length, take, drop, length-append}
use native.Mathlib.Omega.{arith}
use lib.Seq.{sets, sets-eq, length-sets, length-take-le, take_at, drop_at}
use Rattle.records.specs.Le.{le}
use Rattle.records.specs.Layout.{length_of, kind_of, kind_of_order, bytes_of_timed, bytes_of_order}
use Rattle.records.specs.Encoded.{answer_of, written_of}
use Rattle.std.specs.Prelude.{Some, None}
use Rattle.records.specs.Kinds.{kind_of_body, bytes_of}
use Rattle.records.specs.declared.Body.{Body}
use Rattle.records.specs.declared.Body.TheVariants.{Timed as TimedBody, Order as OrderBody}
use Rattle.records.specs.declared.Action.{Action}
use Rattle.records.specs.declared.Action.TheVariants.{Key, Enc, Adc, Midi, KeyVel, Pressure}
use Rattle.records.specs.declared.Order.{Order}
use Rattle.records.specs.declared.Order.TheVariants.{Read, Write, Step}

-- "Lengths 14, 17, 15, 13, 13, 14"
pub timed-length : (time : ℕ) (a : Action) → length (bytes_of_timed time a) ≡ length_of (kind_of a)
unfolding bytes_of_timed length_of le
timed-length time (Key id down) = refl
timed-length time (Enc enc clicks) = refl
timed-length time (Adc ch value) = refl
timed-length time (Midi b) = refl
timed-length time (KeyVel vel) = refl
timed-length time (Pressure id vel) = refl

-- the driver's own 8, 12, 12
pub order-length : (o : Order) → length (bytes_of_order o) ≡ length_of (kind_of_order o)
unfolding bytes_of_order length_of le
order-length (Read addr) = refl
order-length (Write addr value) = refl
order-length (Step cycles) = refl

pub timed-over : (a : Action) → 12 ≤ length_of (kind_of a)
unfolding length_of
timed-over (Key id down) = lit≤ tt
timed-over (Enc enc clicks) = lit≤ tt
timed-over (Adc ch value) = lit≤ tt
timed-over (Midi b) = lit≤ tt
timed-over (KeyVel vel) = lit≤ tt
timed-over (Pressure id vel) = lit≤ tt

pub order-over : (o : Order) → 4 ≤ length_of (kind_of_order o)
unfolding length_of
order-over (Read addr) = lit≤ tt
order-over (Write addr value) = lit≤ tt
order-over (Step cycles) = lit≤ tt

pub body-length : (b : Body) → length (bytes_of b) ≡ length_of (kind_of_body b)
body-length (TimedBody time action) = timed-length time action
body-length (OrderBody order) = order-length order

pub body-over : (b : Body) → 4 ≤ length_of (kind_of_body b)
body-over (TimedBody time action) = omega (arith, timed-over action)
body-over (OrderBody order) = order-over order

-- `len` is what the code has for the length of the bytes
module _ (out : List ℕ) (at len : ℕ) (bytes : List ℕ) (e : length bytes ≡ len) where
  pub no_room_lem : leb (at + len) (length out) ≡ false → (None ≡ answer_of out at bytes) × (out ≡ written_of out at bytes)
  no_room_lem f = (rw (e, f), rw (e, f))

  pub room :
      leb (at + len) (length out) ≡ true →
      (Some (at + len) ≡ answer_of out at bytes) × (sets out at bytes ≡ written_of out at bytes)
  room t =
      let h : at + length bytes ≤ length out = rw e (leb-true _ _ t) in
      (rw (e, t), rw (le-leb _ _ h) (sets-eq bytes out at h))

-- Encoding touches no byte but the record's own.
module _ (out : List ℕ) (at : ℕ) (bytes : List ℕ) where
  fitting :
      (P : List ℕ → Type 0) →
      P out →
      (at + length bytes ≤ length out → P (take at out ++ bytes ++ drop (at + length bytes) out)) →
      P (written_of out at bytes)
  fitting P as-was put = go (leb (at + length bytes) (length out)) refl
    where
      go : (b : Bool) → leb (at + length bytes) (length out) ≡ b → P (written_of out at bytes)
      go true e = rw e (put (leb-true _ _ e))
      go false e = rw e as-was

  pub written-length : length (written_of out at bytes) ≡ length out
  written-length =
      fitting (λ l. length l ≡ length out) refl (λ h. rw (← sets-eq bytes out at h) (length-sets out at bytes))

  pub written-before : take at (written_of out at bytes) ≡ take at out
  written-before =
      fitting (λ l. take at l ≡ take at out) refl
      (λ h. rw append_assoc (take_at (take at out) (bytes ++ drop (at + length bytes) out) at (length-take-le at out (omega arith))))

  pub written_after : drop (at + length bytes) (written_of out at bytes) ≡ drop (at + length bytes) out
  written_after =
      fitting (λ l. drop (at + length bytes) l ≡ drop (at + length bytes) out) refl
      (λ h.
      drop_at (take at out ++ bytes) (drop (at + length bytes) out) (at + length bytes)
      (rw (length-append, length-take-le at out (omega arith))))
