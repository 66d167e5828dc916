-- Encode, then decode, and the other way round: nothing is lost.
use mathlib.Core.Path.{◌≡◌, refl, sym, ap, ap₂, ◌∙◌}
use mathlib.Core.Bool.{true, false}
use mathlib.Core.List.{List, ◌++◌, append_assoc}
use Prim.Native.Nat.{ℕ, ◌+◌, ◌≤◌, ◌<◌, ◌^◌}
use native.Mathlib.Omega.{arith}
use borrow.Author.Tests.{ne_eqb, le-leb, lt-leb}
use lib.Dec.{lit≤}
use lib.ListN.{length, take, drop, length-append}
use lib.Seq.{drop_at, length-take-le}
use Rattle.records.specs.Le.{le, unle, number_at}
use Rattle.records.specs.Layout.{is_timed, is_order, length_of, kind_of, kind_of_order, bytes_of_timed, bytes_of_order, length_in, kind_in, time_in, action_in, order_in, whole_kind}
use Rattle.records.specs.Decoded.{timed_of, any_of, record_of, timed_at, any_at, order_at}
use Rattle.records.specs.Encoded.{written_of}
use Rattle.records.specs.Values.{FitsAction, FitsOrder}
use Rattle.records.specs.declared.Action.{Action}
use Rattle.records.specs.declared.Action.TheVariants.{Key, Enc, Adc, Midi, KeyVel, Pressure}
use Rattle.records.specs.declared.Order.{Order}
use Rattle.records.specs.declared.Order.TheVariants.{Read, Write, Step}
use Rattle.records.proofs.Numbers.{unle-le}
use Rattle.records.proofs.Kept.{Kept, keeps}
use Rattle.records.proofs.Inverse.{timed-range}
use Rattle.records.proofs.Written.{timed-length, order-length, timed-over, order-over}

-- ---- what the encoded bytes say, read

module _ (time : ℕ) (rest : List ℕ) where
  timed-read :
      (a : Action) →
      (length_in (bytes_of_timed time a ++ rest) ≡ length_of (kind_of a)) × (kind_in (bytes_of_timed time a ++ rest) ≡ kind_of a)
  unfolding bytes_of_timed length_of le unle
  timed-read (Key id down) = (refl, refl)
  timed-read (Enc enc clicks) = (refl, refl)
  timed-read (Adc ch value) = (refl, refl)
  timed-read (Midi b) = (refl, refl)
  timed-read (KeyVel vel) = (refl, refl)
  timed-read (Pressure id vel) = (refl, refl)

  time-read : (a : Action) → time < 2 ^ 64 → time_in (bytes_of_timed time a ++ rest) ≡ time
  unfolding bytes_of_timed le
  time-read a h = unle-le 8 time h

  action-read : (a : Action) → FitsAction a → action_in (kind_of a) (bytes_of_timed time a ++ rest) ≡ a
  unfolding bytes_of_timed action_in le unle
  action-read (Key id true) h = ap (λ (n : ℕ). Key n true) (unle-le 1 id h)
  action-read (Key id false) h = ap (λ (n : ℕ). Key n false) (unle-le 1 id h)
  action-read (Enc enc clicks) h = ap₂ Enc (unle-le 1 enc h.0) (unle-le 4 clicks h.1)
  action-read (Adc ch value) h = ap₂ Adc (unle-le 1 ch h.0) (unle-le 2 value h.1)
  action-read (Midi b) h = ap Midi (unle-le 1 b h)
  action-read (KeyVel vel) h = ap KeyVel (unle-le 1 vel h)
  action-read (Pressure id vel) h = ap₂ Pressure (unle-le 1 id h.0) (unle-le 1 vel h.1)

  down-read : (a : Action) → kind_of a ≡ 1 → number_at 13 1 (bytes_of_timed time a ++ rest) ≤ 1
  unfolding bytes_of_timed le unle
  down-read (Key id true) e = lit≤ tt
  down-read (Key id false) e = lit≤ tt
  down-read (Enc enc clicks) e = absurd (omega arith)
  down-read (Adc ch value) e = absurd (omega arith)
  down-read (Midi b) e = absurd (omega arith)
  down-read (KeyVel vel) e = absurd (omega arith)
  down-read (Pressure id vel) e = absurd (omega arith)

module _ (rest : List ℕ) where
  order-head :
      (o : Order) →
      (length_in (bytes_of_order o ++ rest) ≡ length_of (kind_of_order o)) × (kind_in (bytes_of_order o ++ rest) ≡ kind_of_order o)
  unfolding bytes_of_order length_of le unle
  order-head (Read addr) = (refl, refl)
  order-head (Write addr value) = (refl, refl)
  order-head (Step cycles) = (refl, refl)

  order-read : (o : Order) → FitsOrder o → order_in (kind_of_order o) (bytes_of_order o ++ rest) ≡ o
  unfolding bytes_of_order order_in le
  order-read (Read addr) h = ap Read (unle-le 4 addr h)
  order-read (Write addr value) h = ap₂ Write (unle-le 4 addr h.0) (unle-le 4 value h.1)
  order-read (Step cycles) h = ap Step (unle-le 8 cycles h)

kind-timed : (a : Action) → is_timed (kind_of a) ≡ true
kind-timed (Key id down) = refl
kind-timed (Enc enc clicks) = refl
kind-timed (Adc ch value) = refl
kind-timed (Midi b) = refl
kind-timed (KeyVel vel) = refl
kind-timed (Pressure id vel) = refl

kind-order : (o : Order) → (is_order (kind_of_order o) ≡ true) × (kind_of_order o ≡ 1 → ⊥)
kind-order (Read addr) = (refl, λ e. omega arith)
kind-order (Write addr value) = (refl, λ e. omega arith)
kind-order (Step cycles) = (refl, λ e. omega arith)

bytes-kept :
    (s : List ℕ) (kind : ℕ) →
    length_in s ≡ length_of kind →
    kind_in s ≡ kind →
    4 ≤ length_of kind →
    length_of kind ≤ length s →
    (kind ≡ 1 → number_at 13 1 s ≤ 1) →
    Kept s
bytes-kept s kind l k four long down =
    record {
      four = omega arith;
      known = λ z. let q : length_of kind ≡ 0 = rw k at z in omega arith;
      exact = l ∙ sym (ap length_of k);
      long = rw l long;
      down = λ z. down (sym k ∙ z);
    }

-- ---- bytes that keep the layout are decoded

pub timed-decodes :
    (s : List ℕ) (at : ℕ) →
    Kept s →
    is_timed (kind_in s) ≡ true →
    timed_of s at ≡ timed_at (time_in s) (action_in (kind_in s) s) (at + length_of (kind_in s))
unfolding timed_of whole_kind
timed-decodes s at k t =
    let some : length s ≡ 0 → ⊥ = λ z. let four = k.four in omega arith in
    rw (ne_eqb (length s) 0 some, keeps s k, t)

pub order-decodes :
    (s : List ℕ) (at : ℕ) →
    Kept s →
    is_order (kind_in s) ≡ true →
    record_of s at ≡ order_at (order_in (kind_in s) s) (at + length_of (kind_in s))
unfolding record_of whole_kind
order-decodes s at k o = rw (keeps s k, o)

-- kinds 1 to 6 are the same to the driver
pub any-decodes : (s : List ℕ) (at : ℕ) → Kept s → is_timed (kind_in s) ≡ true → record_of s at ≡ any_of (timed_of s at)
unfolding record_of whole_kind
any-decodes s at k t =
    let most : kind_in s < 0x101 = let m = (timed-range (kind_in s) t).1 in omega arith in
    rw (keeps s k, lt-leb 0x101 (kind_in s) most)

-- ---- encode, then decode

module _ (time : ℕ) (a : Action) (rest : List ℕ) where
  encoded-kept : Kept (bytes_of_timed time a ++ rest)
  encoded-kept =
      let (l, k) = timed-read time rest a in
      let over = timed-over a in
      bytes-kept (bytes_of_timed time a ++ rest) (kind_of a) l k (omega arith)
      (simp (length-append, timed-length) (omega arith))
      (down-read time rest a)

  encoded-timed : is_timed (kind_in (bytes_of_timed time a ++ rest)) ≡ true
  encoded-timed = rw (timed-read time rest a).1 (kind-timed a)

  -- The record that an encoded action decodes to is that action with its time, as long as its bytes.
  pub decode-encoded :
      (at : ℕ) →
      time < 2 ^ 64 →
      FitsAction a →
      timed_of (bytes_of_timed time a ++ rest) at ≡ timed_at time a (at + length (bytes_of_timed time a))
  decode-encoded at h f =
      timed-decodes (bytes_of_timed time a ++ rest) at encoded-kept encoded-timed
      ∙ rw ((timed-read time rest a).1, time-read time rest a h, action-read time rest a f, timed-length time a)

  -- The driver finds the same.
  pub decode-encoded-any :
      (at : ℕ) →
      time < 2 ^ 64 →
      FitsAction a →
      record_of (bytes_of_timed time a ++ rest) at ≡ any_at time a (at + length (bytes_of_timed time a))
  decode-encoded-any at h f =
      any-decodes (bytes_of_timed time a ++ rest) at encoded-kept encoded-timed ∙ ap any_of (decode-encoded at h f)

-- An encoded order decodes to that order.
pub decode-encoded-order :
    (o : Order) (rest : List ℕ) (at : ℕ) →
    FitsOrder o →
    record_of (bytes_of_order o ++ rest) at ≡ order_at o (at + length (bytes_of_order o))
decode-encoded-order o rest at f =
    let (l, k) = order-head rest o in
    let over = order-over o in
    let (t, other) = kind-order o in
    let kept : Kept (bytes_of_order o ++ rest) =
    bytes-kept (bytes_of_order o ++ rest) (kind_of_order o) l k over
    (simp (length-append, order-length) (omega arith))
    (λ e. absurd (other e)) in
    order-decodes (bytes_of_order o ++ rest) at kept (rw k t) ∙ rw (k, order-read rest o f, order-length o)

-- ---- what was encoded at an offset is decoded there

there :
    (out bytes : List ℕ) (at : ℕ) →
    at + length bytes ≤ length out →
    (rest : List ℕ) × (drop at (written_of out at bytes) ≡ bytes ++ rest)
there out bytes at h =
    let front : length (take at out) ≡ at = length-take-le at out (omega arith) in
    let rest = drop (at + length bytes) out in
    (rest, rw (le-leb _ _ h, append_assoc) (drop_at (take at out) (bytes ++ rest) at front))

pub decode-written :
    (out : List ℕ) (at time : ℕ) (a : Action) →
    at + length (bytes_of_timed time a) ≤ length out →
    time < 2 ^ 64 →
    FitsAction a →
    timed_of (drop at (written_of out at (bytes_of_timed time a))) at ≡ timed_at time a (at + length (bytes_of_timed time a))
decode-written out at time a h t f =
    let (rest, e) = there out (bytes_of_timed time a) at h in
    rw e (decode-encoded time a rest at t f)

pub decode-written-order :
    (out : List ℕ) (at : ℕ) (o : Order) →
    at + length (bytes_of_order o) ≤ length out →
    FitsOrder o →
    record_of (drop at (written_of out at (bytes_of_order o))) at ≡ order_at o (at + length (bytes_of_order o))
decode-written-order out at o h f =
    let (rest, e) = there out (bytes_of_order o) at h in
    rw e (decode-encoded-order o rest at f)
