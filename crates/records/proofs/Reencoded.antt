-- Decode, then encode: the bytes come back.
use mathlib.Core.Path.{◌≡◌, refl, sym}
use mathlib.Core.List.{List}
use Prim.Native.Nat.{ℕ, zero, suc, ◌+◌, ◌-◌, ◌≤◌}
use native.Mathlib.Omega.{arith}
use lib.Dec.{eqb}
use lib.ListN.{length, take}
use Rattle.records.specs.Le.{number_at}
use Rattle.records.specs.Layout.{length_of, kind_of, kind_of_order, flag_of, body_of, body_of_order, head_of, bytes_of_timed, bytes_of_order, kind_in, action_in, order_in}
use Rattle.records.specs.Decoded.{timed_of, record_of, timed_at, any_at, order_at}
use Rattle.records.specs.Values.{AreBytes}
use Rattle.records.specs.declared.Action.{Action}
use Rattle.records.specs.declared.Order.{Order}
use Rattle.records.proofs.Numbers.{le-number, part, part_join}
use Rattle.records.proofs.NineKinds.{Known, known, is_key, is-enc, is-adc, is-midi, is-key-vel, is-pressure, is_read_lem, is-write, is-step, timed-least, known-least}
use Rattle.records.proofs.Kept.{Kept}
use Rattle.records.proofs.Inverse.{timed-found, any_found, order-found, timed-range, order-range}

flag-back : (d : ℕ) → d ≤ 1 → flag_of (eqb d 1) ≡ d
flag-back zero h = refl
flag-back (suc zero) h = refl
flag-back (suc (suc d)) h = absurd (omega arith)

module _ (s : List ℕ) (b : AreBytes s) where
  head-part : Kept s → head_of (kind_in s) ≡ part 0 4 s
  head-part k =
      let four = k.four in
      rw (← k.exact, le-number s b 0 2 (omega arith), le-number s b 2 2 (omega arith)) (part_join 0 2 2 s)

  body-part :
      {k : ℕ} →
      Known k →
      1 ≤ k →
      k ≤ 6 →
      length_of k ≤ length s →
      (k ≡ 1 → number_at 13 1 s ≤ 1) →
      (kind_of (action_in k s) ≡ k) × (body_of (action_in k s) ≡ part 12 (length_of k - 12) s)
  unfolding action_in length_of
  body-part is_key h m l down = (
    refl,
    rw (flag-back (number_at 13 1 s) (down refl), le-number s b 12 1 (omega arith), le-number s b 13 1 (omega arith))
        (part_join 12 1 1 s),
  )
  body-part is-enc h m l down =
      (refl, rw (le-number s b 12 1 (omega arith), le-number s b 13 4 (omega arith)) (part_join 12 1 4 s))
  body-part is-adc h m l down =
      (refl, rw (le-number s b 12 1 (omega arith), le-number s b 13 2 (omega arith)) (part_join 12 1 2 s))
  body-part is-midi h m l down = (refl, le-number s b 12 1 (omega arith))
  body-part is-key-vel h m l down = (refl, le-number s b 12 1 (omega arith))
  body-part is-pressure h m l down =
      (refl, rw (le-number s b 12 1 (omega arith), le-number s b 13 1 (omega arith)) (part_join 12 1 1 s))
  body-part is_read_lem h m l down = absurd (omega arith)
  body-part is-write h m l down = absurd (omega arith)
  body-part is-step h m l down = absurd (omega arith)

  order-part :
      {k : ℕ} →
      Known k →
      0x101 ≤ k →
      length_of k ≤ length s →
      (kind_of_order (order_in k s) ≡ k) × (body_of_order (order_in k s) ≡ part 4 (length_of k - 4) s)
  unfolding order_in length_of
  order-part is_key h l = absurd (omega arith)
  order-part is-enc h l = absurd (omega arith)
  order-part is-adc h l = absurd (omega arith)
  order-part is-midi h l = absurd (omega arith)
  order-part is-key-vel h l = absurd (omega arith)
  order-part is-pressure h l = absurd (omega arith)
  order-part is_read_lem h l = (refl, le-number s b 4 4 (omega arith))
  order-part is-write h l =
      (refl, rw (le-number s b 4 4 (omega arith), le-number s b 8 4 (omega arith)) (part_join 4 4 4 s))
  order-part is-step h l = (refl, le-number s b 4 8 (omega arith))

  -- What decodes is what the layout says: its n bytes are those that encoding its time and action gives.
  pub encode-decoded :
      (at time n : ℕ) (a : Action) →
      timed_of s at ≡ timed_at time a (at + n) →
      take n s ≡ bytes_of_timed time a
  unfolding bytes_of_timed
  encode-decoded at time n a e =
      let f = timed-found s at e in
      let k = f.kept in
      let (least, most) = timed-range (kind_in s) f.timed in
      let thirteen = timed-least (kind_in s) least most in
      let long : length_of (kind_in s) ≤ length s = rw k.exact at k.long in
      let (kind, body) = body-part (known (kind_in s) k.known) least most long k.down in
      let size : n ≡ 4 + (8 + (length_of (kind_in s) - 12)) = let next = f.next-is in omega arith in
      rw (f.time-is, f.action-is, kind, body, head-part k, le-number s b 4 8 (omega arith), size)
      (rw (part_join 4 8 (length_of (kind_in s) - 12) s) (sym (part_join 0 4 (8 + (length_of (kind_in s) - 12)) s)))

  pub encode-decoded-any :
      (at time n : ℕ) (a : Action) →
      record_of s at ≡ any_at time a (at + n) →
      take n s ≡ bytes_of_timed time a
  encode-decoded-any at time n a e = encode-decoded at time n a (any_found s at (timed_at time a (at + n)) e)

  pub encode-decoded-order : (at n : ℕ) (o : Order) → record_of s at ≡ order_at o (at + n) → take n s ≡ bytes_of_order o
  unfolding bytes_of_order
  encode-decoded-order at n o e =
      let f = order-found s at e in
      let k = f.kept in
      let (least, most) = order-range (kind_in s) f.ordered in
      let eight = known-least (known (kind_in s) k.known) in
      let long : length_of (kind_in s) ≤ length s = rw k.exact at k.long in
      let (kind, body) = order-part (known (kind_in s) k.known) least long in
      let size : n ≡ 4 + (length_of (kind_in s) - 4) = let next = f.next-is in omega arith in
      rw (f.order_is, kind, body, head-part k, size) (sym (part_join 0 4 (length_of (kind_in s) - 4) s))
