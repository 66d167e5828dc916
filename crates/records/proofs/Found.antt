-- What decoding answers, by the kind that the bytes begin with; and what it answers where only actions are looked for, by what the driver finds.
use mathlib.Core.Path.{◌≡◌, refl, sym, ap, ◌∙◌}
use mathlib.Core.Bool.{Bool, true, false, cond}
use mathlib.Core.List.{List}
use Prim.Native.Nat.{ℕ, ◌+◌, ◌≤◌, ◌<◌}
use native.Mathlib.Omega.{arith}
use borrow.Author.Tests.{ne_eqb, le-leb, lt-leb}
use lib.ListN.{length}
use Rattle.std.specs.Prelude.{Some, None, Ok, Err}
use Rattle.records.specs.Layout.{is_order, length_of, order_in, whole_kind}
use Rattle.records.specs.Kinds.{number_of, body_in}
use Rattle.records.specs.Decoded.{TimedAt, RecordAt, timed_by, timed_of, any_of, record_of, timed_at, record_at, order_at, broken_at}
use Rattle.records.specs.declared.Body.{Body}
use Rattle.records.specs.declared.Body.TheVariants.{Timed as TimedBody, Order as OrderBody}
use Rattle.records.specs.declared.Kind.{Kind}
use Rattle.records.specs.declared.Kind.TheVariants.{Key, Enc, Adc, Midi, KeyVel, Pressure, Read, Write, Step}
use Rattle.records.proofs.NineKinds.{kind-least}
use Rattle.records.proofs.Inverse.{order-range, kind-kept}

module _ (s : List ℕ) (at : ℕ) where
  pub none_found : 0 < length s → whole_kind s ≡ 0 → record_of s at ≡ broken_at at
  unfolding record_of timed_of
  none_found h z = rw (z, ne_eqb (length s) 0 (λ e. omega arith))

  by_kind :
      (kind : Kind) →
      cond (is_order (number_of kind))
      (order_at (order_in (number_of kind) s) (at + length_of (number_of kind)))
      (any_of (timed_by (number_of kind) s at))
      ≡ record_at (body_in (number_of kind) s) (at + length_of (number_of kind))
  by_kind Key = refl
  by_kind Enc = refl
  by_kind Adc = refl
  by_kind Midi = refl
  by_kind KeyVel = refl
  by_kind Pressure = refl
  by_kind Read = refl
  by_kind Write = refl
  by_kind Step = refl

  pub kind_found :
      (kind : Kind) →
      number_of kind ≡ whole_kind s →
      length_of (number_of kind) ≤ length s →
      record_of s at ≡ record_at (body_in (number_of kind) s) (at + length_of (number_of kind))
  unfolding record_of timed_of
  kind_found kind e long =
      let least = kind-least kind in
      let some : length s ≡ 0 → ⊥ = λ z. omega arith in
      rw (← e, ne_eqb (length s) 0 some) (by_kind kind)

  -- of what the driver finds, an order breaks the layout where only actions are looked for
  abbrev pub only_body : Body → ℕ → TimedAt
  only_body (TimedBody time action) next = timed_at time action next
  only_body (OrderBody order) next = broken_at at

  abbrev pub only : RecordAt → TimedAt
  only (Ok (Some r)) = only_body r.body r.next
  only (Ok None) = Ok None
  only (Err b) = Err b

  only-any : (t : TimedAt) → only (any_of t) ≡ t
  only-any (Ok (Some t)) = refl
  only-any (Ok None) = refl
  only-any (Err b) = refl

  order-broken : is_order (whole_kind s) ≡ true → timed_of s at ≡ broken_at at
  unfolding timed_of
  order-broken o =
      let least = (order-range (whole_kind s) o).0 in
      let kept = (kind-kept s (λ z. omega arith)).0 in
      let some : length s ≡ 0 → ⊥ = let four = kept.four in λ z. omega arith in
      rw (ne_eqb (length s) 0 some, le-leb 1 (whole_kind s) (omega arith), lt-leb (whole_kind s) 6 (omega arith))

  only-timed : only (record_of s at) ≡ timed_of s at
  unfolding record_of
  only-timed = go (is_order (whole_kind s)) refl
    where
      go : (b : Bool) → is_order (whole_kind s) ≡ b → only (cond b (order_at (order_in (whole_kind s) s) (at + length_of (whole_kind s))) (any_of (timed_of s at))) ≡ timed_of s at
      go true e = sym (order-broken e)
      go false e = only-any (timed_of s at)

  pub timed_from : (found : RecordAt) → found ≡ record_of s at → only found ≡ timed_of s at
  timed_from found e = ap only e ∙ only-timed
