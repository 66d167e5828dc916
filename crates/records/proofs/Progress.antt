-- Where decoding goes on: past the record and within the bytes; a broken record is told by its first byte's offset.
use mathlib.Core.Path.{◌≡◌, refl, sym, ap, ◌∙◌}
use mathlib.Core.Bool.{Bool, true, false, cond}
use mathlib.Core.List.{List}
use mathlib.Core.Logic.{◌⊎◌, inl, inr}
use Prim.Native.Nat.{ℕ, ◌+◌, ◌≤◌, ◌<◌}
use native.Mathlib.Omega.{arith}
use borrow.Author.Tests.{eqb-true, eq-eqb, ne_eqb}
use lib.Dec.{eqb}
use lib.ListN.{length, drop, length-drop}
use Rattle.records.specs.Layout.{is_timed, is_order, length_of, kind_in, time_in, action_in, breaks_layout, whole_kind}
use Rattle.records.specs.Decoded.{timed_of, any_of, record_of, timed_at, record_at, any_at, order_at, broken_at}
use Rattle.records.specs.declared.Action.{Action}
use Rattle.records.specs.declared.Order.{Order}
use Rattle.records.proofs.NineKinds.{known, known-least, known-sorted}
use Rattle.records.proofs.Kept.{Kept, kept, breaks-short}
use Rattle.records.proofs.RoundTrip.{timed-decodes, order-decodes, any-decodes}
use Rattle.records.proofs.Inverse.{broken_same, timed-found, any_found, order-found}
use Rattle.records.specs.declared.Body.{Body}
use Rattle.records.specs.declared.Body.TheVariants.{Timed as TimedBody, Order as OrderBody}
use Rattle.records.specs.declared.Record.{Record}
use Rattle.std.specs.Prelude.{Some, None, Ok}

-- A record that decodes is at least eight bytes long, and all there: of what is left, s, from the offset `at` on.
passes : (s : List ℕ) (at next : ℕ) → Kept s → next ≡ at + length_of (kind_in s) → (at + 8 ≤ next) × (next ≤ at + length s)
passes s at next k e =
    let eight = known-least (known (kind_in s) k.known) in
    let long : length_of (kind_in s) ≤ length s = rw k.exact at k.long in
    (omega arith, omega arith)

module _ (s : List ℕ) (at : ℕ) where
  pub timed-passes : (time next : ℕ) (a : Action) → timed_of s at ≡ timed_at time a next → (at + 8 ≤ next) × (next ≤ at + length s)
  timed-passes time next a e = let f = timed-found s at e in passes s at next f.kept f.next-is

  pub any-passes : (time next : ℕ) (a : Action) → record_of s at ≡ any_at time a next → (at + 8 ≤ next) × (next ≤ at + length s)
  any-passes time next a e = timed-passes time next a (any_found s at (timed_at time a next) e)

  pub order-passes : (next : ℕ) (o : Order) → record_of s at ≡ order_at o next → (at + 8 ≤ next) × (next ≤ at + length s)
  order-passes next o e = let f = order-found s at e in passes s at next f.kept f.next-is

  pub record-passes : (r : Record) → record_of s at ≡ Ok (Some r) → (at + 8 ≤ r.next) × (r.next ≤ at + length s)
  record-passes r e = go r.body refl
    where
      go : (b : Body) → r.body ≡ b → (at + 8 ≤ r.next) × (r.next ≤ at + length s)
      go (TimedBody time action) is = any-passes time r.next action (e ∙ ap (λ b. record_at b r.next) is)
      go (OrderBody order) is = order-passes r.next order (e ∙ ap (λ b. record_at b r.next) is)

-- The same of bytes and a place: it ends within the bytes.
module _ (bytes : List ℕ) (at : ℕ) where
  within : (next : ℕ) → (at + 8 ≤ next) × (next ≤ at + length (drop at bytes)) → (at + 8 ≤ next) × (next ≤ length bytes)
  within next p = let left = length-drop at bytes in (p.0, omega arith)

  pub timed-next :
      (time next : ℕ) (a : Action) →
      timed_of (drop at bytes) at ≡ timed_at time a next →
      (at + 8 ≤ next) × (next ≤ length bytes)
  timed-next time next a e = within next (timed-passes (drop at bytes) at time next a e)

  pub any_next :
      (time next : ℕ) (a : Action) →
      record_of (drop at bytes) at ≡ any_at time a next →
      (at + 8 ≤ next) × (next ≤ length bytes)
  any_next time next a e = within next (any-passes (drop at bytes) at time next a e)

  pub order-next :
      (next : ℕ) (o : Order) →
      record_of (drop at bytes) at ≡ order_at o next →
      (at + 8 ≤ next) × (next ≤ length bytes)
  order-next next o e = within next (order-passes (drop at bytes) at next o e)

  pub record-next : (r : Record) → record_of (drop at bytes) at ≡ Ok (Some r) → (at + 8 ≤ r.next) × (r.next ≤ length bytes)
  record-next r e = within r.next (record-passes (drop at bytes) at r e)

broken-cases :
    {at : ℕ} (z b : Bool) (x : ℕ) (y : Action) (w here : ℕ) →
    cond z (Ok None) (cond b (timed_at x y w) (broken_at here)) ≡ broken_at at →
    at ≡ here
broken-cases true b x y w here e = absurd (let q : ◌≡◌ {A = ℕ} 0 1 = cc in omega arith)
broken-cases false true x y w here e = absurd (let q : ◌≡◌ {A = ℕ} 0 1 = cc in omega arith)
broken-cases false false x y w here e = sym (broken_same e)

end-cases :
    (z b : Bool) (x : ℕ) (y : Action) (w here : ℕ) →
    cond z (Ok None) (cond b (timed_at x y w) (broken_at here)) ≡ (Ok None) →
    z ≡ true
end-cases true b x y w here e = refl
end-cases false true x y w here e = absurd (let q : ◌≡◌ {A = ℕ} 0 1 = cc in omega arith)
end-cases false false x y w here e = absurd (let q : ◌≡◌ {A = ℕ} 0 1 = cc in omega arith)

module _ (s : List ℕ) (at : ℕ) where
  -- "`X` has the offset of the record's first byte."
  pub broken-here : (here : ℕ) → timed_of s at ≡ broken_at here → here ≡ at
  unfolding timed_of
  broken-here here e =
      broken-cases (eqb (length s) 0) (is_timed (whole_kind s)) (time_in s) (action_in (whole_kind s) s) (at + length_of (whole_kind s)) at e

  pub any-broken-here : (here : ℕ) → record_of s at ≡ broken_at here → here ≡ at
  any-broken-here here e = broken-here here (any_found s at (broken_at here) e)

  -- End is said exactly where no byte is left.
  pub end_empty : timed_of s at ≡ (Ok None) → length s ≡ 0
  unfolding timed_of
  end_empty e =
      eqb-true _ _
      (end-cases (eqb (length s) 0) (is_timed (whole_kind s)) (time_in s) (action_in (whole_kind s) s) (at + length_of (whole_kind s)) at e)

  pub empty-end : length s ≡ 0 → timed_of s at ≡ (Ok None)
  unfolding timed_of
  empty-end e = rw (eq-eqb _ _ e)

  pub any-end-empty : record_of s at ≡ (Ok None) → length s ≡ 0
  any-end-empty e = end_empty (any_found s at (Ok None) e)

  pub any-empty-end : length s ≡ 0 → record_of s at ≡ (Ok None)
  unfolding record_of whole_kind
  any-empty-end e = rw (breaks-short s (omega arith), empty-end e)

  -- The driver finds a broken record exactly where the bytes that are left break the layout.
  pub broken-breaks : (here : ℕ) → record_of s at ≡ broken_at here → breaks_layout s ≡ true
  broken-breaks here e = go (breaks_layout s) refl
    where
      sorted : Kept s → (is_timed (kind_in s) ≡ true) ⊎ (is_order (kind_in s) ≡ true) → ⊥
      sorted k (inl t) =
          let f = any-decodes s at k t ∙ ap any_of (timed-decodes s at k t) in
          let q : ◌≡◌ {A = ℕ} 0 1 = cc in
          omega arith
      sorted k (inr o) =
          let f = order-decodes s at k o in
          let q : ◌≡◌ {A = ℕ} 0 1 = cc in
          omega arith

      go : (b : Bool) → breaks_layout s ≡ b → breaks_layout s ≡ true
      go true b = b
      go false b = absurd (sorted (kept s b) (known-sorted (known (kind_in s) (kept s b).known)))

  pub breaks-broken : 0 < length s → breaks_layout s ≡ true → record_of s at ≡ broken_at at
  unfolding record_of timed_of whole_kind
  breaks-broken h b = rw (ne_eqb (length s) 0 (λ e. omega arith), b)
