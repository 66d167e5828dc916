-- What is found does not depend on what lies around it: seventeen bytes are enough, whatever follows them; an offset is only carried along.
use mathlib.Core.Path.{◌≡◌, refl, sym, ◌∙◌, ap}
use mathlib.Core.Bool.{Bool, true, false, cond}
use mathlib.Core.List.{List, ◌++◌}
use Prim.Native.Nat.{ℕ, ◌+◌, ◌≤◌}
use native.Mathlib.Omega.{arith}
use borrow.Author.Tests.{ne_eqb}
use lib.Dec.{eqb}
use lib.ListN.{length, drop, length-append, length-drop}
use lib.Seq.{take-append-le, drop-append-le}
use Rattle.records.specs.Le.{number_at}
use Rattle.records.specs.Layout.{is_timed, is_order, length_of, length_in, kind_in, time_in, action_in, order_in, breaks_layout, whole_kind}
use Rattle.records.specs.Decoded.{timed_of, any_of, record_of, RecordAt, timed_at, record_at, any_at, order_at, broken_at}
use Rattle.records.specs.declared.Action.{Action}
use Rattle.records.specs.declared.Order.{Order}
use Rattle.records.proofs.NineKinds.{known, known-longest}
use Rattle.records.proofs.Kept.{Kept, kept, keeps}
use Rattle.std.specs.Prelude.{Some, None, Ok, Err}

-- ---- whatever follows

module _ (s t : List ℕ) (enough : 17 ≤ length s) where
  number-alike : (i k : ℕ) → i + k ≤ 17 → number_at i k (s ++ t) ≡ number_at i k s
  number-alike i k h =
      let a : i ≤ length s = omega arith in
      let b : k ≤ length (drop i s) = simp length-drop (omega arith) in
      rw (drop-append-le i s t a, take-append-le k (drop i s) t b)

  length-in : length_in (s ++ t) ≡ length_in s
  length-in = number-alike 0 2 (omega arith)

  kind-in : kind_in (s ++ t) ≡ kind_in s
  kind-in = number-alike 2 2 (omega arith)

  down-in : number_at 13 1 (s ++ t) ≡ number_at 13 1 s
  down-in = number-alike 13 1 (omega arith)

  kept_more : Kept s → Kept (s ++ t)
  kept_more k =
      let four : 4 ≤ length (s ++ t) = simp length-append (omega arith) in
      let within : length_in s ≤ length (s ++ t) = let l = k.long in simp length-append (omega arith) in
      record {
        four = four;
        known = rw kind-in k.known;
        exact = rw (length-in, kind-in) k.exact;
        long = rw length-in within;
        down = rw (kind-in, down-in) k.down;
      }

  kept_less : Kept (s ++ t) → Kept s
  kept_less k =
      let some : length_of (kind_in s) ≡ 0 → ⊥ = rw kind-in at k.known in
      let exact : length_in s ≡ length_of (kind_in s) = rw (length-in, kind-in) at k.exact in
      let most : length_of (kind_in s) ≤ 17 = known-longest (known (kind_in s) some) in
      record {
        four = omega arith;
        known = some;
        exact = exact;
        long = omega arith;
        down = rw (kind-in, down-in) at k.down;
      }

  breaks-alike : breaks_layout (s ++ t) ≡ breaks_layout s
  breaks-alike = go (breaks_layout s) (breaks_layout (s ++ t)) refl refl
    where
      go : (a b : Bool) → breaks_layout s ≡ a → breaks_layout (s ++ t) ≡ b → breaks_layout (s ++ t) ≡ breaks_layout s
      go true true e f = f ∙ sym e
      go true false e f = f ∙ sym (keeps s (kept_less (kept (s ++ t) f)))
      go false true e f = keeps (s ++ t) (kept_more (kept s e)) ∙ sym e
      go false false e f = f ∙ sym e

  kind-alike : whole_kind (s ++ t) ≡ whole_kind s
  unfolding whole_kind
  kind-alike =
      ap (λ (b : Bool). cond b 0 (kind_in (s ++ t))) breaks-alike ∙ ap (λ (n : ℕ). cond (breaks_layout s) 0 n) kind-in

  order_alike : (k : ℕ) → order_in k (s ++ t) ≡ order_in k s
  unfolding order_in
  order_alike k = rw (number-alike 4 4 (omega arith), number-alike 8 4 (omega arith), number-alike 4 8 (omega arith))

  action-alike : (k : ℕ) → action_in k (s ++ t) ≡ action_in k s
  unfolding action_in
  action-alike k =
      rw (number-alike 12 1 (omega arith), down-in, number-alike 13 4 (omega arith), number-alike 13 2 (omega arith))

  some_alike : eqb (length (s ++ t)) 0 ≡ eqb (length s) 0
  some_alike =
      let more : length (s ++ t) ≡ 0 → ⊥ = λ e. omega (arith, length-append s t) in
      let some : length s ≡ 0 → ⊥ = λ e. omega arith in
      ne_eqb (length (s ++ t)) 0 more ∙ sym (ne_eqb (length s) 0 some)

  timed-alike : (at : ℕ) → timed_of (s ++ t) at ≡ timed_of s at
  unfolding timed_of
  timed-alike at = rw (some_alike, kind-alike, number-alike 4 8 (omega arith), action-alike (whole_kind s))

  -- where seventeen bytes are left, what follows them makes no other record of them
  pub record-alike : (at : ℕ) → record_of (s ++ t) at ≡ record_of s at
  unfolding record_of
  record-alike at = rw (kind-alike, order_alike (whole_kind s), timed-alike at)

-- ---- wherever it lies

-- the same, `base` bytes further on
abbrev pub moved : ℕ → RecordAt → RecordAt
moved base (Ok (Some r)) = record_at r.body (base + r.next)
moved base (Ok None) = Ok None
moved base (Err b) = broken_at (base + b.at)

pub record-moved : (s : List ℕ) (base at : ℕ) → record_of s (base + at) ≡ moved base (record_of s at)
unfolding record_of timed_of
record-moved s base at =
    go (is_order (whole_kind s)) (eqb (length s) 0) (is_timed (whole_kind s)) (order_in (whole_kind s) s) (time_in s) (action_in (whole_kind s) s) (length_of (whole_kind s))
  where
    go : (o z b : Bool) (x : Order) (time : ℕ) (y : Action) (n : ℕ)
        → cond o (order_at x (base + at + n)) (any_of (cond z (Ok None) (cond b (timed_at time y (base + at + n)) (broken_at (base + at)))))
        ≡ moved base (cond o (order_at x (at + n)) (any_of (cond z (Ok None) (cond b (timed_at time y (at + n)) (broken_at at)))))
    go true z b x time y n =
        let e : base + at + n ≡ base + (at + n) = omega arith in
        ap (λ (m : ℕ). order_at x m) e
    go false true b x time y n = refl
    go false false true x time y n =
        let e : base + at + n ≡ base + (at + n) = omega arith in
        ap (λ (m : ℕ). any_at time y m) e
    go false false false x time y n = refl
