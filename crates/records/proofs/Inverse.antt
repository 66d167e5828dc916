-- What decoding found, read backwards: what the bytes then are.
use mathlib.Core.Path.{◌≡◌, refl, sym, ap, ◌∙◌}
use mathlib.Core.Bool.{Bool, true, false, cond}
use mathlib.Core.List.{List}
use Prim.Native.Nat.{ℕ, ◌+◌, ◌≤◌}
use native.Mathlib.Omega.{arith}
use borrow.Author.Tests.{leb-true}
use lib.Dec.{leb, eqb}
use lib.ListN.{length}
use Rattle.base.proofs.Flags.{both}
use Rattle.records.specs.Layout.{is_timed, is_order, length_of, kind_in, time_in, action_in, order_in, breaks_layout, whole_kind}
use Rattle.records.specs.Decoded.{timed_of, any_of, record_of, TimedAt, RecordAt, timed_at, order_at, broken_at}
use Rattle.records.specs.declared.Action.{Action}
use Rattle.records.specs.declared.Order.{Order}
use Rattle.records.specs.declared.Body.{Body}
use Rattle.records.specs.declared.Body.TheVariants.{Timed as TimedBody, Order as OrderBody}
use Rattle.records.proofs.Kept.{Kept, kept}
use Rattle.records.specs.declared.Broken.{Broken}
use Rattle.std.specs.Prelude.{Option, Some, None, Result, Ok, Err}

pub timed-range : (k : ℕ) → is_timed k ≡ true → (1 ≤ k) × (k ≤ 6)
timed-range k e = let (a, b) = both (leb 1 k) (leb k 6) e in (leb-true _ _ a, leb-true _ _ b)

pub order-range : (k : ℕ) → is_order k ≡ true → (0x101 ≤ k) × (k ≤ 0x103)
order-range k e = let (a, b) = both (leb 0x101 k) (leb k 0x103) e in (leb-true _ _ a, leb-true _ _ b)

-- a kind is found only where the layout is kept
pub kind-kept : (s : List ℕ) → (whole_kind s ≡ 0 → ⊥) → Kept s × (whole_kind s ≡ kind_in s)
unfolding whole_kind
kind-kept s h = go (breaks_layout s) refl
  where
    go : (b : Bool) → breaks_layout s ≡ b → Kept s × (whole_kind s ≡ kind_in s)
    go true e = absurd (h (rw e))
    go false e = (kept s e, rw e)

pub record IsTimed (s : List ℕ) (at time : ℕ) (action : Action) (next : ℕ) : Type 0 where
  pub kept : Kept s
  pub timed : is_timed (kind_in s) ≡ true
  pub time-is : time ≡ time_in s
  pub action-is : action ≡ action_in (kind_in s) s
  pub next-is : next ≡ at + length_of (kind_in s)

pub record IsOrder (s : List ℕ) (at : ℕ) (order : Order) (next : ℕ) : Type 0 where
  pub kept : Kept s
  pub ordered : is_order (kind_in s) ≡ true
  pub order_is : order ≡ order_in (kind_in s) s
  pub next-is : next ≡ at + length_of (kind_in s)

-- what two equal answers hold is equal
pub found_same : {A E : Type 0} {a b : A} → ◌≡◌ {A = Result (Option A) E} (Ok (Some a)) (Ok (Some b)) → a ≡ b
found_same e = cc

pub broken_same : {A : Type 0} {a b : ℕ} → ◌≡◌ {A = Result (Option A) Broken} (broken_at a) (broken_at b) → a ≡ b
broken_same {A = A} {a = a} {b = b} e =
    let q : ◌≡◌ {A = Broken} (record { at = a }) (record { at = b }) = cc in
    ap (λ x. x.at) q

timed-cases :
    {time next : ℕ} {action : Action} (z b : Bool) (x : ℕ) (y : Action) (w at : ℕ) →
    cond z (Ok None) (cond b (timed_at x y w) (broken_at at)) ≡ timed_at time action next →
    (b ≡ true) × (time ≡ x) × (action ≡ y) × (next ≡ w)
timed-cases true b x y w at e = absurd (let q : ◌≡◌ {A = ℕ} 0 1 = cc in omega arith)
timed-cases false true x y w at e =
    let q = found_same e in
    (refl, sym (ap (λ t. t.time) q), sym (ap (λ t. t.action) q), sym (ap (λ t. t.next) q))
timed-cases false false x y w at e = absurd (let q : ◌≡◌ {A = ℕ} 0 1 = cc in omega arith)

pub timed-found :
    (s : List ℕ) (at : ℕ) {time : ℕ} {action : Action} {next : ℕ} →
    timed_of s at ≡ timed_at time action next →
    IsTimed s at time action next
unfolding timed_of
timed-found s at e =
    let (t, x, y, w) = timed-cases (eqb (length s) 0) (is_timed (whole_kind s)) (time_in s) (action_in (whole_kind s) s) (at + length_of (whole_kind s)) at e in
    let least : 1 ≤ whole_kind s = (timed-range (whole_kind s) t).0 in
    let (k, q) = kind-kept s (λ z. omega arith) in
    record { kept = k; timed = rw q at t; time-is = x; action-is = rw q at y; next-is = rw q at w }

-- what is no order is what `timed_of` finds
back_body : Body → ℕ → TimedAt
back_body (TimedBody time action) next = timed_at time action next
back_body (OrderBody order) next = Ok None

back : RecordAt → TimedAt
back (Ok (Some r)) = back_body r.body r.next
back (Ok None) = Ok None
back (Err b) = Err b

back_any : (d : TimedAt) → back (any_of d) ≡ d
unfolding back back_body
back_any (Ok (Some t)) = refl
back_any (Ok None) = refl
back_any (Err b) = refl

order-is-none : (o : Order) (n : ℕ) (d : TimedAt) → order_at o n ≡ any_of d → ⊥
order-is-none o n (Ok (Some t)) e =
    let body = ap (λ r. r.body) (found_same e) in
    let q : ◌≡◌ {A = ℕ} 0 1 = cc in
    omega arith
order-is-none o n (Ok None) e = let q : ◌≡◌ {A = ℕ} 0 1 = cc in omega arith
order-is-none o n (Err b) e = let q : ◌≡◌ {A = ℕ} 0 1 = cc in omega arith

any-cases : (b : Bool) (o : Order) (n : ℕ) (d r : TimedAt) → cond b (order_at o n) (any_of d) ≡ any_of r → d ≡ r
any-cases true o n d r e = absurd (order-is-none o n r e)
any-cases false o n d r e = sym (back_any d) ∙ ap back e ∙ back_any r

pub any_found : (s : List ℕ) (at : ℕ) (r : TimedAt) → record_of s at ≡ any_of r → timed_of s at ≡ r
unfolding record_of
any_found s at r e =
    any-cases (is_order (whole_kind s)) (order_in (whole_kind s) s) (at + length_of (whole_kind s)) (timed_of s at) r e

order-cases :
    {o : Order} {n : ℕ} (b : Bool) (x : Order) (w : ℕ) (d : TimedAt) →
    cond b (order_at x w) (any_of d) ≡ order_at o n →
    (b ≡ true) × (o ≡ x) × (n ≡ w)
order-cases true x w d e =
    let q = found_same e in
    let body = ap (λ r. r.body) q in
    (refl, cc, sym (ap (λ r. r.next) q))
order-cases {o} {n} false x w d e = absurd (order-is-none o n d (sym e))

pub order-found : (s : List ℕ) (at : ℕ) {o : Order} {next : ℕ} → record_of s at ≡ order_at o next → IsOrder s at o next
unfolding record_of
order-found s at e =
    let (t, x, w) = order-cases (is_order (whole_kind s)) (order_in (whole_kind s) s) (at + length_of (whole_kind s)) (timed_of s at) e in
    let least : 0x101 ≤ whole_kind s = (order-range (whole_kind s) t).0 in
    let (k, q) = kind-kept s (λ z. omega arith) in
    record { kept = k; ordered = rw q at t; order_is = rw q at x; next-is = rw q at w }
