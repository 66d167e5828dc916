use native.Mathlib.Omega.{arith}
use mathlib.Core.Path.{◌≡◌, sym, ap, ◌∙◌}
use mathlib.Core.List.{List}
use mathlib.Core.Logic.{inl, inr}
use Prim.Native.Nat.{ℕ, ◌≤◌, ◌<◌}
use denote.Enum.Bare.{same_true, same_false}
use lib.ListN.{length}
use Rattle.std.specs.Prelude.{Some}
use Rattle.records.specs.Le.{number_at}
use Rattle.records.specs.Layout.{length_of, kind_in, length_in}
use Rattle.records.specs.Kinds.{number_of, Found}
use Rattle.records.specs.contracts.Kind.{the_type}
use Rattle.records.specs.declared.Kind.{Kind}
use Rattle.records.specs.declared.Kind.TheVariants.{Key}
use Rattle.records.proofs.Numbers.{number-byte}
use Rattle.records.proofs.NineKinds.{kind-least, key_named}
use Rattle.records.proofs.Kept.{broken, breaks-short, breaks-kind, breaks-length, breaks-cut, breaks-down, found}
use Rattle.records.proofs.whole_kind.Goals as goal
use Rattle.records.proofs.whole_kind.Goals.{else-eq-via-then-eq+else-s-gt1, else-eq-via-else-eq}

-- what the code's numbers showed, as the layout's words of the bytes
all-kept :
    (s : List ℕ) (kind : Kind) (len : ℕ) →
    number_of kind ≡ kind_in s →
    len ≡ length_in s →
    4 ≤ length s →
    len ≡ length_of (number_of kind) →
    len ≤ length s →
    (kind_in s ≡ 1 → number_at 13 1 s ≤ 1) →
    Found s (Some kind)
all-kept s kind len k l four exact long down =
    found s kind k
    (record {
      four = four;
      known = λ z. let least = kind-least kind in let e = ap length_of k in omega arith;
      exact = sym l ∙ exact ∙ ap length_of k;
      long = rw (← l) long;
      down = down;
    })

-- a key is long enough to say whether it is down
key-long : (s : List ℕ) (kind : Kind) (len : ℕ) → kind ≡ Key → len ≡ length_of (number_of kind) → len ≤ length s → 13 < length s
unfolding length_of
key-long s kind len e exact long = omega (arith, exact ∙ ap (λ k. length_of (number_of k)) e)

pub returns-then-s-lt-HEAD : goal.returns-then-s-lt-HEAD
returns-then-s-lt-HEAD c = let s = c.args.s.now in broken s (breaks-short s c.if-s-lt-HEAD.true)

pub returns-in_err-kind : goal.returns-in_err-kind
returns-in_err-kind c =
    let s = c.args.s.now in
    rw c.from_residual.ensures (broken s (breaks-kind s (rw (← c.u16_at.ensures) c.in_err-kind.ensures)))

pub returns-then-len-length : goal.returns-then-len-length
returns-then-len-length c =
    let s = c.args.s.now in
    let due : c.length.result ≡ length_of (kind_in s) = c.length.ensures ∙ ap length_of (c.in_ok-kind.ensures ∙ c.u16_at.ensures) in
    elim c.then-len-length.either [
      | inl h ↦ broken s (breaks-length s (rw (← due, ← c.u16_at-len.ensures) h))
      | inr h ↦ broken s (breaks-cut s (rw (← c.u16_at-len.ensures) h.1))
    ]

pub bounds-s-13 : goal.bounds-s-13
bounds-s-13 c =
    key-long c.args.s.now c.in_ok-kind.kind c.u16_at-len.result
    (same_true the_type tt _ _ (sym c.if-eq.ensures))
    (c.if-len-length.false ∙ c.length.ensures)
    c.if-s-len.false

pub returns-then-s-gt1 : goal.returns-then-s-gt1
returns-then-s-gt1 c =
    let s = c.args.s.now in
    let key : c.in_ok-kind.kind ≡ Key = same_true the_type tt _ _ (sym c.if-eq.ensures) in
    let there = key-long s c.in_ok-kind.kind c.u16_at-len.result key (c.if-len-length.false ∙ c.length.ensures) c.if-s-len.false in
    broken s
    (breaks-down s
    (sym (c.in_ok-kind.ensures ∙ c.u16_at.ensures) ∙ ap number_of key)
    (rw (number-byte 13 s there) c.if-s-gt1.true))

pub returns : goal.returns
returns c =
    let s = c.args.s.now in
    let kind = c.in_ok-kind.kind in
    let k = c.in_ok-kind.ensures ∙ c.u16_at.ensures in
    let exact = c.if-len-length.false ∙ c.length.ensures in
    all-kept s kind c.u16_at-len.result k c.u16_at-len.ensures c.if-s-lt-HEAD.false exact c.if-s-len.false
    (elim c.else-eq.branch [
      | else-eq-via-then-eq+else-s-gt1 w ↦ λ e.
          let there = key-long s kind c.u16_at-len.result (key_named kind (k ∙ e)) exact c.if-s-len.false in
          rw (number-byte 13 s there) w.if-s-gt1.false
      | else-eq-via-else-eq w ↦ λ e. absurd (same_false the_type _ _ (sym w.if-eq.ensures) (key_named kind (k ∙ e)))
    ])
