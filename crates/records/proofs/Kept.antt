-- A record keeps the layout: the five tests as facts, both ways.
use mathlib.Core.Path.{◌≡◌, refl}
use mathlib.Core.Bool.{Bool, true, false, ◌&&◌, ◌||◌}
use mathlib.Core.List.{List}
use Prim.Native.Nat.{ℕ, ◌≤◌, ◌<◌}
use borrow.Author.Tests.{lt-ltb, le-ltb, eq-eqb, ne_eqb, ltb-false, eqb-true, eqb-false, not-false}
use lib.ListN.{length}
use Rattle.records.specs.Le.{number_at}
use Rattle.records.specs.Layout.{length_of, length_in, kind_in, breaks_layout, whole_kind}
use Rattle.records.specs.Kinds.{number_of, Found}
use Rattle.records.specs.declared.Kind.{Kind}
use Rattle.std.specs.Prelude.{Some, None}

pub record Kept (s : List ℕ) : Type 0 where
  pub four : 4 ≤ length s
  pub known : length_of (kind_in s) ≡ 0 → ⊥
  pub exact : length_in s ≡ length_of (kind_in s)
  pub long : length_in s ≤ length s
  pub down : kind_in s ≡ 1 → number_at 13 1 s ≤ 1

or-true : (a : Bool) → (a || true) ≡ true
or-true true = refl
or-true false = refl

or-none : (a b : Bool) → (a || b) ≡ false → (a ≡ false) × (b ≡ false)
or-none true b e = (e, cc)
or-none false b e = (refl, e)

and_none : (a b : Bool) → (a ≡ true → b ≡ false) → (a && b) ≡ false
and_none true b f = f refl
and_none false b f = refl

and_second : (a b : Bool) → (a && b) ≡ false → a ≡ true → b ≡ false
and_second true b e q = e
and_second false b e q = cc

module _ (s : List ℕ) where
  pub broken : breaks_layout s ≡ true → Found s None
  unfolding whole_kind
  broken e = rw e

  pub breaks-short : length s < 4 → breaks_layout s ≡ true
  breaks-short h = rw (lt-ltb _ _ h)

  pub breaks-kind : length_of (kind_in s) ≡ 0 → breaks_layout s ≡ true
  breaks-kind h = rw (eq-eqb _ _ h, or-true)

  pub breaks-length : (length_in s ≡ length_of (kind_in s) → ⊥) → breaks_layout s ≡ true
  breaks-length h = rw (ne_eqb _ _ h, or-true)

  pub breaks-cut : length s < length_in s → breaks_layout s ≡ true
  breaks-cut h = rw (lt-ltb _ _ h, or-true)

  pub breaks-down : kind_in s ≡ 1 → 1 < number_at 13 1 s → breaks_layout s ≡ true
  breaks-down k h = rw (eq-eqb _ _ k, lt-ltb _ _ h, or-true)

  pub keeps : Kept s → breaks_layout s ≡ false
  keeps k =
      rw (le-ltb _ _ k.four, ne_eqb _ _ k.known, eq-eqb _ _ k.exact, le-ltb _ _ k.long)
      (and_none _ _ (λ e. le-ltb _ _ (k.down (eqb-true _ _ e))))

  pub kept : breaks_layout s ≡ false → Kept s
  kept e₅ =
      let (e₄, down) = or-none _ _ e₅ in
      let (e₃, long) = or-none _ _ e₄ in
      let (e₂, exact) = or-none _ _ e₃ in
      let (e₁, known) = or-none _ _ e₂ in
      record {
        four = ltb-false _ _ e₁;
        known = eqb-false _ _ known;
        exact = eqb-true _ _ (not-false _ exact);
        long = ltb-false _ _ long;
        down = λ k. ltb-false _ _ (and_second _ _ down (eq-eqb _ _ k));
      }

  pub found : (kind : Kind) → number_of kind ≡ kind_in s → Kept s → Found s (Some kind)
  unfolding whole_kind
  found kind e k = (rw (keeps k) e, rw (e, ← k.exact) k.long)
