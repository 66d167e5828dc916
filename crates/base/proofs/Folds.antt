-- A fold that ands a test of each element of a list of n tests each of the first n places.
use Rattle.std.proofs.Common.{◌≡◌, ℕ, zero, suc, ◌≤◌, Bool, true, ◌&&◌, List, length, get_or, take, refl, subst, ◌∙◌, arith}
use denote.Param.Members.{Mut}
use denote.Ref.{Bor}
use Rattle.std.proofs.iter.Yields.{fronts}
use Rattle.std.proofs.lemmas.Iterator.{YieldsList-from_slice}
use Rattle.std.proofs.lemmas.Iterator.Consumers.{fold_from_yields_List}
use Rattle.std.specs.Fn.{Called}
use Rattle.std.specs.Iterator.{Drains}
use Rattle.std.specs.List.{FoldsTo}
use Rattle.std.specs.declared.slice.Iter.{Iter}
use Rattle.std.specs.Slice.Iter.{iter_rest}
use Rattle.std.specs.List.{fold}
use Rattle.std.proofs.Math.Seq.{take-suc}
use Rattle.std.proofs.lemmas.List.{take_all}
use Rattle.std.proofs.lemmas.List.Sums.{fold_push}
use Rattle.base.specs.AllTo.{all_to}

module _ {A : Type 0} (f : A → Bool) (d : A) (l : List A) where
  abbrev and_on : Bool → A → Bool
  and_on ok x = ok && f x

  tested : (n : ℕ) → n ≤ length l → fold and_on true (take n l) ≡ all_to (λ i. f (get_or l i d)) n
  unfolding all_to
  tested zero h = refl
  tested (suc n) h = rw (take-suc l n d (omega arith), fold_push and_on true (take n l) (get_or l n d), tested n (omega arith))

  pub all_folded : (n : ℕ) → length l ≡ n → fold (λ ok x. ok && f x) true l ≡ all_to (λ i. f (get_or l i d)) n
  all_folded n e = subst (λ (k : List A). fold and_on true k ≡ all_to (λ i. f (get_or l i d)) n) (take_all n l (omega arith)) (tested n (omega arith))

-- so does `a.iter().fold(true, |ok, x| ok & test(*x))`, by what the calls of its closure give
pub tested_by_fold : {A F : Type 0} {s : Iter A} (g : Mut F (Bool × (Bor A × Unit {0})) Bool) {f : F} (test : A → Bool) (d : A) (l : List A) (n : ℕ) (r : Bool)
    → ((xs : List (Bor A)) × (q : F) × Drains fronts s xs × FoldsTo {P = F × Bool} (λ a x b. Called g a.0 (a.1, (x, tt)) b.1 b.0) (f, true) xs (q, r))
    → iter_rest s ≡ l → length l ≡ n
    → ((ok : Bool) (x : Bor A) (b : Bool) (q : F) → Called g f (ok, (x, tt)) b q → (q ≡ f) × (b ≡ (ok && test x.now)))
    → r ≡ all_to (λ i. test (get_or l i d)) n
tested_by_fold g test d l n r ran rest len acts =
    fold_from_yields_List g (λ ok x. ok && test x) true r ran (YieldsList-from_slice l rest) acts ∙ all_folded test d l n len
