-- `a.map(f)` of an array, where the calls of the closure give what h does: the list mapped by h.
use Rattle.std.proofs.Common.{◌≡◌, ℕ, zero, suc, ◌+◌, ◌<◌, ◌≤◌, ◌⊎◌, inl, inr, List, map, length, get_or, sym, subst, eq-or-lt_of_le, arith}
use denote.Param.Members.{Mut}
use Rattle.std.specs.Array.{MapsFrom, IsMapOf}
use Rattle.std.specs.Fn.{Called}
use Rattle.std.proofs.lemmas.List.{length-map, same_lists}
use Rattle.base.proofs.Lists.{get_or-map}

module _ {A B F : Type 0} (g : Mut F (A × Unit {0}) B) (h : A → B) (f : F) (xs : List A) (ys : List B)
    (acts : (x : A) (y : B) (q : F) → Called g f (x, tt) y q → (q ≡ f) × (y ≡ h x)) where
  at_each : (n i k : ℕ) → MapsFrom g f xs ys i n → i ≤ k → k < i + n → (d : A) (e : B) → get_or ys k e ≡ h (get_or xs k d)
  at_each zero i k m l r d e = absurd (omega arith)
  at_each (suc n) i k (q, x, y, ex, ey, c, rest) l r d e =
      go (eq-or-lt_of_le l) (λ more. at_each n (i + 1) k (subst (λ (p : F). MapsFrom g p xs ys (i + 1) n) (acts x y q c).0 rest) more (omega arith) d e)
    where
      go : (i ≡ k) ⊎ (i < k) → (i + 1 ≤ k → get_or ys k e ≡ h (get_or xs k d)) → get_or ys k e ≡ h (get_or xs k d)
      go (inl p) on = rw (sym p, ey.1 e, ex.1 d) (acts x y q c).1
      go (inr p) on = on (omega arith)

  pub array_mapped : (d : A) (n : ℕ) → length xs ≡ n → IsMapOf g f xs ys n → ys ≡ map h xs
  array_mapped d n e m =
      let long : length ys ≡ n = m.long in
      same_lists ys (map h xs) (rw (length-map, e) long)
      (λ k b l. let s : k < length xs = omega arith in
      rw (get_or-map h d b xs k s) (at_each n 0 k m.each (omega arith) (omega arith) d b))
