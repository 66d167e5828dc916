-- Charging dt lights each LED for dt more at the most, since no id stands twice.
use Rattle.std.proofs.Common.{◌≡◌, ℕ, zero, suc, ◌+◌, ◌*◌, ◌/◌, ◌%◌, ◌^◌, ◌<◌, ◌≤◌, Bool, true, false, eqb, ltb, ◌⊎◌, List, [], ◌∷◌, get_or, set, sym, refl, ap, ◌∙◌, inl, inr, le_refl, arith, get_or-set_other, ltb-true, eqb-true}
use native.Mathlib.Nat.{mod-le}
use borrow.Author.Tests.{eqb-false}
use Rattle.base.specs.Bits.{has_bit}
use Rattle.panel.specs.Matrix.{selected}
use Rattle.panel.specs.Map.{NoneTwice}
use Rattle.panel.specs.Led.{charge_id, charge_rows, charge_cols, charged_of}
use Rattle.panel.specs.declared.map.Map.{Map}

set_here : (l : List ℕ) (i v : ℕ) → get_or (set l i v) i 0 ≤ v
set_here [] i v = omega arith
set_here (x ∷ l) zero v = le_refl v
set_here (x ∷ l) (suc i) v = set_here l i v

-- the places before row n + 1 of column c: those of earlier columns, and rows up to n of this one
abbrev Done : ℕ → ℕ → ℕ → Type 0
Done c n q = (q % 11 < c) ⊎ ((q % 11 ≡ c) × (q / 11 ≤ n))

-- an LED whose place is done was lit for dt at the most
record Seen (ids acc : List ℕ) (dt c n : ℕ) (a : List ℕ) (i : ℕ) : Type 0 where
  pub place : ℕ
  pub inside : place < 66
  pub done : Done c n place
  pub id : get_or ids place 0 ≡ i
  pub key : i < 41
  pub most : get_or a i 0 ≤ get_or acc i 0 + dt

-- an LED's time is as it was, or its place is done
abbrev Known : List ℕ → List ℕ → ℕ → ℕ → ℕ → List ℕ → ℕ → Type 0
Known ids acc dt c n a i = (get_or a i 0 ≡ get_or acc i 0) ⊎ Seen ids acc dt c n a i

-- what is done stays done
later : {ids acc : List ℕ} {dt c n c' n' : ℕ} {a a' : List ℕ} {i : ℕ} → ((q : ℕ) → Done c n q → Done c' n' q)
    → get_or a' i 0 ≡ get_or a i 0 → Known ids acc dt c n a i → Known ids acc dt c' n' a' i
later f e (inl same) = inl (e ∙ same)
later f e (inr s) = inr record {
  place = s.place;
  inside = s.inside;
  done = f s.place s.done;
  id = s.id;
  key = s.key;
  most = rw e s.most;
}

module _ (m : Map) (once : NoneTwice m) (lines latched dt : ℕ) (acc : List ℕ) where
  abbrev All : ℕ → ℕ → List ℕ → Type 0
  All c n a = (i : ℕ) → Known m.ids acc dt c n a i

  row_on : (c n q : ℕ) → Done c n q → Done c (suc n) q
  row_on c n q (inl h) = inl h
  row_on c n q (inr h) = inr (h.0, omega arith)

  module _ (c n : ℕ) (a : List ℕ) (in_c : c < 11) (in_n : n < 4) (known : All c n a) where
    abbrev here : ℕ
    here = suc n * 11 + c

    abbrev id : ℕ
    id = get_or m.ids here 0

    -- the place is charged for the first time
    first : (i : ℕ) → i ≡ id → i < 41 → Known m.ids acc dt c n a i → Known m.ids acc dt c (suc n) (set a id ((get_or a id 0 + dt) % 2 ^ 64)) i
    first i e k (inl same) =
        let l : get_or (set a id ((get_or a id 0 + dt) % 2 ^ 64)) i 0 ≤ (get_or a id 0 + dt) % 2 ^ 64 = rw e (set_here a id ((get_or a id 0 + dt) % 2 ^ 64)) in
        let s : get_or a id 0 ≡ get_or acc i 0 = ap (λ (j : ℕ). get_or a j 0) (sym e) ∙ same in
        let b : (get_or a id 0 + dt) % 2 ^ 64 ≤ get_or a id 0 + dt = mod-le (get_or a id 0 + dt) (2 ^ 64) in
        inr record {
          place = here;
          inside = omega arith;
          done = inr (omega arith, omega arith);
          id = sym e;
          key = k;
          most = omega (arith, l, b, s);
        }
    first i e k (inr s) =
        let p = s.place in
        let h : get_or m.ids p 0 < 41 = rw s.id k in
        let q : p ≡ here = once p here s.inside (omega arith) h (s.id ∙ e) in
        absurd (again s.done q)
      where
        again : Done c n s.place → s.place ≡ here → ⊥
        again (inl g) r = absurd (omega arith)
        again (inr g) r = let u = g.0 in let v = g.1 in absurd (omega arith)

    charged : (i : ℕ) → (t : Bool) → eqb i id ≡ t → id < 41 → Known m.ids acc dt c (suc n) (set a id ((get_or a id 0 + dt) % 2 ^ 64)) i
    charged i true e k = first i (eqb-true i id e) (rw (eqb-true i id e) k) (known i)
    charged i false e k =
        later (row_on c n) (get_or-set_other a id i ((get_or a id 0 + dt) % 2 ^ 64) 0 (λ q. eqb-false i id e q)) (known i)

    row-charged : (t : Bool) → ltb id 41 ≡ t → All c (suc n) (charge_id a id dt)
    row-charged true e i = rw e (charged i (eqb i id) refl (ltb-true id 41 e))
    row-charged false e i = rw e (later (row_on c n) refl (known i))

  rows_on : (c : ℕ) → c < 11 → (a : List ℕ) (n : ℕ) → n < 4 → All c n (charge_rows m.ids lines c dt a n) → (t : Bool)
      → has_bit lines (suc n) ≡ t → All c (suc n) (charge_rows m.ids lines c dt a (suc n))
  unfolding charge_rows
  rows_on c h a n l before true e i =
      rw e
      (row-charged c n (charge_rows m.ids lines c dt a n) h l before (ltb (get_or m.ids (suc n * 11 + c) 0) 41) refl i)
  rows_on c h a n l before false e i = rw e (later (row_on c n) refl (before i))

  rows-known : (c : ℕ) → c < 11 → (a : List ℕ) → All c 0 a → (n : ℕ) → n ≤ 4 → All c n (charge_rows m.ids lines c dt a n)
  unfolding charge_rows
  rows-known c h a k zero l = k
  rows-known c h a k (suc n) l =
      rows_on c h a n (omega arith) (rows-known c h a k n (omega arith)) (has_bit lines (suc n)) refl

  col-on : (c q : ℕ) → Done c 4 q → Done (suc c) 0 q
  col-on c q (inl h) = inl (omega arith)
  col-on c q (inr h) = let u = h.0 in inl (omega arith)

  col-past : (c q : ℕ) → Done c 0 q → Done (suc c) 0 q
  col-past c q (inl h) = inl (omega arith)
  col-past c q (inr h) = let u = h.0 in inl (omega arith)

  cols-on : (n : ℕ) → n < 11 → All n 0 (charge_cols m.ids lines latched dt acc n) → (t : Bool) → selected latched n ≡ t
      → All (suc n) 0 (charge_cols m.ids lines latched dt acc (suc n))
  unfolding charge_cols
  cols-on n l before true e i =
      rw e
      (later (col-on n) refl (rows-known n l (charge_cols m.ids lines latched dt acc n) before 4 (omega arith) i))
  cols-on n l before false e i = rw e (later (col-past n) refl (before i))

  cols-known : (n : ℕ) → n ≤ 11 → All n 0 (charge_cols m.ids lines latched dt acc n)
  unfolding charge_cols
  cols-known zero l = λ i. inl refl
  cols-known (suc n) l = cols-on n (omega arith) (cols-known n (omega arith)) (selected latched n) refl

  pub charge-most : (i : ℕ) → get_or (charged_of m lines latched dt acc) i 0 ≤ get_or acc i 0 + dt
  unfolding charged_of
  charge-most i = go (cols-known 11 (omega arith) i)
    where
      go : Known m.ids acc dt 11 0 (charge_cols m.ids lines latched dt acc 11) i
          → get_or (charge_cols m.ids lines latched dt acc 11) i 0 ≤ get_or acc i 0 + dt
      go (inl e) = omega (arith, e)
      go (inr s) = s.most
