-- What a table of numbers below a bound has for a name is below it.
use Rattle.std.proofs.Common.{◌≡◌, ℕ, ◌<◌, Bool, true, false, ◌&&◌, cond, nat_lt, List, [], ◌∷◌, Some, arith}
use Rattle.text.specs.Tables.{found}

abbrev pub all_below : {A : Type 0} → ℕ → List (A × ℕ) → Bool
all_below n [] = true
all_below n (row ∷ rows) = nat_lt row.1 n && all_below n rows

taken : (a k n : ℕ) (rest : Bool) → (nat_lt a n && rest) ≡ true → Some a ≡ Some k → k < n
taken a k n rest t e = grind (arith, t, e)

rest : (b c : Bool) → (b && c) ≡ true → c ≡ true
rest true c t = t
rest false c t = grind (arith, t)

pub bounded : {A : Type 0} (test : A × ℕ → Bool) (n k : ℕ) (table : List (A × ℕ)) → all_below n table ≡ true → found test table ≡ Some k → k < n
bounded test n k [] t e = grind (arith, e)
bounded test n k (row ∷ rows) t e =
    elim (test row) as (λ v. cond v (Some row.1) (found test rows) ≡ Some k → k < n)
    [ true ↦ taken row.1 k n (all_below n rows) t | false ↦ bounded test n k rows (rest (nat_lt row.1 n) (all_below n rows) t) ]
    e
