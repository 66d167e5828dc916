-- A search by `find`, and what a table has for the name.
use Rattle.std.proofs.Common.{◌≡◌, Bool, true, false, cond, List, [], ◌∷◌, find, Some, refl}
use Rattle.std.specs.Option.{option_map}
use Rattle.text.specs.Tables.{found}

pub row-found : {A B : Type 0} (test : A × B → Bool) (table : List (A × B)) → option_map (λ row. row.1) (find test table) ≡ found test table
row-found test [] = refl
row-found test (row ∷ rows) =
    elim (test row) as (λ t. option_map (λ r. r.1) (cond t (Some row) (find test rows)) ≡ cond t (Some row.1) (found test rows))
    [ true ↦ refl | false ↦ row-found test rows ]
