-- Tables of names.
use Rattle.std.specs.Prelude.{ℕ, Bool, cond, List, [], ◌∷◌, Option, Some, None}
use Rattle.std.specs.Str.{bytes_eq}
use Prim.Native.String.{String}
use Rattle.text.specs.Ascii.{bytes}

-- what the first row stands for whose name passes
abbrev pub found : {A B : Type 0} → (A × B → Bool) → List (A × B) → Option B
found test [] = None
found test (row ∷ rows) = cond (test row) (Some row.1) (found test rows)

-- what the first row stands for that bears the name, in a table whose names are written out here
abbrev pub named : {A : Type 0} → List (String × A) → List ℕ → Option A
named table name = found (λ row. bytes_eq (bytes row.0) name) table
