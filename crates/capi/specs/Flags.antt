-- A flag that comes in is a byte: 0 is no, any other byte is yes.
use Rattle.std.specs.Prelude.{ℕ, Bool, not, eqb}

abbrev pub is_yes : ℕ → Bool
is_yes on = not (eqb on 0)
