-- What encoding answers and leaves in `out`: the bytes at the offset `at` and where they end, or all as it was and no answer where they do not fit.
use Rattle.std.specs.Prelude.{cond, List, Option, Some, None, ◌++◌, ℕ, ◌+◌, leb, length, take, drop}

abbrev pub answer_of : List ℕ → ℕ → List ℕ → Option ℕ
answer_of out at bytes = cond (leb (at + length bytes) (length out)) (Some (at + length bytes)) None

abbrev pub written_of : List ℕ → ℕ → List ℕ → List ℕ
written_of out at bytes =
    cond (leb (at + length bytes) (length out))
    (take at out ++ bytes ++ drop (at + length bytes) out)
    out
