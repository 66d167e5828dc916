-- A table read row by row.
use mathlib.Core.Path.{◌≡◌}
use mathlib.Core.Bool.{true, false}
use mathlib.Core.List.{List}
use Prim.Native.Nat.{ℕ, ◌+◌, ◌≤◌, ◌<◌}
use native.Mathlib.Numerals.{add-one}
use denote.Ref.{Bor}
use lib.ListN.{length, get_or, drop, drop_of_length-le}
use lib.Seq.{drop-cons}
use Rattle.std.specs.Prelude.{None, Some}
use Rattle.names.specs.Words.{is_word, find_row}

module _ (rows : List (Bor (List ℕ) × ℕ)) (i : ℕ) (n : List ℕ) where
  pub rows_end : length rows ≤ i → find_row (drop i rows) n ≡ None
  unfolding find_row
  rows_end h = rw (drop_of_length-le rows {i = i} h)

  module _ (d : Bor (List ℕ) × ℕ) (h : i < length rows) where
    pub row_found : is_word n (get_or rows i d).0.now ≡ true → find_row (drop i rows) n ≡ Some (get_or rows i d).1
    unfolding find_row
    row_found e = rw (drop-cons rows i d h, e)

    pub row_passed : is_word n (get_or rows i d).0.now ≡ false → find_row (drop i rows) n ≡ find_row (drop (i + 1) rows) n
    unfolding find_row
    row_passed e = rw (drop-cons rows i d h, e, add-one)
