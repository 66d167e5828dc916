-- The name in upper case, by places.
use Rattle.std.proofs.Common.{◌≡◌, ℕ, List, length, get_or, drop, sym}
use Rattle.std.specs.Char.{to_ascii_uppercase}
use Rattle.std.proofs.lemmas.List.{drop-map}
use lib.ListN.{length-map, get_or-map}
use Rattle.names.specs.Ascii.{uppers}

module _ (name : List ℕ) where
  pub uppers_length : length (uppers name) ≡ length name
  unfolding uppers
  uppers_length = length-map name to_ascii_uppercase

  pub byte_inside : (i : ℕ) → to_ascii_uppercase (get_or name i 0) ≡ get_or (uppers name) i 0
  unfolding uppers
  byte_inside i = sym (get_or-map to_ascii_uppercase name i 0)

  pub uppers_drop : (k : ℕ) → drop k (uppers name) ≡ uppers (drop k name)
  unfolding uppers
  uppers_drop k = drop-map to_ascii_uppercase k name
