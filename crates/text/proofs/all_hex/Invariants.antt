use Rattle.text.specs.Numerals.{all_digits}
use lib.ListN.{drop}
use mathlib.Core.Path.{◌≡◌}
use Rattle.text.proofs.all_hex.Given as goal

abbrev pub invariant-loop-b : goal.invariant-loop-b
invariant-loop-b l = all_digits 16 l.s ≡ all_digits 16 (drop l.b-index l.s)
