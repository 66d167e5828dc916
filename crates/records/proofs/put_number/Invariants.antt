use Rattle.std.proofs.Common.{◌≡◌, ◌+◌, ◌-◌}
use Rattle.std.proofs.lemmas.List.Edits.{sets}
use Rattle.records.specs.Le.{le}
use Rattle.records.proofs.put_number.Given as goal

abbrev pub invariant-loop-i : goal.invariant-loop-i
invariant-loop-i l = sets l.out l.i (le (l.at + l.k - l.i) l.left) ≡ sets l.initial.out l.at (le l.k l.n)
