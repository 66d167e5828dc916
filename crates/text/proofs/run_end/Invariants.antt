use mathlib.Core.Path.{◌≡◌}
use Rattle.text.specs.Spans.{run_end}
use Rattle.text.proofs.run_end.Given as goal

abbrev pub invariant-loop-i : goal.invariant-loop-i
invariant-loop-i l = run_end l.mark l.marks l.line l.i ≡ run_end l.mark l.marks l.line l.at
