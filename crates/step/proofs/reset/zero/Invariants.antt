use mathlib.Core.Path.{◌≡◌}
use Prim.Native.Nat.{ℕ}
use Rattle.base.proofs.MapTo.{map_to}
use Rattle.step.proofs.reset.zero.Given as goal

abbrev pub invariant-loop-word : goal.invariant-loop-word
invariant-loop-word l = l.bank ≡ map_to (λ (b : ℕ). 0) l.word-index l.initial.bank
