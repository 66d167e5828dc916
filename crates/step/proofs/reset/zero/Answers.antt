use mathlib.Core.Path.{◌≡◌, ◌∙◌}
use Prim.Native.Nat.{ℕ, ◌≤◌}
use lib.ListN.{length}
use native.Mathlib.Omega.{arith}
use Rattle.base.proofs.MapTo.{map_to-length, map_to-more, map_to-all}
use Rattle.step.proofs.reset.zero.Goals as goal

pub loop-word-preserved : goal.loop-word-preserved
loop-word-preserved c = rw c.loop-word.invariant (map_to-more (λ (b : ℕ). 0) c.loop-word.word-index c.args.bank.now 0)

pub returns : goal.returns
returns c =
    let same : length c.loop-word.bank ≡ length c.args.bank.now = rw c.loop-word.invariant (map_to-length (λ (b : ℕ). 0) c.loop-word.word-index c.args.bank.now) in
    let done : length c.args.bank.now ≤ c.loop-word.word-index = omega arith in
    c.loop-word.invariant ∙ map_to-all (λ (b : ℕ). 0) c.loop-word.word-index c.args.bank.now done
