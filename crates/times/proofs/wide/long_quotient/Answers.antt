use Rattle.std.proofs.Common.{ℕ, ◌+◌, ◌-◌, ◌*◌, ◌/◌, ◌^◌, ap, ◌≡◌, ◌∙◌, mod-lt, arith}
use Rattle.times.proofs.Quotients.{once-divided, rest_below, bit-one, bit-none}
use Rattle.times.specs.Wide.{divided}
use Rattle.times.proofs.wide.long_quotient.Goals as goal
use Rattle.times.proofs.wide.long_quotient.Goals.{then-b-k-eq1, else-b-k-eq1}

pub plus-sum-requires-then-b-k-eq1 : goal.plus-sum-requires-then-b-k-eq1
plus-sum-requires-then-b-k-eq1 c =
    let a = c.args in
    let n = a.a * (a.b / 2 ^ (64 - c.loop-k.k)) in
    let e = c.loop-k.invariant in
    (rest_below (n + n) a.c c.requires (c.plus-sum.ensures n n e e), mod-lt a.a c.requires)

pub loop-k-preserved : goal.loop-k-preserved
loop-k-preserved c =
    let a = c.args in
    let k = c.loop-k.k in
    let n = a.a * (a.b / 2 ^ (64 - k)) in
    let e = c.loop-k.invariant in
    let f = c.plus-sum.ensures n n e e in
    let p : 63 - k ≡ 64 - k - 1 = omega (arith, c.loop-k-test.true) in
    let q : 64 - (k + 1) ≡ 64 - k - 1 = omega (arith, c.loop-k-test.true) in
    elim c.if-b-k-eq1.branch [
      | then-b-k-eq1 w ↦
          rw (w.sum-is, q)
          (w.plus-sum-then-b-k-eq1.ensures (n + n) a.a f (once-divided a.a a.c c.ranges.a.fits)
          ∙ ap (λ (m : ℕ). divided m a.c) (bit-one a.a a.b (64 - k) (omega (arith, c.loop-k-test.true)) (rw p at w.if-b-k-eq1.true)))
      | else-b-k-eq1 w ↦
          rw (w.sum-is, q)
          (f ∙ ap (λ (m : ℕ). divided m a.c) (bit-none a.a a.b (64 - k) (omega (arith, c.loop-k-test.true)) (rw p at w.if-b-k-eq1.false)))
    ]
