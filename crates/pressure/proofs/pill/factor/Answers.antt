use Rattle.pressure.specs.Value.{factor, factor_of, expo, mant}
use Rattle.std.proofs.Common.{◌≡◌, ℕ, ◌+◌, ◌-◌, ◌*◌, ◌/◌, ◌%◌, ◌≤◌, get_or, ap, ◌∙◌, ap₂, arith}
use Rattle.pressure.proofs.pill.factor.Goals as goal

place : (b : ℕ) → b / 8388608 - 117 ≡ (b / 131072 - 7488) / 64
place b = omega arith

rest : (b : ℕ) → 981467136 ≤ b → b / 131072 % 64 ≡ (b / 131072 - 7488) % 64
rest b h = omega arith

pub returns : goal.returns
unfolding factor factor_of
returns c = let b = c.args.b in
    ap₂ (λ (x y : ℕ). (x * y + 16384) / 32768)
    (c.expo_at.ensures.0 ∙ ap (λ (i : ℕ). get_or expo i 0) (place b))
    (c.mant_at.ensures.0 ∙ ap (λ (i : ℕ). get_or mant i 0) (rest b c.requires.0))
