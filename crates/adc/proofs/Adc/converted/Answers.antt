use Rattle.std.proofs.Common.{◌≡◌, Bool, true, false, cond, not, refl}
use mathlib.Core.Bool.{beq}
use mir.Val.{bool_byte}
use Rattle.adc.specs.Adc.{converted}
use Rattle.adc.proofs.Adc.converted.Goals as goal

line : (raises : Bool) → bool_byte raises ≡ cond raises 1 0
line true = refl
line false = refl

moves : (raises low : Bool) → beq raises low ≡ cond raises low (not low)
moves true true = refl
moves true false = refl
moves false true = refl
moves false false = refl

pub returns : goal.returns
unfolding converted
returns c = rw (c.from.ensures, line, moves, c.channel_reads-got.ensures)
