use mathlib.Core.Path.{sym, ap, ◌∙◌}
use lib.Ieee.{binary32, of_bits}
use Rattle.refusals_rows.proofs.Bits.{number-bits, nan-bits, no_number}
use Rattle.refusals_rows.specs.Rows.{force_from}
use Rattle.refusals_rows.proofs.force.Goals as goal

pub float_from_bits-result : goal.float_from_bits-result
float_from_bits-result c = number-bits c.low-b.result c.if-b-le2139095040.true

pub returns-then-b-le2139095040 : goal.returns-then-b-le2139095040
unfolding force_from
returns-then-b-le2139095040 c = rw c.low-b.ensures

pub returns : goal.returns
unfolding force_from
returns c = no_number ∙ sym (nan-bits c.low-b.result c.if-b-le2139095040.false) ∙ ap (of_bits binary32) c.low-b.ensures
