use Prim.Native.Nat.{◌≤◌, ◌<◌}
use mathlib.Core.Path.{◌≡◌, sym, ◌∙◌}
use lib.ListN.{length, replicate}
use lib.Ieee.{binary32, of_bits}
use native.Mathlib.Omega.{arith}
use borrow.Author.Rules.{rules}
use Rattle.refusals_rows.specs.Rows.{force_from}
use Rattle.refusals_rows.proofs.Into.{into-turn, into-all}
use Rattle.refusals_rows.proofs.forces.Goals as goal

pub loop-i-preserved : goal.loop-i-preserved
loop-i-preserved c =
    let long : length c.args.row ≡ 41 = search (rules, c.well_formed) in
    let in_row : c.loop-i.i < length c.args.row = omega arith in
    into-turn force_from c.loop-i.i c.args.row (replicate 41 (of_bits binary32 0)) c.loop-i.f 0 c.force.result c.loop-i.invariant c.force.ensures in_row

pub returns : goal.returns
returns c =
    let long : length c.args.row ≡ 41 = search (rules, c.well_formed) in
    let past : length c.args.row ≤ c.loop-i.i = omega arith in
    c.loop-i.invariant ∙ into-all force_from c.loop-i.i c.args.row (replicate 41 (of_bits binary32 0)) past (sym long)
