use mathlib.Core.Path.{sym, ◌∙◌}
use Rattle.std.proofs.Common.{◌+◌}
use Rattle.records.proofs.Places.{put-more, put-done}
use Rattle.records.proofs.put_number.Goals as goal

pub loop-i-preserved : goal.loop-i-preserved
loop-i-preserved c =
    let v = c.loop-i in
    put-more v.out v.i (c.args.at + c.args.k) v.left c.loop-i-test.true ∙ v.invariant

pub returns : goal.returns
returns c =
    let v = c.loop-i in
    sym (put-done v.out v.i (c.args.at + c.args.k) v.left c.loop-i-test.false) ∙ v.invariant
