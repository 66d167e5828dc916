use Rattle.std.proofs.Common.{◌≡◌, length, leb, rules}
use Rattle.base.proofs.Folds.{tested_by_fold}
use Rattle.keys.specs.Keys.{up_to}
use Rattle.keys.proofs.times_whole.Goals as goal

pub returns : goal.returns
unfolding up_to
returns c =
    let n : length c.args.a.now ≡ 41 = search rules in
    tested_by_fold _ (λ t. leb t c.args.most) 0 c.args.a.now 41 c.fold.result c.fold.ensures.ran (cc) n (λ ok x b q k. search rules)
