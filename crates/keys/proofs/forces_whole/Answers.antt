use Rattle.std.proofs.Common.{◌≡◌, length, rules}
use Rattle.std.specs.Float.{nan}
use Rattle.base.proofs.Folds.{tested_by_fold}
use Rattle.pressure.specs.Force.{is_force}
use Rattle.keys.specs.Keys.{forces}
use Rattle.keys.proofs.forces_whole.Goals as goal

pub returns : goal.returns
unfolding forces
returns c =
    let n : length c.args.a.now ≡ 41 = search rules in
    tested_by_fold _ is_force nan c.args.a.now 41 c.fold.result c.fold.ensures.ran (cc) n (λ ok x b q k. search rules)
