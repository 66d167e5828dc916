use Rattle.std.proofs.Common.{◌≡◌, ◌/◌, length, leb, rules}
use Rattle.base.proofs.Folds.{tested_by_fold}
use Rattle.keys.specs.Keys.{up_to, ramps_whole}
use Rattle.keys.proofs.Ramps.whole.Goals as goal

pub returns : goal.returns
unfolding ramps_whole up_to
returns c =
    let n : length c.args.self.now.dur ≡ 41 = search rules in
    let d : c.fold.result ≡ up_to (c.args.hz / 50) c.args.self.now.dur =
    tested_by_fold _ (λ d. leb d (c.args.hz / 50)) 0 c.args.self.now.dur 41 c.fold.result c.fold.ensures.ran (cc) n (λ ok x b q k. search rules) in
    rw (c.times_whole.ensures, d, c.forces_whole.ensures, c.forces_whole-2.ensures)
