use Rattle.std.proofs.Common.{◌≡◌, length, rules}
use Rattle.base.proofs.Folds.{tested_by_fold}
use Rattle.timers.specs.Timer.{no_tmr, tmr_whole, tmrs_whole}
use Rattle.timers.proofs.timer.tmrs_whole.Goals as goal

pub returns : goal.returns
unfolding tmrs_whole
returns c =
    let four : length c.args.t ≡ 4 = search (rules, c.well_formed) in
    tested_by_fold _ (λ t. tmr_whole t c.args.now) no_tmr c.args.t 4 c.fold.result c.fold.ensures.ran (cc) four (λ ok x b q k. search rules)
