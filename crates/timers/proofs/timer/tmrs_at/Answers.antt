use Rattle.std.proofs.Common.{◌≡◌, length, rules}
use Rattle.base.proofs.Mapped.{array_mapped}
use Rattle.timers.specs.Timer.{no_tmr, tmr_at, tmrs_at}
use Rattle.timers.proofs.timer.tmrs_at.Goals as goal

pub returns : goal.returns
unfolding tmrs_at
returns c =
    let four : length c.args.t ≡ 4 = search (rules, c.well_formed) in
    array_mapped _ (λ t. tmr_at t c.args.now c.args.hz) _ c.args.t c.map.result (λ x y q k. search rules) no_tmr 4 four c.map.ensures.items
