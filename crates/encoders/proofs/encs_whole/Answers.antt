use Rattle.std.proofs.Common.{◌≡◌, length, rules}
use Rattle.base.proofs.Folds.{tested_by_fold}
use Rattle.encoders.specs.Encoder.{enc_new, enc_whole, encs_whole}
use Rattle.encoders.proofs.encs_whole.Goals as goal

pub returns : goal.returns
unfolding encs_whole
returns c =
    let eight : length c.args.e ≡ 8 = search (rules, c.well_formed) in
    tested_by_fold _ enc_whole enc_new c.args.e 8 c.fold.result c.fold.ensures.ran (cc) eight (λ ok x b q k. search rules)
