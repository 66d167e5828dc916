use Rattle.std.proofs.Common.{◌≡◌, length, rules}
use Rattle.base.proofs.Mapped.{array_mapped}
use Rattle.encoders.specs.Encoder.{enc_new, enc_at, encs_at}
use Rattle.encoders.proofs.encs_at.Goals as goal

pub returns : goal.returns
unfolding encs_at
returns c =
    let eight : length c.args.e ≡ 8 = search (rules, c.well_formed) in
    array_mapped _ (λ e. enc_at e c.args.now c.args.hz) _ c.args.e c.map.result (λ x y q k. search rules) enc_new 8 eight c.map.ensures.items
