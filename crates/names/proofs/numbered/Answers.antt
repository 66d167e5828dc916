use Rattle.std.proofs.Common.{arith, length, take, drop, ◌-◌, ◌≡◌}
use Rattle.std.proofs.lemmas.Grind.{common_steps}
use Rattle.names.specs.Numbers.{numbered}
use Rattle.names.proofs.OnBytes.{uppers_drop}
use Rattle.names.proofs.numbered.Goals as goal

pub returns : goal.returns
unfolding numbered
returns c =
    let k = length c.args.prefix.now in
    let e : take (length c.args.name.now - k) (drop k c.args.name.now) ≡ drop k c.args.name.now = grind (arith, common_steps) in
    rw (← c.if-not-starts_with.ensures, uppers_drop) (rw e at c.number.ensures)
