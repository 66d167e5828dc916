use Rattle.std.proofs.Common.{◌<◌, ◌≤◌, arith, lit≤, le-ltb, lt-ltb}
use Rattle.pressure.specs.Noise.{sample_of}
use Rattle.pressure.specs.Value.{open_key}
use Rattle.pressure.proofs.noise.sample.Goals as goal

pub returns-then-least-ge-OPEN : goal.returns-then-least-ge-OPEN
unfolding sample_of
returns-then-least-ge-OPEN c =
    let h : open_key ≤ c.args.least = omega (arith, c.if-least-ge-OPEN.true) in
    record {
      value = rw (le-ltb _ _ h);
      bounded = lit≤ tt;
    }

pub returns : goal.returns
unfolding sample_of
returns c =
    let h : c.args.least < open_key = omega (arith, c.if-least-ge-OPEN.false) in
    record {
      value = rw (lt-ltb _ _ h, c.less_one.ensures);
      bounded = omega (arith, c.less_one.ensures);
    }
