use Rattle.pressure.proofs.Velocities.{vel-force}
use Rattle.pressure.specs.Force.{landing, vel_force, is_force}
use lib.Ieee.{Float}
use Rattle.std.proofs.Common.{◌≡◌, T, min, max, sym, ap, subst, arith}
use Rattle.pressure.proofs.ramp.vel_force.Goals as goal

pub returns : goal.returns
unfolding vel_force
returns c =
    let v : c.clamp-v.result ≡ min (max c.args.vel 1) 127 = omega arith in
    let e = ap landing v in
    record {
      value = e;
      forced = subst (λ (z : Float). T (is_force z)) (sym e) (vel-force c.args.vel);
    }
