use Rattle.pressure.proofs.Wiring.{pull-up-ohms, driver-ohms}
use Rattle.pressure.specs.Pin.{Ohms}
use Rattle.std.proofs.Common.{sym, subst}
use Rattle.pressure.proofs.pin.pin_of.Goals as goal

pub returns-then-pulled : goal.returns-then-pulled
returns-then-pulled c =
    record {
      value = rw (c.if-input.true, c.if-pulled.true);
      wired = pull-up-ohms;
    }

pub returns-then-high : goal.returns-then-high
returns-then-high c =
    record {
      value = rw (c.if-input.false, c.if-high.true, c.driver.ensures);
      wired = subst Ohms (sym c.driver.ensures) (driver-ohms c.args.hd0 c.args.hd);
    }
