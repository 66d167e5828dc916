use Rattle.std.proofs.Common.{◌≡◌}
use Rattle.encoders.proofs.Contacts.{closed_to}
use Rattle.encoders.proofs.encs_closed.Given as goal

abbrev pub invariant-loop-i : goal.invariant-loop-i
invariant-loop-i l = l.bits ≡ closed_to l.e l.i
