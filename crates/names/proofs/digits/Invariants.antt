use Rattle.std.proofs.Common.{◌≡◌, ◌<◌, drop}
use Rattle.names.specs.Ascii.{uppers}
use Rattle.names.specs.Numbers.{digits_after, digits}
use Rattle.names.proofs.digits.Given as goal

abbrev pub invariant-loop-b : goal.invariant-loop-b
invariant-loop-b l = record {
  small : l.value < l.count;
  read : digits (uppers l.name) ≡ digits_after l.value (drop l.b-index (uppers l.name));
}
