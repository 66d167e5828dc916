use Rattle.std.proofs.Common.{◌≡◌, ◌≤◌, length}
use Rattle.names.specs.Ascii.{uppers}
use Rattle.names.specs.Words.{starts_with}
use Rattle.names.proofs.starts_with.Given as goal

abbrev pub invariant-loop-b : goal.invariant-loop-b
invariant-loop-b l = record {
  long : length l.b-iterator.b.rest.now ≤ length l.b-iterator.a.rest.now;
  rest : starts_with (uppers l.name) l.word ≡ starts_with (uppers l.b-iterator.a.rest.now) l.b-iterator.b.rest.now;
}
