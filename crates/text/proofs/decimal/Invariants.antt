use Rattle.text.specs.Numerals.{all_digits, value_after, value_of}
use lib.ListN.{length, drop}
use Prim.Native.Nat.{◌<◌, ◌^◌}
use mathlib.Core.Path.{◌≡◌}
use Rattle.text.proofs.decimal.Given as goal

abbrev pub invariant-loop-b : goal.invariant-loop-b
invariant-loop-b l =
    record {
      some : 0 < length l.s;
      fits : l.n < 2 ^ 64;
      digits : all_digits 10 l.s ≡ all_digits 10 (drop l.b-index l.s);
      value : value_of 10 l.s ≡ value_after 10 l.n (drop l.b-index l.s);
    }
