use Rattle.text.specs.Numerals.{all_digits, value_after, value_of}
use lib.ListN.{length, drop}
use Prim.Native.Nat.{◌≤◌, ◌<◌, ◌^◌}
use mathlib.Core.Path.{◌≡◌}
use Rattle.text.proofs.hex.Given as goal

abbrev pub invariant-loop-b : goal.invariant-loop-b
invariant-loop-b l =
    record {
      some : 0 < length l.s;
      most : length l.s ≤ l.most;
      sixteen : length l.s ≤ 16;
      below : l.n < 16 ^ l.b-index;
      digits : all_digits 16 l.s ≡ all_digits 16 (drop l.b-index l.s);
      value : value_of 16 l.s ≡ value_after 16 l.n (drop l.b-index l.s);
    }
