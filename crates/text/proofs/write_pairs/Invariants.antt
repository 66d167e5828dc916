use Rattle.text.specs.HexBytes.{pairs}
use Rattle.text.specs.Numerals.{all_digits}
use lib.Seq.{sets}
use mathlib.Core.Bool.{true}
use lib.ListN.{length, drop}
use Prim.Native.Nat.{◌≤◌, ◌*◌, ◌/◌}
use mathlib.Core.Path.{◌≡◌}
use Rattle.text.proofs.write_pairs.Given as goal

abbrev pub invariant-loop-i : goal.invariant-loop-i
invariant-loop-i l =
    record {
      half : l.i ≤ length l.s / 2;
      room : length l.s / 2 ≤ length l.initial.out;
      len : length l.out ≡ length l.initial.out;
      digits : all_digits 16 (drop (2 * l.i) l.s) ≡ true;
      bytes : sets l.out l.i (pairs (drop (2 * l.i) l.s)) ≡ sets l.initial.out 0 (pairs l.s);
    }
