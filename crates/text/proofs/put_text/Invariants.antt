use mathlib.Core.Path.{◌≡◌}
use lib.ListN.{length, drop}
use Rattle.text.specs.Putting.{put_all, place_after_all}
use Rattle.text.proofs.put_text.Given as goal

abbrev pub invariant-loop-b : goal.invariant-loop-b
invariant-loop-b l =
    record {
      len : length l.out ≡ length l.initial.out;
      place : place_after_all (length l.initial.out) l.to (drop l.b-index l.text) ≡ place_after_all (length l.initial.out) l.at l.text;
      bytes : put_all l.out l.to (drop l.b-index l.text) ≡ put_all l.initial.out l.at l.text;
    }
