use Rattle.text.specs.HexBytes.{pairs}
use Rattle.text.specs.Numerals.{digit_of}
use Rattle.text.proofs.Digits.{digit-or}
use Rattle.text.proofs.HexPairs.{pairs-length, pair-next, pairs-more, pairs-done, store-one}
use lib.Seq.{sets-eq}
use native.Mathlib.Nat.{zero-add}
use lib.ListN.{get_or, drop, length-set}
use native.Mathlib.Omega.{arith}
use Prim.Native.Nat.{◌+◌, ◌*◌}
use mathlib.Core.Path.{◌≡◌, refl, ◌∙◌}
use Rattle.text.proofs.write_pairs.Goals as goal

pub loop-i-init : goal.loop-i-init
loop-i-init c =
    record { half = omega arith; room = rw pairs-length at c.requires.s_in_bounds; len = refl; digits = c.requires.s_value; bytes = refl }

pub loop-i-preserved : goal.loop-i-preserved
loop-i-preserved c =
    let s = c.args.s.now in
    let v = c.loop-i in
    let next = pair-next s v.i (omega arith) v.invariant.digits in
    let high : c.unwrap_or-high.result ≡ digit_of (get_or s (2 * v.i) 0) =
    c.unwrap_or-high.ensures ∙ rw c.digit.ensures (digit-or 16 (get_or s (2 * v.i) 0) next.0) in
    let low : c.unwrap_or-low.result ≡ digit_of (get_or s (2 * v.i + 1) 0) =
    c.unwrap_or-low.ensures ∙ rw c.digit-in-loop-i.ensures (digit-or 16 (get_or s (2 * v.i + 1) 0) next.1) in
    record {
      half = omega arith;
      room = v.invariant.room;
      len = simp length-set v.invariant.len;
      digits = next.2;
      bytes =
          rw (high, low)
          (store-one v.out v.i (digit_of (get_or s (2 * v.i) 0) * 16 + digit_of (get_or s (2 * v.i + 1) 0)) (pairs (drop (2 * (v.i + 1)) s)))
          ∙ rw (pairs-more s v.i (omega arith)) at v.invariant.bytes;
    }

pub returns : goal.returns
returns c =
    let s = c.args.s.now in
    let v = c.loop-i in
    rw (pairs-done s v.i (omega arith)) at v.invariant.bytes
    ∙ rw zero-add at (sets-eq (pairs s) c.args.out.now 0 (rw zero-add c.requires.s_in_bounds))
