use mathlib.Core.Path.{sym, ◌∙◌}
use lib.ListN.{length}
use Rattle.text.proofs.Putter.{put-more, place-more, put-done, place-done}
use Rattle.text.proofs.put_text.Goals as goal

pub loop-b-preserved : goal.loop-b-preserved
loop-b-preserved c =
    let a = c.args in
    let v = c.loop-b in
    record {
      len = c.put-to.auto.out ∙ v.invariant.len;
      place =
          rw (c.put-to.ensures.place, v.invariant.len) (place-more a.text.now v.b-index (length a.out.now) v.to c.loop-b-test.true)
          ∙ v.invariant.place;
      bytes =
          rw (c.put-to.ensures.place, c.put-to.ensures.bytes) (put-more a.text.now v.b-index v.out v.to c.loop-b-test.true)
          ∙ v.invariant.bytes;
    }

pub returns : goal.returns
returns c =
    let a = c.args in
    let v = c.loop-b in
    record {
      place = sym (place-done a.text.now v.b-index (length a.out.now) v.to c.loop-b-test.false) ∙ v.invariant.place;
      bytes = sym (put-done a.text.now v.b-index v.out v.to c.loop-b-test.false) ∙ v.invariant.bytes;
    }
