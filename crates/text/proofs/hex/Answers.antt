use Rattle.text.proofs.Digits.{none-hex, too_many, too-many-for-64, not-hex, is-hex, hex-fits, digit-is, no_digit, digits-stop, digits_more, digits-done, value-more, value-done}
use Rattle.std.proofs.Common.{rules, arith, ◌≡◌, ◌≤◌, get_or, sym, ◌∙◌}
use Rattle.text.specs.Numerals.{digit_of}
use Rattle.text.proofs.hex.Goals as goal

pub returns-then-is_empty : goal.returns-then-is_empty
returns-then-is_empty c = none-hex c.args.s.now c.args.most (search rules)

pub returns-then-most-s : goal.returns-then-most-s
returns-then-most-s c = too_many c.args.s.now (search rules) c.args.most c.if-most-s.true

pub returns-then-s-gt16 : goal.returns-then-s-gt16
returns-then-s-gt16 c = too-many-for-64 c.args.s.now (search rules) c.args.most c.if-most-s.false c.if-s-gt16.true

pub returns-in_err-d : goal.returns-in_err-d
returns-in_err-d c =
    let s = c.args.s.now in
    let v = c.loop-b in
    let none : 16 ≤ digit_of (get_or s v.b-index 0) = no_digit 16 (get_or s v.b-index 0) (sym (c.in_err-d.was) ∙ c.digit.ensures) in
    let h =
    not-hex s v.invariant.some c.args.most v.invariant.most v.invariant.sixteen
    (v.invariant.digits ∙ digits-stop 16 s v.b-index c.loop-b-test.true none) in
    cc

pub overflow_mul-n : goal.overflow_mul-n
overflow_mul-n c = omega (arith, hex-fits c.loop-b.b-index c.loop-b.n 0 c.loop-b.invariant.below (omega arith) (omega arith))

pub overflow_add-n : goal.overflow_add-n
overflow_add-n c =
    let d = digit-is 16 (get_or c.args.s.now c.loop-b.b-index 0) c.in_ok-d.d (sym (c.in_ok-d.was) ∙ c.digit.ensures) in
    omega (arith, d.1, c.from.ensures, hex-fits c.loop-b.b-index c.loop-b.n c.in_ok-d.d c.loop-b.invariant.below d.1 (omega arith))

pub loop-b-preserved : goal.loop-b-preserved
loop-b-preserved c =
    let s = c.args.s.now in
    let v = c.loop-b in
    let d = digit-is 16 (get_or s v.b-index 0) c.in_ok-d.d (sym (c.in_ok-d.was) ∙ c.digit.ensures) in
    let below = (hex-fits v.b-index v.n c.in_ok-d.d v.invariant.below d.1 (omega arith)).0 in
    let digit : c.from.result ≡ digit_of (get_or s v.b-index 0) = omega (arith, d.0, c.from.ensures) in
    record {
      some = v.invariant.some;
      most = v.invariant.most;
      sixteen = v.invariant.sixteen;
      below = rw c.from.ensures below;
      digits = v.invariant.digits ∙ digits_more 16 s v.b-index c.loop-b-test.true (omega (arith, d.0, d.1));
      value = rw digit (v.invariant.value ∙ value-more 16 s v.b-index c.loop-b-test.true v.n);
    }

pub returns : goal.returns
returns c =
    let s = c.args.s.now in
    let v = c.loop-b in
    let value = v.invariant.value ∙ value-done 16 s v.b-index v.n c.loop-b-test.false in
    rw (← value)
    (is-hex s v.invariant.some c.args.most v.invariant.most v.invariant.sixteen (v.invariant.digits ∙ digits-done 16 s v.b-index c.loop-b-test.false))
