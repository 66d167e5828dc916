use Rattle.text.proofs.Digits.{none-decimal, not-decimal, overflows, too_large, is-decimal, digit-is, no_digit, digits-stop, digits_more, digits-done, value-more, value-done}
use Rattle.std.proofs.Common.{rules, arith, ◌≡◌, ◌≤◌, ◌+◌, ◌*◌, ◌^◌, get_or, sym, ◌∙◌}
use Rattle.text.specs.Numerals.{digit_of}
use Rattle.text.proofs.decimal.Goals as goal

pub returns-then-is_empty : goal.returns-then-is_empty
returns-then-is_empty c = none-decimal c.args.s.now (search rules)

pub returns-in_err-d : goal.returns-in_err-d
returns-in_err-d c =
    let s = c.args.s.now in
    let v = c.loop-b in
    let none : 10 ≤ digit_of (get_or s v.b-index 0) = no_digit 10 (get_or s v.b-index 0) (sym (c.in_err-d.was) ∙ c.digit.ensures) in
    let h = not-decimal s v.invariant.some (v.invariant.digits ∙ digits-stop 10 s v.b-index c.loop-b-test.true none) in
    cc

pub returns-in_err-checked_mul : goal.returns-in_err-checked_mul
returns-in_err-checked_mul c =
    let s = c.args.s.now in
    let v = c.loop-b in
    let large : 2 ^ 64 ≤ v.n * 10 = search rules in
    let h = too_large s v.invariant.some (rw v.invariant.value (overflows s v.b-index v.n c.loop-b-test.true (omega (arith, large)))) in
    cc

pub returns-in_err-n : goal.returns-in_err-n
returns-in_err-n c =
    let s = c.args.s.now in
    let v = c.loop-b in
    let d = digit-is 10 (get_or s v.b-index 0) c.in_ok-d.d (sym (c.in_ok-d.was) ∙ c.digit.ensures) in
    let m = c.in_ok-checked_mul.ensures in
    let large : 2 ^ 64 ≤ v.n * 10 + digit_of (get_or s v.b-index 0) = omega (arith, d.0, m, c.from.ensures, c.in_err-n.ensures) in
    let h = too_large s v.invariant.some (rw v.invariant.value (overflows s v.b-index v.n c.loop-b-test.true large)) in
    cc

pub loop-b-preserved : goal.loop-b-preserved
loop-b-preserved c =
    let s = c.args.s.now in
    let v = c.loop-b in
    let d = digit-is 10 (get_or s v.b-index 0) c.in_ok-d.d (sym (c.in_ok-d.was) ∙ c.digit.ensures) in
    let m = c.in_ok-checked_mul.ensures in
    let n = c.in_ok-n.ensures in
    let sum : c.in_ok-n.n ≡ v.n * 10 + digit_of (get_or s v.b-index 0) = omega (arith, d.0, m, n, c.from.ensures) in
    record {
      some = v.invariant.some;
      fits = omega arith;
      digits = v.invariant.digits ∙ digits_more 10 s v.b-index c.loop-b-test.true (omega (arith, d.0, d.1));
      value = rw sum (v.invariant.value ∙ value-more 10 s v.b-index c.loop-b-test.true v.n);
    }

pub returns : goal.returns
returns c =
    let s = c.args.s.now in
    let v = c.loop-b in
    let value = v.invariant.value ∙ value-done 10 s v.b-index v.n c.loop-b-test.false in
    rw (← value)
    (is-decimal s v.invariant.some (v.invariant.digits ∙ digits-done 10 s v.b-index c.loop-b-test.false) (rw value v.invariant.fits))
