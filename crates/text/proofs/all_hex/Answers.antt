use Rattle.text.proofs.Digits.{none-digit, some-digit, digits-stop, digits_more, digits-done}
use Rattle.std.proofs.Common.{◌≡◌, true, false, is_none, get_or, sym, ◌∙◌}
use Rattle.text.specs.Numerals.{digit_in}
use Rattle.text.proofs.all_hex.Goals as goal

pub returns-then-is_none : goal.returns-then-is_none
returns-then-is_none c =
    let s = c.args.s.now in
    let i = c.loop-b.b-index in
    let none : is_none (digit_in 16 (get_or s i 0)) ≡ true = rw (← c.digit.ensures, c.is_none.ensures, c.if-is_none.true) in
    sym (c.loop-b.invariant ∙ digits-stop 16 s i c.loop-b-test.true (none-digit 16 (get_or s i 0) none))

pub loop-b-preserved : goal.loop-b-preserved
loop-b-preserved c =
    let s = c.args.s.now in
    let i = c.loop-b.b-index in
    let some : is_none (digit_in 16 (get_or s i 0)) ≡ false = rw (← c.digit.ensures, c.is_none.ensures, c.if-is_none.false) in
    c.loop-b.invariant ∙ digits_more 16 s i c.loop-b-test.true (some-digit 16 (get_or s i 0) some)

pub returns : goal.returns
returns c = sym (c.loop-b.invariant ∙ digits-done 16 c.args.s.now c.loop-b.b-index c.loop-b-test.false)
