-- The spot that `placed` gives lies within the words.
use Rattle.std.proofs.Common.{ℕ, arith, length-set}
use Rattle.board_words.proofs.Turns.{spot-within}
use Rattle.board_words.proofs.push.Goals as goal

pub overflow_mul-at : goal.overflow_mul-at
overflow_mul-at c = let h = spot-within c.args.b c.args.script.now c.args.time c.look-front.result c.look-front.ensures c.placed-s.result c.placed-s.ensures c.if-s.true in record { fits = omega (arith, h) }

pub offset_bounds-script-at : goal.offset_bounds-script-at
offset_bounds-script-at c = let h = spot-within c.args.b c.args.script.now c.args.time c.look-front.result c.look-front.ensures c.placed-s.result c.placed-s.ensures c.if-s.true in record { fits = omega (arith, h) }

pub bounds-script-at : goal.bounds-script-at
bounds-script-at c = let h = spot-within c.args.b c.args.script.now c.args.time c.look-front.result c.look-front.ensures c.placed-s.result c.placed-s.ensures c.if-s.true in omega (arith, h)

pub overflow_add-script : goal.overflow_add-script
overflow_add-script c = let h = spot-within c.args.b c.args.script.now c.args.time c.look-front.result c.look-front.ensures c.placed-s.result c.placed-s.ensures c.if-s.true in record { fits = omega (arith, h) }

pub offset_bounds-script-at-then-s : goal.offset_bounds-script-at-then-s
offset_bounds-script-at-then-s c = let h = spot-within c.args.b c.args.script.now c.args.time c.look-front.result c.look-front.ensures c.placed-s.result c.placed-s.ensures c.if-s.true in record { fits = omega (arith, h) }

pub bounds-script-at-then-s : goal.bounds-script-at-then-s
bounds-script-at-then-s c = let h = spot-within c.args.b c.args.script.now c.args.time c.look-front.result c.look-front.ensures c.placed-s.result c.placed-s.ensures c.if-s.true in omega (arith, length-set {A = ℕ}, h)
