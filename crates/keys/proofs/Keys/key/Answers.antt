use Rattle.std.proofs.Common.{◌≡◌, ◌*◌, ◌%◌, ◌^◌, ◌∙◌, sym, arith}
use native.Mathlib.Nat.{one-mul}
use Rattle.times.proofs.Quotients.{shifted}
use Rattle.keys.proofs.Presses.{key-none, key-stays, key-turns}
use Rattle.keys.proofs.Keys.key.Goals as goal

pub returns-then-id-ge41 : goal.returns-then-id-ge41
returns-then-id-ge41 c = key-none c.args.self c.args.ramps.now c.args.id c.args.now c.args.hz c.args.down c.if-id-ge41.true

pub returns-then-is_down-down : goal.returns-then-is_down-down
returns-then-is_down-down c = key-stays c.args.self c.args.ramps.now c.args.id c.args.now c.args.hz c.is_down.result c.args.down c.is_down.ensures c.if-id-ge41.false c.if-is_down-down.true

pub returns : goal.returns
returns c =
    let id = c.args.id in
    let l = c.if-id-ge41.false in
    let b : 1 * 2 ^ id % 2 ^ 64 ≡ 2 ^ id = shifted 1 1 id (omega arith) (omega arith) ∙ one-mul (2 ^ id) in
    let q = key-turns c.args.self c.args.ramps.now c.args.id c.args.now c.args.hz c.is_down.result c.args.down c.is_down.ensures l c.if-is_down-down.false in
    (rw (b) q.0, rw (sym q.1, sym c.goal.ensures, sym c.time_of.ensures) c.turn.ensures)
