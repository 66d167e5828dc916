-- The spot that `placed` gives lies within the entries.
use Rattle.std.proofs.Common.{◌≡◌, ◌<◌, ℕ, true, sym, ◌∙◌, ap, subst, arith}
use Rattle.script.specs.declared.Front.{Front}
use Rattle.state.specs.declared.Board.{Board}
use Rattle.step.proofs.Turns.{placed-within}
use Rattle.step.specs.Step.{placed_of}
use Rattle.step.specs.declared.Spot.{Spot}
use Rattle.board_entries.proofs.push.Goals as goal

within : (b : Board) (f : Front) (at : ℕ) (s : Spot) → s ≡ placed_of b f at → s.ok ≡ true → s.place < f.len
within b f at s e = subst (λ (x : Spot). x.ok ≡ true → x.place < f.len) (sym e) (placed-within b f at)

pub offset_bounds-script-s : goal.offset_bounds-script-s
offset_bounds-script-s c = let h = within c.args.b c.look-f.result c.args.time c.placed-s.result c.placed-s.ensures c.if-s.true in let n = ap (λ (f : Front). f.len) c.look-f.ensures in record { fits = omega (arith, h, n) }

pub bounds-script-s : goal.bounds-script-s
bounds-script-s c = let h = within c.args.b c.look-f.result c.args.time c.placed-s.result c.placed-s.ensures c.if-s.true in let n = ap (λ (f : Front). f.len) c.look-f.ensures in omega (arith, h, n)
