use Rattle.std.proofs.Common.{◌≡◌, ℕ, min, length, arith, rules}
use Rattle.std.specs.List.{fold}
use Rattle.std.proofs.lemmas.Iterator.{YieldsList-from_slice}
use Rattle.std.proofs.lemmas.Iterator.Consumers.{fold_from_yields_List}
use Rattle.base.proofs.Spread.{spread}
use Rattle.timers.specs.Timer.{no_tmr, tmr_of}
use Rattle.timers.specs.declared.timer.Tmr.{Tmr}
use Rattle.timers.proofs.timer.tmrs_next.Goals as goal

in_turn : (a b c d : ℕ) → min (min (min (min a a) b) c) d ≡ min a (min b (min c d))
in_turn a b c d = omega arith

pub returns : goal.returns
returns c =
    let four : length c.args.t ≡ 4 = search (rules, c.well_formed) in
    let e : c.fold.result ≡ fold (λ (first : ℕ) (x : Tmr). min first x.next) (tmr_of c.args.t 0).next c.args.t =
    fold_from_yields_List _ (λ first x. min first x.next) _ c.fold.result c.fold.ensures.ran (YieldsList-from_slice c.args.t cc) (λ a x b q k. search rules) in
    rw (e, spread no_tmr 4 c.args.t four) (in_turn _ _ _ _)
