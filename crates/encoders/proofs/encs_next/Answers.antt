use Rattle.std.proofs.Common.{◌≡◌, ℕ, min, length, arith, rules}
use Rattle.std.specs.List.{fold}
use Rattle.std.proofs.lemmas.Iterator.{YieldsList-from_slice}
use Rattle.std.proofs.lemmas.Iterator.Consumers.{fold_from_yields_List}
use Rattle.base.proofs.Spread.{spread}
use Rattle.encoders.specs.Encoder.{enc_new, enc_of, enc_next}
use Rattle.encoders.specs.declared.Enc.{Enc}
use Rattle.encoders.proofs.encs_next.Goals as goal

min_self : (a : ℕ) → min a a ≡ a
min_self a = omega arith

min_assoc : (a b c : ℕ) → min (min a b) c ≡ min a (min b c)
min_assoc a b c = omega arith

in_turn : (a b c d e f g h : ℕ)
    → min (min (min (min (min (min (min (min a a) b) c) d) e) f) g) h ≡ min (min (min a b) (min c d)) (min (min e f) (min g h))
in_turn a b c d e f g h = rw (min_self a) (simp min_assoc)

pub returns : goal.returns
returns c =
    let eight : length c.args.e ≡ 8 = search (rules, c.well_formed) in
    let e : c.fold.result ≡ fold (λ (first : ℕ) (x : Enc). min first (enc_next x)) (enc_next (enc_of c.args.e 0)) c.args.e =
    fold_from_yields_List _ (λ first x. min first (enc_next x)) _ c.fold.result (rw c.next_event.ensures at c.fold.ensures.ran) (YieldsList-from_slice c.args.e cc) (λ a x b q k. search rules) in
    rw (e, spread enc_new 8 c.args.e eight) (in_turn _ _ _ _ _ _ _ _)
