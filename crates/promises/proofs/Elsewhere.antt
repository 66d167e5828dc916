-- A call that is turned away leaves the record, whatever memory it was lent: a run with such calls is the run without them.
use mathlib.Core.List.{[], ◌∷◌}
use mathlib.Core.Path.{◌≡◌, refl, ap, ◌∙◌, subst}
use Rattle.midi_laws.specs.Machine.{final}
use Rattle.promises.specs.Elsewhere.{call, elsewhere, lending, moved, Away, calls_in, SameRun}
use Rattle.promises.specs.Refusals.{refusal_of}
use Rattle.promises.specs.Run.{Held, Call, with_board, exec}
use Rattle.promises.proofs.Refusals.{turned-away}

stays : (k : Call) (s m : Held) → (refusal_of k (lending s m) ≡ 0 → ⊥) → moved (elsewhere k m) s ≡ s
stays k s m h = ap (λ (t : Held). with_board s t.board) (turned-away k (lending s m) h).0

pub same-run : SameRun
unfolding final Away calls_in
same-run s [] a = refl
same-run s (call k ∷ l) a = same-run (exec k s) l a
same-run s (elsewhere k m ∷ l) a =
    ap (λ (t : Held). final moved t l) (stays k s m a.0) ∙ same-run s l (subst (λ (t : Held). Away t l) (stays k s m a.0) a.1)
