-- A run hands on its memory untouched; a call that is turned away may have been lent other memory, and not of its lengths. Such calls are no part of a run: with them and without them it is the same, so
-- that every promise of runs holds of those too in which they occur.
use Rattle.std.specs.Prelude.{List, [], ◌∷◌, ◌≡◌}
use Rattle.midi_laws.specs.Machine.{final}
use Rattle.promises.specs.Refusals.{refusal_of}
use Rattle.promises.specs.Run.{Held, Call, with_board, exec}

pub data Move : Type 0 where
  call : Call → Move
  elsewhere : Call → Held → Move

-- the run's record with the memory of m
abbrev pub lending : Held → Held → Held
lending s m = record { board = s.board; queue = m.queue; script = m.script; places = m.places; icfg = m.icfg; icfg1 = m.icfg1 }

abbrev pub moved : Move → Held → Held
moved (call k) s = exec k s
moved (elsewhere k m) s = with_board s (exec k (lending s m)).board

-- each call that was made elsewhere was turned away
unfoldable pub Away : Held → List Move → Type 0
Away s [] = Unit {0}
Away s (call k ∷ l) = Away (exec k s) l
Away s (elsewhere k m ∷ l) = (refusal_of k (lending s m) ≡ 0 → ⊥) × Away (moved (elsewhere k m) s) l

-- the calls that were made with the run's memory
unfoldable pub calls_in : List Move → List Call
calls_in [] = []
calls_in (call k ∷ l) = k ∷ calls_in l
calls_in (elsewhere k m ∷ l) = calls_in l

abbrev pub SameRun : Type 0
SameRun = (s : Held) (l : List Move) → Away s l → final moved s l ≡ final exec s (calls_in l)
