-- Words and entries that look the same go on looking the same: a step answers the same over either, and a push of the same entry keeps it so. What is proved of the script as entries holds of it as words.
use mathlib.Core.Path.{◌≡◌, refl, sym, ◌∙◌, subst}
use mathlib.Core.Bool.{Bool, true, false, cond}
use mathlib.Core.List.{List}
use Prim.Native.Nat.{ℕ, ◌+◌, ◌*◌, ◌<◌}
use native.Mathlib.Omega.{arith}
use borrow.Author.Tests.{eqb-true, eqb-false}
use lib.Dec.{eqb}
use lib.ListN.{length, length-set, set}
use lib.Seq.{get_or-set_same, get_or-set_other}
use Rattle.records.specs.Values.{FitsAction}
use Rattle.records.specs.declared.Action.{Action}
use Rattle.script.proofs.Words.{word_back}
use Rattle.script.specs.Entries.{no_entry, entries_at}
use Rattle.script.specs.Words.{word_of, entry_of, words_at, places_in}
use Rattle.script.specs.declared.Entry.{Entry}
use Rattle.state.specs.declared.Board.{Board}
use Rattle.step.specs.Step.{ran}
use Rattle.step.specs.declared.Spot.{Spot}
use Rattle.board_words.specs.Words.{stored_words}

pub record Looks (ys : List Entry) (ws : List ℕ) : Type 0 where
  pub places : places_in ws ≡ length ys
  pub entries : (i : ℕ) → words_at ws i ≡ entries_at ys i

pub same_step : (ys : List Entry) (ws : List ℕ) → Looks ys ws → (b : Board) (cycles : ℕ) (q o : List ℕ)
    → ran b cycles (words_at ws) (places_in ws) q o ≡ ran b cycles (entries_at ys) (length ys) q o
same_step ys ws l b cycles q o = λ j. ran b cycles (λ (i : ℕ). l.entries i j) (l.places j) q o

module _ (ys : List Entry) (ws : List ℕ) (l : Looks ys ws) (p at w : ℕ) (ly : p < length ys) (lw : 2 * p + 1 < length ws) where
  abbrev ws' : List ℕ
  ws' = set (set ws (2 * p) at) (2 * p + 1) w

  abbrev ys' : List Entry
  ys' = set ys p (entry_of at w)

  both : {a a' v v' : ℕ} → a ≡ a' → v ≡ v' → entry_of a v ≡ entry_of a' v'
  both e f = λ j. entry_of (e j) (f j)

  -- a store at p, seen at p and elsewhere
  here : words_at ws' p ≡ entries_at ys' p
  here =
      both (get_or-set_other (set ws (2 * p) at) (2 * p + 1) (2 * p) w 0 (λ z. omega arith) ∙ get_or-set_same ws (2 * p) at 0 (omega arith))
      (get_or-set_same (set ws (2 * p) at) (2 * p + 1) w 0 (subst (λ (m : ℕ). 2 * p + 1 < m) (sym (length-set ws (2 * p) at)) lw))
      ∙ sym (get_or-set_same ys p (entry_of at w) no_entry ly)

  there : (i : ℕ) → (i ≡ p → ⊥) → words_at ws' i ≡ entries_at ys' i
  there i ne =
      both (get_or-set_other (set ws (2 * p) at) (2 * p + 1) (2 * i) w 0 (λ z. omega arith) ∙ get_or-set_other ws (2 * p) (2 * i) at 0 (λ z. ne (omega arith)))
      (get_or-set_other (set ws (2 * p) at) (2 * p + 1) (2 * i + 1) w 0 (λ z. ne (omega arith)) ∙ get_or-set_other ws (2 * p) (2 * i + 1) at 0 (λ z. omega arith))
      ∙ (l.entries i ∙ sym (get_or-set_other ys p i (entry_of at w) no_entry ne))

  seen : (t : Bool) (i : ℕ) → eqb i p ≡ t → words_at ws' i ≡ entries_at ys' i
  seen true i e = subst (λ (k : ℕ). words_at ws' k ≡ entries_at ys' k) (sym (eqb-true i p e)) here
  seen false i e = there i (eqb-false i p e)

  pub stored-looks : Looks ys' ws'
  stored-looks =
      record {
        places = rw (length-set (set ws (2 * p) at) (2 * p + 1) w, length-set ws (2 * p) at, length-set ys p (entry_of at w)) l.places;
        entries = λ i. seen (eqb i p) i refl;
      }

-- the action as the words tell it is the action
pub entry-back : (at : ℕ) (action : Action) → FitsAction action → entry_of at (word_of action) ≡ record { at = at; action = action }
entry-back at action fits = λ j. record { at = at; action = word_back action fits j }

-- a push of the same entry, into its spot
pub same-push : (ys : List Entry) (ws : List ℕ) → Looks ys ws → (s : Spot) → s.place < length ys → 2 * s.place + 1 < length ws → (at : ℕ) (action : Action) → FitsAction action
    → Looks (cond s.ok (set ys s.place (record { at = at; action = action })) ys) (stored_words s ws at (word_of action))
same-push ys ws l s ly lw at action fits =
    subst (λ (e : Entry). Looks (cond s.ok (set ys s.place e) ys) (stored_words s ws at (word_of action))) (entry-back at action fits) (go s.ok)
  where
    go : (t : Bool) → Looks (cond t (set ys s.place (entry_of at (word_of action))) ys) (cond t (set (set ws (2 * s.place) at) (2 * s.place + 1) (word_of action)) ws)
    go true = stored-looks ys ws l s.place at (word_of action) ly lw
    go false = l
