-- A turn of the script's loop, by what its two ways have done.
use mathlib.Core.Path.{◌≡◌, refl, sym, ◌∙◌, ap, subst}
use mathlib.Core.Bool.{Bool, true, false}
use mathlib.Core.List.{List}
use Prim.Native.Nat.{ℕ, ◌+◌, ◌<◌, ◌^◌}
use native.Mathlib.Omega.{arith}
use lib.Dec.{ltb}
use lib.ListN.{length}
use Rattle.keys.specs.Facts.{RampsShort}
use Rattle.records.specs.Encoded.{answer_of, written_of}
use Rattle.std.specs.Prelude.{Option}
use Rattle.std.specs.Option.{unwrap_or}
use Rattle.script.specs.Script.{looked_of, taken_of, next_place}
use Rattle.script.specs.declared.Entry.{Entry}
use Rattle.script.specs.declared.Script.{Script}
use Rattle.state.proofs.Kept.{sound-short}
use Rattle.state.specs.Whole.{ChipOk}
use Rattle.state.specs.With.{with_script}
use Rattle.state.specs.declared.Board.{Board}
use Rattle.state.specs.declared.Chip.{Chip}
use Rattle.state.specs.declared.Panel.{Panel}
use Rattle.step.proofs.Applied.{applied-script}
use Rattle.step.proofs.Loop.{Loop, Right, left, again, sooner}
use Rattle.step.proofs.Turns.{shorter-kept, has_room}
use Rattle.step.specs.Apply.{board_of, apply_of, apply_in}
use Rattle.step.specs.Step.{Ready, shorter, record_of, taken_by, turned_of, queue_of, out_of, Ran}
use Rattle.step.specs.declared.Going.{Going}
use Rattle.uart.specs.Uart.{queue_bytes}
use Rattle.driver_turns.specs.Held.{going_by}

-- ---- the loop, by a turn at the entry that was read

module _ (look : ℕ → Entry) (n : ℕ) (q₀ o₀ : List ℕ) (goal z : Ran) (l : Loop look n q₀ o₀ goal z) (on : z.0.on ≡ true) (e : Entry) (is : e ≡ look z.0.place) where
  pub goes_on_lem : (z' : Ran) → Right z.0 e z.1.0 z.1.1 z'.0 z'.1.0 z'.1.1 → Loop look n q₀ o₀ goal z'
  goes_on_lem z' right =
      again look n q₀ o₀ goal z z' l on (subst (λ (x : Entry). Right z.0 x z.1.0 z.1.1 z'.0 z'.1.0 z'.1.1) is right)

  pub fewer : (r : Going) → r ≡ turned_of z.0 e → left r < left z.0
  fewer r right = sooner look n q₀ o₀ goal z r l on (right ∙ ap (turned_of z.0) is)

-- ---- a turn, by its way

module _ (c : Chip) (p : Panel) (written applied : ℕ) (on : Bool) (e : Entry) (q o : List ℕ) where
  abbrev g : Going
  g = going_by c p written applied on

  -- later than the clock: noted
  pub noted-turn : ltb c.clock.cycles e.at ≡ true → (s : Script) → s ≡ looked_of c.script e.at → Right g e q o (going_by (with_script c s) p written applied false) q o
  unfolding turned_of queue_of out_of
  noted-turn late s is = rw (late, is) (refl, refl, refl)

  module _ (r : Ready g (length q) (length o)) (s : Script) (is : s ≡ taken_of c.script) where
    shorter-is : board_of (with_script c s) p ≡ shorter g
    shorter-is = ap (λ (x : Script). board_of (with_script c x) p) is

    pub act-ready : ChipOk (with_script c s) × RampsShort p.ramps × (length q ≡ queue_bytes) × (c.uart.dropped < 2 ^ 63)
    act-ready =
        let k = shorter-kept g r.sound in
        (subst (λ (b : Board). ChipOk b.chip) (sym shorter-is) k.chip, sound-short (shorter g) k, r.lent, omega (arith, r.lost))

    -- due: taken, applied and written
    module _ (due : ltb c.clock.cycles e.at ≡ false) (d : Chip) (p' : Panel) (q' o' : List ℕ) (w : Option ℕ) (next : ℕ)
        (acted : board_of d p' ≡ apply_of (board_of (with_script c s) p) e.action) (offered : q' ≡ apply_in (board_of (with_script c s) p) e.action q)
        (wrote : w ≡ answer_of o written (record_of e)) (told : o' ≡ written_of o written (record_of e)) (reached : next ≡ unwrap_or w written) where
      board-is : board_of d p' ≡ apply_of (shorter g) e.action
      board-is = acted ∙ ap (λ (b : Board). apply_of b e.action) shorter-is

      room : unwrap_or (answer_of o written (record_of e)) written ≡ written + length (record_of e)
      room = rw (has_room g e (length q) (length o) r)

      written_is : next ≡ written + length (record_of e)
      written_is = reached ∙ ap (λ (x : Option ℕ). unwrap_or x written) wrote ∙ room

      place_is : d.script.place ≡ next_place c.script
      place_is = ap (λ (b : Board). b.chip.script.place) board-is ∙ ap (λ (x : Script). x.place) (applied-script (shorter g) e.action)

      count_is : d.script.count ≡ (taken_of c.script).count
      count_is = ap (λ (b : Board). b.chip.script.count) board-is ∙ ap (λ (x : Script). x.count) (applied-script (shorter g) e.action)

      going-is : going_by d p' next (applied + 1) (ltb 0 d.script.count) ≡ taken_by g e
      going-is = λ i. record {
        board = board-is i;
        audio_half = g.audio_half;
        uart_rx = g.uart_rx;
        written = written_is i;
        place = place_is i;
        applied = applied + 1;
        refused = 0;
        usb_frame = g.usb_frame;
        wdt = g.wdt;
        on = ltb 0 (count_is i);
        served = g.served;
      }

      pub taken-turn : Right g e q o (going_by d p' next (applied + 1) (ltb 0 d.script.count)) q' o'
      unfolding turned_of queue_of out_of
      taken-turn = rw due (going-is, offered ∙ ap (λ (b : Board). apply_in b e.action q) shorter-is, told)
