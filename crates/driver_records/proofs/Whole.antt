-- An input that lies in memory as a whole: where its lines have room, they are put, all of them and nothing else.
use mathlib.Core.Path.{◌≡◌, refl, sym, ◌∙◌, ap}
use mathlib.Core.Bool.{Bool, true, false, ◌&&◌}
use mathlib.Core.List.{List, [], append-nil}
use Prim.Native.Nat.{ℕ, ◌-◌, ◌≤◌}
use native.Mathlib.Omega.{arith}
use borrow.Author.Tests.{le-leb}
use lib.ListN.{length, take}
use Rattle.driver_carry.specs.Carry.{Bench}
use Rattle.driver_records.specs.Records.{lines_from, driver_lines, goes_on, Lined}

-- by what `put_lines` ensures, for any input from its first byte on
module _ (h : Bench) (input : List ℕ) (h' : Bench) (passed : ℕ) (out : List ℕ) (put : ℕ) where
  pub whole-input : (ended : Bool) → Lined h input 0 true h' passed out put ended → goes_on ended (length input - passed) true (length out - put) ≡ false
      → 116 ≤ length out - put → take put out ≡ driver_lines h input
  whole-input true l stops room =
      sym (append-nil (take put out)) ∙ l.lines [] (λ e. refl) ∙ ap (λ (s : List ℕ). lines_from h s 0) (append-nil input)
  whole-input false l stops room =
      let no : true ≡ false = sym (ap (λ (b : Bool). b && true) (le-leb 116 (length out - put) room)) ∙ stops in
      absurd (let q : ◌≡◌ {A = ℕ} 0 1 = cc in omega arith)
