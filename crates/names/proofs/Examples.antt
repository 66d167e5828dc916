-- MIDI's key numbers against the keyboard's ids, and names worked out.
use mathlib.Core.Path.{◌≡◌, refl, ap}
use Rattle.std.specs.Prelude.{Option, Some, None}
use Prim.Native.Nat.{ℕ, ◌+◌, ◌-◌, ◌≤◌}
use native.Mathlib.Omega.{arith}
use borrow.Author.Tests.{le-leb}
use Rattle.names.specs.Ascii.{bytes, uppers}
use Rattle.names.specs.Words.{starts_with, look_up}
use Rattle.names.specs.Numbers.{digits_after, digits, number_of, numbered}
use Rattle.names.specs.Midi.{semitone_of, after_letter, note_number, key_of_number}
use Rattle.names.specs.Names.{key_of, key_id_of}

-- the ids 14 to 40 are the key numbers 53 to 79, in order
pub id-of-number : (id : ℕ) → 14 ≤ id → id ≤ 40 → key_of_number (id - 14 + 53) ≡ Some id
unfolding key_of_number
id-of-number id l h =
    rw (le-leb 53 (id - 14 + 53) (omega arith), le-leb (id - 14 + 53) 79 (omega arith)) (ap {B = Option ℕ} Some (omega arith))

pub c4-is-middle-c : note_number (bytes "C4") ≡ Some 60
unfolding note_number semitone_of after_letter number_of digits digits_after
c4-is-middle-c = refl

pub f3-is-the-first : note_number (bytes "F3") ≡ Some 53
unfolding note_number semitone_of after_letter number_of digits digits_after
f3-is-the-first = refl

pub g5-is-the-last : note_number (bytes "G5") ≡ Some 79
unfolding note_number semitone_of after_letter number_of digits digits_after
g5-is-the-last = refl

pub record Worked : Type 0 where
  pub flat : key_id_of (bytes "bb4") ≡ Some 31
  pub natural : key_id_of (bytes "B4") ≡ Some 32
  pub last : key_id_of (bytes "G5") ≡ Some 40
  pub past : key_id_of (bytes "G#5") ≡ None
  pub enharmonic : key_id_of (bytes "E#3") ≡ Some 14
  pub plus : key_id_of (bytes "K+5") ≡ Some 5
  pub beyond : key_id_of (bytes "K41") ≡ None
  -- the source's note sum wraps, and gives 14
  pub huge : key_id_of (bytes "F1073741827") ≡ None

pub worked : Worked
unfolding key_id_of key_of uppers look_up starts_with numbered number_of digits digits_after note_number semitone_of after_letter key_of_number
worked =
    record {
      flat = refl;
      natural = refl;
      last = refl;
      past = refl;
      enharmonic = refl;
      plus = refl;
      beyond = refl;
      huge = refl;
    }
