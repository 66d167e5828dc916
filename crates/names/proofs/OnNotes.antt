-- Octaves from 10 on have no key.
use mathlib.Core.Path.{◌≡◌, refl, ap}
use Rattle.std.specs.Prelude.{Option, None, Some, option_and_then}
use mathlib.Core.Bool.{Bool, true, false, ◌&&◌}
use mathlib.Core.Logic.{◌⊎◌, inl, inr}
use mathlib.Core.List.{List, ◌∷◌}
use Prim.Native.Nat.{ℕ, ◌+◌, ◌≤◌, ◌<◌}
use native.Mathlib.Omega.{arith}
use borrow.Author.Tests.{le-leb, lt-leb, eq-eqb, ne_eqb}
use Rattle.names.specs.Numbers.{among, number_of, digits}
use Rattle.names.specs.Midi.{key_number, key_of_number, in_octave, after_letter, note_number, semitone_of}
use Rattle.std.specs.Char.{to_ascii_uppercase}
use Rattle.std.proofs.lemmas.List.{nil_from_length}
use lib.ListN.{length}
use Rattle.names.specs.Ascii.{uppers}
use Rattle.names.proofs.OnBytes.{uppers_length}
use Rattle.names.proofs.OnNumbers.{in-range, not-in-range}

pub past-the-last : (number : ℕ) → 79 < number → key_of_number number ≡ None
unfolding key_of_number
past-the-last number h = rw (le-leb 53 number (omega arith), lt-leb number 79 h)

pub octave-found : (o : Option ℕ) {k : ℕ} → option_and_then (among 10 0) o ≡ Some k → o ≡ Some k
octave-found (Some j) {k} e = let p : (j < 10) × (0 + j ≡ k) = in-range 10 0 j e in ap {B = Option ℕ} Some (omega arith)
octave-found None {k} e = e

pub octave_past : (semitone sharp flat : ℕ) (o : Option ℕ) → flat ≤ 1 → option_and_then (among 10 0) o ≡ None
    → option_and_then key_of_number (option_and_then (λ k. Some (key_number k semitone sharp flat)) o) ≡ None
octave_past semitone sharp flat (Some j) f e =
    let h : 10 ≤ j = not-in-range 10 0 j e in past-the-last (key_number j semitone sharp flat) (omega arith)
octave_past semitone sharp flat None f e = refl

-- ---- after the letter

and-false-is : (b : Bool) → (b && false) ≡ false
and-false-is true = refl
and-false-is false = refl

module _ (letter semitone : ℕ) where
  pub nothing_read : (rest : List ℕ) → length rest ≡ 0 → option_and_then key_of_number (after_letter (letter ∷ uppers rest) semitone) ≡ None
  unfolding after_letter uppers number_of digits
  nothing_read rest e = rw (nil_from_length rest e)

  module _ (sign : ℕ) (octave : List ℕ) where
    pub sharp_read : to_ascii_uppercase sign ≡ 35 → after_letter (letter ∷ uppers (sign ∷ octave)) semitone ≡ in_octave semitone 1 0 (uppers octave)
    unfolding after_letter uppers
    sharp_read e = rw e

    pub flat_read : to_ascii_uppercase sign ≡ 66 → length octave ≡ 1
        → after_letter (letter ∷ uppers (sign ∷ octave)) semitone ≡ in_octave semitone 0 1 (uppers octave)
    unfolding after_letter uppers
    flat_read e h = rw (e, eq-eqb (length (letter ∷ uppers (sign ∷ octave))) 3 (omega (arith, uppers_length octave)))

    -- neither, or no flat by its byte or by its length
    pub natural_read : (to_ascii_uppercase sign ≡ 35 → ⊥) → (to_ascii_uppercase sign ≡ 66 → ⊥) ⊎ (length octave ≡ 1 → ⊥)
        → after_letter (letter ∷ uppers (sign ∷ octave)) semitone ≡ in_octave semitone 0 0 (uppers (sign ∷ octave))
    unfolding after_letter uppers
    natural_read h (inl g) = rw (ne_eqb (to_ascii_uppercase sign) 35 h, ne_eqb (to_ascii_uppercase sign) 66 g)
    natural_read h (inr g) =
        rw (
          ne_eqb (to_ascii_uppercase sign) 35 h,
          ne_eqb (length (letter ∷ uppers (sign ∷ octave))) 3 (λ e. g (omega (arith, e, uppers_length octave))),
          and-false-is,
        )

pub no_note : (name : List ℕ) → length name ≡ 0 → option_and_then key_of_number (note_number (uppers name)) ≡ None
unfolding note_number semitone_of uppers
no_note name e = rw (nil_from_length name e)

pub no_letter : (letter : ℕ) (rest : List ℕ) → semitone_of (to_ascii_uppercase letter) ≡ None
    → option_and_then key_of_number (note_number (uppers (letter ∷ rest))) ≡ None
unfolding note_number uppers
no_letter letter rest e = rw e

pub letter_of_note : (letter : ℕ) (rest : List ℕ) {semitone : ℕ} → semitone_of (to_ascii_uppercase letter) ≡ Some semitone
    → note_number (uppers (letter ∷ rest)) ≡ after_letter (to_ascii_uppercase letter ∷ uppers rest) semitone
unfolding note_number uppers
letter_of_note letter rest e = rw e
