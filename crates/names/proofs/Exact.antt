-- The definitions accept exactly the names of specs/Plain.antt, with their ids: what is accepted is such a name, and no such
-- name is refused.
use mathlib.Core.Path.{◌≡◌, refl, ap, ◌∙◌}
use mathlib.Core.Bool.{Bool, true, false, ◌&&◌, cond}
use mathlib.Core.Logic.{◌⊎◌, inl, inr, ⊎_elim}
use mathlib.Core.List.{List, [], ◌∷◌, ◌++◌}
use Rattle.std.specs.Prelude.{Option, None, Some, option_and_then}
use Rattle.std.specs.Option.{option_or}
use Rattle.names.proofs.OnAnswers.{some-injective, none-ne-some}
use Prim.Native.Nat.{ℕ, ◌+◌, ◌-◌, ◌≤◌, ◌<◌}
use native.Mathlib.Nat.{zero-add}
use native.Mathlib.Omega.{arith}
use borrow.Author.Tests.{eqb-true, ne_eqb, leb-true, le-leb}
use lib.Dec.{eqb, leb}
use lib.ListN.{length, get_or}
use Rattle.base.proofs.Flags.{and_left, and_right}
use Rattle.names.specs.Ascii.{bytes, uppers}
use Rattle.names.specs.Words.{starts_with, look_up}
use Rattle.names.specs.Numbers.{digits_after, digits, number_of, numbered}
use Rattle.names.specs.Midi.{key_number, semitone_of, in_octave, after_letter, note_number, key_of_number}
use Rattle.names.specs.Names.{buttons, key_of, key_id_of, encoders, enc_of, enc_id_of}
use Rattle.names.specs.Plain.{Numeral, Letter, Note, KeyName, EncName}
use Rattle.names.specs.Plain.Letter.{letter-C, letter-D, letter-E, letter-F, letter-G, letter-A, letter-B}
use Rattle.names.specs.Plain.Note.{natural, sharp, flat}
use Rattle.names.specs.Plain.KeyName.{button, key, note, note_key}
use Rattle.names.specs.Plain.EncName.{named, enc}
use Rattle.names.proofs.OnAnswers.{picked-some}
use Rattle.names.proofs.OnPlain.{first-of-numeral, numeral-read, numeral-of}
use Rattle.names.proofs.OnTables.{numbered_of, numbered-read, listed_of, listed-read, later-read, every, gives, is_none}

-- ---- notes

letter-read : {l t : ℕ} → Letter l t → semitone_of l ≡ Some t
unfolding semitone_of
letter-read letter-C = refl
letter-read letter-D = refl
letter-read letter-E = refl
letter-read letter-F = refl
letter-read letter-G = refl
letter-read letter-A = refl
letter-read letter-B = refl

-- a test of the letter, passed or not
letter-or : (l k x : ℕ) (o : Option ℕ) {t : ℕ} → Letter k x → (o ≡ Some t → Letter l t) → cond (eqb l k) (Some x) o ≡ Some t → Letter l t
letter-or l k x o {t} p later e = go (eqb l k) refl e
  where
    go : (b : Bool) → eqb l k ≡ b → cond b (Some x) o ≡ Some t → Letter l t
    go true q r = rw (eqb-true l k q, ← some-injective x t r) p
    go false q r = later r

letter-of : (l : ℕ) {t : ℕ} → semitone_of l ≡ Some t → Letter l t
unfolding semitone_of
letter-of l {t} =
    letter-or l _ _ _ letter-C
    (letter-or l _ _ _ letter-D
    (letter-or l _ _ _ letter-E
    (letter-or l _ _ _ letter-F
    (letter-or l _ _ _ letter-G
    (letter-or l _ _ _ letter-A
    (letter-or l _ _ _ letter-B
    (λ e. absurd (none-ne-some t e))))))))

note-read : {n : List ℕ} {number : ℕ} → Note n number → note_number n ≡ Some number
unfolding note_number after_letter
note-read (natural {s = s} l p) =
    let h : (35 < get_or s 0 0) × (get_or s 0 0 < 66) = first-of-numeral p in
    rw (letter-read l, ne_eqb (get_or s 0 0) 35 (λ q. omega arith), ne_eqb (get_or s 0 0) 66 (λ q. omega arith), numeral-read p)
note-read (sharp l p) = rw (letter-read l, numeral-read p)
note-read (flat l p) = rw (letter-read l, numeral-read p)

-- the octave of a note that was read
octave-of : (t sh fl : ℕ) (s : List ℕ) {number : ℕ} → in_octave t sh fl s ≡ Some number
    → (o : ℕ) × Numeral s o × (key_number o t sh fl ≡ number)
octave-of t sh fl s {number} e = go (number_of s) refl e
  where
    go : (o : Option ℕ) → number_of s ≡ o → option_and_then (λ k. Some (key_number k t sh fl)) o ≡ Some number
        → (o : ℕ) × Numeral s o × (key_number o t sh fl ≡ number)
    go (Some o) q r = (o, numeral-of s q, some-injective (key_number o t sh fl) number r)
    go None q r = absurd (none-ne-some number r)

natural-of : {l t : ℕ} (s : List ℕ) {number : ℕ} → Letter l t → in_octave t 0 0 s ≡ Some number → Note (l ∷ s) number
natural-of {l} {t} s p e = let r = octave-of t 0 0 s e in rw (← r.2) (natural p r.1)

sharp-of : {l t b : ℕ} (s : List ℕ) {number : ℕ} → Letter l t → b ≡ 35 → in_octave t 1 0 s ≡ Some number → Note (l ∷ b ∷ s) number
sharp-of {l} {t} s p q e = let r = octave-of t 1 0 s e in rw (q, ← r.2) (sharp p r.1)

flat-of : {l t b : ℕ} (s : List ℕ) {number : ℕ} → Letter l t → b ≡ 66 → length (l ∷ b ∷ s) ≡ 3 → in_octave t 0 1 s ≡ Some number
    → Note (l ∷ b ∷ s) number
flat-of [] p q h e = absurd (omega arith)
flat-of {l} {t} (x ∷ []) p q h e = let r = octave-of t 0 1 (x ∷ []) e in rw (q, ← r.2) (flat p r.1)
flat-of (x ∷ y ∷ s) p q h e = absurd (omega arith)

after-letter-of : {l t : ℕ} (s : List ℕ) {number : ℕ} → Letter l t → after_letter (l ∷ s) t ≡ Some number → Note (l ∷ s) number
unfolding after_letter
after-letter-of [] p e = natural-of [] p e
after-letter-of {l} {t} (b ∷ s) {number} p e = go (eqb b 35) refl (eqb b 66 && eqb (length (l ∷ b ∷ s)) 3) refl e
  where
    go : (x : Bool) → eqb b 35 ≡ x → (y : Bool) → (eqb b 66 && eqb (length (l ∷ b ∷ s)) 3) ≡ y
        → cond x (in_octave t 1 0 s) (cond y (in_octave t 0 1 s) (in_octave t 0 0 (b ∷ s))) ≡ Some number → Note (l ∷ b ∷ s) number
    go true q y w r = sharp-of s p (eqb-true b 35 q) r
    go false q true w r =
        flat-of s p (eqb-true b 66 (and_left (eqb b 66) (eqb (length (l ∷ b ∷ s)) 3) w))
        (eqb-true (length (l ∷ b ∷ s)) 3 (and_right (eqb b 66) (eqb (length (l ∷ b ∷ s)) 3) w)) r
    go false q false w r = natural-of (b ∷ s) p r

note-of : (n : List ℕ) {number : ℕ} → note_number n ≡ Some number → Note n number
unfolding note_number semitone_of
note-of [] {number} e = absurd (none-ne-some number e)
note-of (l ∷ s) {number} e = go (semitone_of l) refl e
  where
    go : (o : Option ℕ) → semitone_of l ≡ o → option_and_then (after_letter (l ∷ s)) o ≡ Some number → Note (l ∷ s) number
    go (Some t) q r = after-letter-of s (letter-of l q) r
    go None q r = absurd (none-ne-some number r)

-- ---- keys

-- what is read after the buttons
abbrev after_buttons : List ℕ → Option ℕ
after_buttons n =
    option_or (numbered (bytes "K") 41 0 n) (option_or (option_and_then key_of_number (note_number n)) (numbered (bytes "N") 27 14 n))

either : (o other : Option ℕ) {i : ℕ} → option_or o other ≡ Some i → (o ≡ Some i) ⊎ (other ≡ Some i)
either (Some j) other e = inl e
either None other e = inr e

button-name : (n : List ℕ) {i : ℕ} → look_up buttons n ≡ Some i → KeyName n i
button-name n e = let l = listed_of buttons n e in rw l.2 (button l.1)

key-name : (n : List ℕ) {i : ℕ} → numbered (bytes "K") 41 0 n ≡ Some i → KeyName n i
key-name n {i} e = let r = numbered_of (bytes "K") 41 0 n e in go r.is r.numeral r.below r.id
  where
    go : {s : List ℕ} {k : ℕ} → n ≡ bytes "K" ++ s → Numeral s k → k < 41 → 0 + k ≡ i → KeyName n i
    go {s} {k} q p h w = let z : k ≡ i = omega arith in rw (q, ← z) (key p (omega arith))

note-key-name : (n : List ℕ) {i : ℕ} → numbered (bytes "N") 27 14 n ≡ Some i → KeyName n i
note-key-name n {i} e = let r = numbered_of (bytes "N") 27 14 n e in go r.is r.numeral r.below r.id
  where
    go : {s : List ℕ} {k : ℕ} → n ≡ bytes "N" ++ s → Numeral s k → k < 27 → 14 + k ≡ i → KeyName n i
    go q p h w = rw (q, ← w) (note_key p (omega arith))

note-name : (n : List ℕ) {i : ℕ} → option_and_then key_of_number (note_number n) ≡ Some i → KeyName n i
unfolding key_of_number
note-name n {i} e = go (note_number n) refl e
  where
    go : (o : Option ℕ) → note_number n ≡ o → option_and_then key_of_number o ≡ Some i → KeyName n i
    go (Some m) q r =
        let p : ((leb 53 m && leb m 79) ≡ true) × (m - 53 + 14 ≡ i) = picked-some (leb 53 m && leb m 79) (m - 53 + 14) r in
        rw (← p.1)
        (note (note-of n q) (leb-true 53 m (and_left (leb 53 m) (leb m 79) p.0)) (leb-true m 79 (and_right (leb 53 m) (leb m 79) p.0)))
    go None q r = absurd (none-ne-some i r)

key-of-name : (n : List ℕ) {i : ℕ} → key_of n ≡ Some i → KeyName n i
unfolding key_of
key-of-name n e =
    ⊎_elim (button-name n)
    (λ e₁. ⊎_elim (key-name n)
    (λ e₂. ⊎_elim (note-name n) (note-key-name n) (either (option_and_then key_of_number (note_number n)) _ e₂))
    (either (numbered (bytes "K") 41 0 n) _ e₁))
    (either (look_up buttons n) (after_buttons n) e)

not-a-K : {l t : ℕ} (s : List ℕ) → Letter l t → numbered (bytes "K") 41 0 (l ∷ s) ≡ None
unfolding numbered starts_with semitone_of
not-a-K {l} {t} s p =
    rw (ne_eqb l 75 (λ q. none-ne-some t (rw q at (letter-read p))))

note-is-no-K : {n : List ℕ} {number : ℕ} → Note n number → numbered (bytes "K") 41 0 n ≡ None
note-is-no-K (natural {s = s} l p) = not-a-K s l
note-is-no-K (sharp {s = s} l p) = not-a-K (35 ∷ s) l
note-is-no-K (flat {b = b} l p) = not-a-K (66 ∷ b ∷ []) l

-- each button's name is found where it stands, and is no other key's
buttons-found : every (λ e. gives (look_up buttons (bytes e.0)) e.1) buttons ≡ true
unfolding look_up starts_with
buttons-found = refl

buttons-apart : every (λ e. is_none (after_buttons (bytes e.0))) buttons ≡ true
unfolding numbered starts_with number_of digits digits_after note_number semitone_of after_letter
buttons-apart = refl

after-buttons : (n : List ℕ) {i : ℕ} → after_buttons n ≡ Some i → key_of n ≡ Some i
unfolding key_of
after-buttons n e = later-read buttons after_buttons buttons-apart n e

key-read : {s : List ℕ} {k : ℕ} → Numeral s k → k ≤ 40 → after_buttons (bytes "K" ++ s) ≡ Some k
key-read {s} {k} p h = rw (numbered-read (bytes "K") 41 0 p (omega arith)) (ap {B = Option ℕ} Some (zero-add k))

note-key-read : {s : List ℕ} {k : ℕ} → Numeral s k → k ≤ 26 → after_buttons (bytes "N" ++ s) ≡ Some (14 + k)
unfolding numbered starts_with note_number semitone_of
note-key-read p h = numbered-read (bytes "N") 27 14 p (omega arith)

name-of-key : {n : List ℕ} {i : ℕ} → KeyName n i → key_of n ≡ Some i
unfolding key_of key_of_number
name-of-key (button m) = rw (listed-read buttons buttons-found m)
name-of-key (key p h) = after-buttons _ (key-read p h)
name-of-key (note {number = m} p l h) = after-buttons _ (rw (note-is-no-K p, note-read p, le-leb 53 m l, le-leb m 79 h))
name-of-key (note_key p h) = after-buttons _ (note-key-read p h)

pub key-accepted : (name : List ℕ) {i : ℕ} → key_id_of name ≡ Some i → KeyName (uppers name) i
unfolding key_id_of
key-accepted name e = key-of-name (uppers name) e

pub key-not-refused : (name : List ℕ) {i : ℕ} → KeyName (uppers name) i → key_id_of name ≡ Some i
unfolding key_id_of
key-not-refused name p = name-of-key p

-- ---- encoders

enc-name : (n : List ℕ) {i : ℕ} → numbered (bytes "ENC") 7 0 n ≡ Some i → EncName n i
enc-name n {i} e = let r = numbered_of (bytes "ENC") 7 0 n e in go r.is r.numeral r.below r.id
  where
    go : {s : List ℕ} {k : ℕ} → n ≡ bytes "ENC" ++ s → Numeral s k → k < 7 → 0 + k ≡ i → EncName n i
    go {s} {k} q p h w = let z : k ≡ i = omega arith in rw (q, ← z) (enc p (omega arith))

named-name : (n : List ℕ) {i : ℕ} → look_up encoders n ≡ Some i → EncName n i
named-name n e = let l = listed_of encoders n e in rw l.2 (named l.1)

encoders-found : every (λ e. gives (look_up encoders (bytes e.0)) e.1) encoders ≡ true
unfolding look_up starts_with
encoders-found = refl

encoders-apart : every (λ e. is_none (numbered (bytes "ENC") 7 0 (bytes e.0))) encoders ≡ true
unfolding numbered starts_with
encoders-apart = refl

name-of-enc : {n : List ℕ} {i : ℕ} → EncName n i → enc_of n ≡ Some i
unfolding enc_of
name-of-enc (named m) = rw (listed-read encoders encoders-found m)
name-of-enc (enc {k = k} p h) =
    later-read encoders (numbered (bytes "ENC") 7 0) encoders-apart _
    (numbered-read (bytes "ENC") 7 0 p (omega arith) ∙ ap {B = Option ℕ} Some (zero-add k))

pub enc-accepted : (name : List ℕ) {i : ℕ} → enc_id_of name ≡ Some i → EncName (uppers name) i
unfolding enc_id_of enc_of
enc-accepted name e =
    ⊎_elim (named-name (uppers name)) (enc-name (uppers name))
    (either (look_up encoders (uppers name)) _ e)

pub enc-not-refused : (name : List ℕ) {i : ℕ} → EncName (uppers name) i → enc_id_of name ≡ Some i
unfolding enc_id_of
enc-not-refused name p = name-of-enc p
