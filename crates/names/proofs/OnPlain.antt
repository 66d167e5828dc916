-- Numbers and words in plain terms are what the definitions read.
use mathlib.Core.Path.{◌≡◌, refl, ap, ◌∙◌}
use mathlib.Core.Bool.{Bool, true, false, cond}
use mathlib.Core.List.{List, [], ◌∷◌, ◌++◌, append_assoc, append-nil}
use Rattle.std.specs.Prelude.{Option, None, Some}
use Rattle.names.proofs.OnAnswers.{some-injective, none-ne-some}
use Prim.Native.Nat.{ℕ, ◌+◌, ◌-◌, ◌*◌, ◌≤◌, ◌<◌}
use native.Mathlib.Omega.{arith}
use borrow.Author.Tests.{leb-true, eqb-true, ne_eqb}
use lib.Dec.{leb, eqb}
use lib.ListN.{get_or}
use Rattle.base.proofs.Flags.{and_left, and_right}
use Rattle.names.specs.Numbers.{is_digit, digits_after, digits, number_of}
use Rattle.names.specs.Plain.{Decimal, Numeral}
use Rattle.names.specs.Plain.Decimal.{one, more}
use Rattle.names.specs.Plain.Numeral.{plain, plus}
use Rattle.names.proofs.OnNumbers.{is_digit_lem}

-- what a digit that was read leaves, and that it was one
digit-read : (b : ℕ) (o : Option ℕ) {v : ℕ} → cond (is_digit b) o None ≡ Some v → (48 ≤ b) × (b ≤ 57) × (o ≡ Some v)
digit-read b o {v} e = go (is_digit b) refl e
  where
    go : (t : Bool) → is_digit b ≡ t → cond t o None ≡ Some v → (48 ≤ b) × (b ≤ 57) × (o ≡ Some v)
    go true q r = (leb-true 48 b (and_left (leb 48 b) (leb b 57) q), leb-true b 57 (and_right (leb 48 b) (leb b 57) q), r)
    go false q r = absurd (none-ne-some v r)

digit-more : {p : List ℕ} {u b : ℕ} → Decimal p u → 48 ≤ b → b ≤ 57 → Decimal (p ++ (b ∷ [])) (u * 10 + (b - 48))
digit-more {p} {u} {b} d l h =
    let q : 48 + (b - 48) ≡ b = omega arith in
    let k : b - 48 < 10 = omega arith in
    rw q at (more d k)

grown : (s : List ℕ) {p : List ℕ} {u v : ℕ} → Decimal p u → digits_after u s ≡ Some v → Decimal (p ++ s) v
unfolding digits_after
grown [] {p} {u} {v} d e = rw (append-nil, ← some-injective u v e) d
grown (b ∷ s) {p} {u} {v} d e =
    let r : (48 ≤ b) × (b ≤ 57) × (digits_after (u * 10 + (b - 48)) s ≡ Some v) = digit-read b _ e in
    rw append_assoc at (grown s (digit-more d r.0 r.1) r.2)

pub decimal-of : (s : List ℕ) {v : ℕ} → digits s ≡ Some v → Decimal s v
unfolding digits digits_after
decimal-of [] {v} e = absurd (none-ne-some v e)
decimal-of (b ∷ s) {v} e =
    let r : (48 ≤ b) × (b ≤ 57) × (digits_after (0 * 10 + (b - 48)) s ≡ Some v) = digit-read b _ e in
    let z : 0 * 10 + (b - 48) ≡ b - 48 = omega arith in
    let q : 48 + (b - 48) ≡ b = omega arith in
    let k : b - 48 < 10 = omega arith in
    grown s (rw q at (one k)) (rw z at r.2)

-- digits and one more
read_more : (s : List ℕ) (u : ℕ) {v d : ℕ} → digits_after u s ≡ Some v → d < 10 → digits_after u (s ++ ((48 + d) ∷ [])) ≡ Some (v * 10 + d)
unfolding digits_after
read_more [] u {v} {d} e h =
    let q : u ≡ v = some-injective u v e in
    rw (is_digit_lem (48 + d) (omega arith) (omega arith)) (ap {B = Option ℕ} Some (omega arith))
read_more (b ∷ s) u {v} {d} e h =
    let r : (48 ≤ b) × (b ≤ 57) × (digits_after (u * 10 + (b - 48)) s ≡ Some v) = digit-read b _ e in
    rw (is_digit_lem b r.0 r.1) (read_more s (u * 10 + (b - 48)) r.2 h)

-- digits begin with a digit, which is no plus
first-digit : {s : List ℕ} {v : ℕ} → Decimal s v → (b : ℕ) × (t : List ℕ) × ((48 ≤ b) × (b ≤ 57)) × (s ≡ b ∷ t)
first-digit (one {d} h) = (48 + d, [], (omega arith, omega arith), refl)
first-digit (more {s} {v} {d} p h) =
    let r = first-digit p in
    (r.0, r.1 ++ ((48 + d) ∷ []), r.2, ap {B = List ℕ} (λ l. l ++ ((48 + d) ∷ [])) r.3)

read-after : {s : List ℕ} {v : ℕ} → Decimal s v → digits_after 0 s ≡ Some v
unfolding digits_after
read-after (one {d} h) = rw (is_digit_lem (48 + d) (omega arith) (omega arith)) (ap {B = Option ℕ} Some (omega arith))
read-after (more {s} p h) = read_more s 0 (read-after p) h

from_first : {s t : List ℕ} {b : ℕ} → s ≡ b ∷ t → digits s ≡ digits_after 0 s
unfolding digits
from_first e = rw e

digits-read : {s : List ℕ} {v : ℕ} → Decimal s v → digits s ≡ Some v
digits-read p = from_first (first-digit p).3 ∙ read-after p

first_byte : {s : List ℕ} {v : ℕ} → Decimal s v → (48 ≤ get_or s 0 0) × (get_or s 0 0 ≤ 57)
first_byte {s} p = let r = first-digit p in rw r.3 r.2

-- no sharp and no flat
pub first-of-numeral : {s : List ℕ} {v : ℕ} → Numeral s v → (35 < get_or s 0 0) × (get_or s 0 0 < 66)
first-of-numeral {s} (plain p) = let h : (48 ≤ get_or s 0 0) × (get_or s 0 0 ≤ 57) = first_byte p in omega arith
first-of-numeral (plus p) = omega arith

pub numeral-read : {s : List ℕ} {v : ℕ} → Numeral s v → number_of s ≡ Some v
unfolding number_of
numeral-read (plain {s} p) =
    let h : (48 ≤ get_or s 0 0) × (get_or s 0 0 ≤ 57) = first_byte p in
    rw (ne_eqb (get_or s 0 0) 43 (λ q. omega arith)) (digits-read p)
numeral-read (plus p) = digits-read p

pub numeral-of : (s : List ℕ) {v : ℕ} → number_of s ≡ Some v → Numeral s v
unfolding number_of digits
numeral-of [] {v} e = absurd (none-ne-some v e)
numeral-of (b ∷ s) {v} e = go (eqb b 43) refl e
  where
    go : (t : Bool) → eqb b 43 ≡ t → cond t (digits s) (digits (b ∷ s)) ≡ Some v → Numeral (b ∷ s) v
    go true q r = rw (eqb-true b 43 q) (plus (decimal-of s r))
    go false q r = plain (decimal-of (b ∷ s) r)
