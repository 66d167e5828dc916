-- What is written is read back: a number's digits, in decimal and in hexadecimal, and their bytes in a buffer.
use Rattle.std.specs.Prelude.{Some}
use mathlib.Core.Path.{◌≡◌, refl, ◌∙◌, sym}
use mathlib.Core.Bool.{Bool, true, false, ◌&&◌}
use mathlib.Core.Logic.{◌⊎◌, inl, inr}
use mathlib.Core.List.{List, [], ◌∷◌, ◌++◌, append_assoc}
use Prim.Native.Nat.{ℕ, zero, suc, ◌+◌, ◌-◌, ◌*◌, ◌/◌, ◌%◌, ◌^◌, ◌≤◌, ◌<◌}
use native.Mathlib.Nat.{pow-zero, pow-suc, div-lt_iff_lt-mul, div-add-mod', mod-lt}
use native.Mathlib.Omega.{arith}
use borrow.Author.Tests.{lt-ltb, le-ltb, le-leb, lt-leb}
use lib.Dec.{ltb}
use lib.ListN.{length, take, drop, length-append}
use lib.Seq.{length-take-le, take_at, drop_at}
use Rattle.base.proofs.Cases.{lt-or-ge}
use Rattle.io.specs.Digits.{hex_digit_ascii, last_digits}
use Rattle.text.specs.Putting.{place_after_all, put_all, places, decimal_of, hex_of, hex_width}
use Rattle.text.specs.Spans.{bytes_in}
use Rattle.text.specs.Numerals.{digit_of, all_digits, value_after, value_of, decimal_in, hex_in}
use Rattle.text.specs.declared.Span.{Span}
use Rattle.text.proofs.Digits.{is-decimal, is-hex}
use Rattle.text.proofs.Parts.{inside}
use Rattle.text.proofs.Places.{places-hold}
use Rattle.text.proofs.Putter.{put-all-fits, put-all-length, place-fits}

-- a digit's value is the digit
glyph-digit : (d : ℕ) → d < 16 → digit_of (hex_digit_ascii d) ≡ d
unfolding digit_of
glyph-digit d h = go (lt-or-ge d 10)
  where
    go : (d < 10) ⊎ (10 ≤ d) → digit_of (hex_digit_ascii d) ≡ d
    go (inl l) = rw (lt-ltb d 10 l, le-leb 48 (48 + d) (omega arith), le-leb (48 + d) 57 (omega arith)) (omega arith)
    go (inr g) =
        rw (
          le-ltb d 10 g,
          le-leb 48 (87 + d) (omega arith),
          lt-leb (87 + d) 57 (omega arith),
          le-leb 65 (87 + d) (omega arith),
          lt-leb (87 + d) 70 (omega arith),
          le-leb 97 (87 + d) (omega arith),
          le-leb (87 + d) 102 (omega arith),
        )
        (omega arith)

-- the digits of a base up to 16, written one behind the other
module _ (base : ℕ) (positive : 0 < base) (small : base ≤ 16) where
  value-append : (v : ℕ) (s t : List ℕ) → value_after base v (s ++ t) ≡ value_after base (value_after base v s) t
  unfolding value_after
  value-append v [] t = refl
  value-append v (b ∷ s) t = value-append (v * base + digit_of b) s t

  digits_append : (s t : List ℕ) → all_digits base s ≡ true → all_digits base t ≡ true → all_digits base (s ++ t) ≡ true
  unfolding all_digits
  digits_append [] t e f = f
  digits_append (b ∷ s) t e f = go (ltb (digit_of b) base) e (λ g. digits_append s t g f)
    where
      go : (c : Bool) → (c && all_digits base s) ≡ true → (all_digits base s ≡ true → all_digits base (s ++ t) ≡ true)
          → (c && all_digits base (s ++ t)) ≡ true
      go true g r = r g
      go false g r = g

  last-digit : (n : ℕ) → digit_of (hex_digit_ascii (n % base)) ≡ n % base
  last-digit n = glyph-digit (n % base) (omega (arith, mod-lt n positive))

  pub digits-length : (k n : ℕ) → length (last_digits base k n) ≡ k
  digits-length zero n = refl
  digits-length (suc k) n = rw (length-append, digits-length k (n / base)) (omega arith)

  pub digits_are : (k n : ℕ) → all_digits base (last_digits base k n) ≡ true
  unfolding all_digits
  digits_are zero n = refl
  digits_are (suc k) n =
      let last : digit_of (hex_digit_ascii (n % base)) < base = rw last-digit (mod-lt n positive) in
      digits_append (last_digits base k (n / base)) (hex_digit_ascii (n % base) ∷ []) (digits_are k (n / base)) (rw (lt-ltb _ _ last))

  pub digits_value : (k n : ℕ) → n < base ^ k → value_of base (last_digits base k n) ≡ n
  unfolding value_after
  digits_value zero n h = let none : n < 1 = rw (pow-zero base) at h in omega arith
  digits_value (suc k) n h =
      let less : n / base < base ^ k = (div-lt_iff_lt-mul positive).1 (rw (pow-suc base k) at h) in
      value-append 0 (last_digits base k (n / base)) (hex_digit_ascii (n % base) ∷ [])
      ∙ rw (digits_value k (n / base) less, last-digit) (div-add-mod' n base)

module _ (n : ℕ) (fits : n < 2 ^ 64) where
  pub decimal-round-trip : decimal_in (decimal_of n) ≡ Some n
  unfolding decimal_of
  decimal-round-trip =
      let k : ℕ = places 10 1 19 n in
      let hold = places-hold 10 (omega arith) n 1 19 (omega arith) in
      let long = digits-length 10 (omega arith) (omega arith) k n in
      let value = digits_value 10 (omega arith) (omega arith) k n hold.2 in
      let are = digits_are 10 (omega arith) (omega arith) k n in
      sym (rw value at (is-decimal (last_digits 10 k n) (omega arith) are (rw value fits)))

  pub hex-round-trip : (width most : ℕ) → length (hex_of n width) ≤ most → hex_in most (hex_of n width) ≡ Some n
  unfolding hex_of
  hex-round-trip width most m =
      let w : ℕ = hex_width width in
      let k : ℕ = places 16 w (16 - w) n in
      let whole : w + (16 - w) ≡ 16 = omega arith in
      let hold = places-hold 16 (omega arith) n w (16 - w) (rw whole (omega arith)) in
      let long = digits-length 16 (omega arith) (omega arith) k n in
      let value = digits_value 16 (omega arith) (omega arith) k n hold.2 in
      let are = digits_are 16 (omega arith) (omega arith) k n in
      sym (rw value at (is-hex (last_digits 16 k n) (omega arith) most m (omega arith) are))

-- a text that fits is found again between its place and the answer
pub text-found :
    (out : List ℕ) (at : ℕ) (text : List ℕ) →
    at + length text ≤ length out →
    bytes_in (put_all out at text) (record { from = at; to = place_after_all (length out) at text }) ≡ text
text-found out at text h =
    let end : place_after_all (length out) at text ≡ at + length text = place-fits (length out) at text h in
    let w : Span = record { from = at; to = at + length text } in
    let behind : List ℕ = drop (at + length text) out in
    rw end
    (inside (put_all out at text) w (omega arith) (rw put-all-length h)
    ∙ rw (
      put-all-fits out at text h,
      append_assoc,
      drop_at (take at out) (text ++ behind) at (length-take-le at out (omega arith)),
    )
    (take_at text behind (at + length text - at) (omega arith)))
