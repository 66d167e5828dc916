-- Pairs of hex digits: by places of a word, and what the word stands for.
use Rattle.std.specs.Prelude.{Some, None}
use mathlib.Core.Path.{◌≡◌, refl}
use mathlib.Core.Bool.{true, false, ◌&&◌}
use mathlib.Core.List.{List, [], ◌∷◌, ◌++◌}
use Prim.Native.Nat.{ℕ, suc, ◌+◌, ◌*◌, ◌/◌, ◌%◌, ◌≤◌, ◌<◌}
use native.Mathlib.Numerals.{add-one}
use native.Mathlib.Omega.{arith}
use borrow.Author.Tests.{le-leb, lt-leb, eqb-true}
use lib.Dec.{eqb, ltb}
use lib.ListN.{length, get_or, set, drop, length-drop}
use lib.Seq.{drop-cons, sets}
use Rattle.base.proofs.Flags.{and_left, and_right}
use Rattle.text.specs.Numerals.{digit_of, all_digits}
use Rattle.text.specs.HexBytes.{is_dash, is_pairs, pairs, unhexed_answer, unhexed_bytes}
use Rattle.text.proofs.Digits.{digit-next}

pub pairs-length : (s : List ℕ) → length (pairs s) ≡ length s / 2
unfolding pairs
pairs-length [] = refl
pairs-length (b ∷ []) = refl
pairs-length (high ∷ low ∷ s) = omega (arith, pairs-length s)

-- fewer than two bytes make no pair
few : (s : List ℕ) → length s ≤ 1 → pairs s ≡ []
unfolding pairs
few [] h = refl
few (b ∷ []) h = refl
few (high ∷ low ∷ s) h = absurd (omega arith)

module _ (s : List ℕ) (i : ℕ) where
  module _ (h : 2 * i + 1 < length s) where
    -- a turn
    pub pairs-more :
        pairs (drop (2 * i) s) ≡ (digit_of (get_or s (2 * i) 0) * 16 + digit_of (get_or s (2 * i + 1) 0)) ∷ pairs (drop (2 * (i + 1)) s)
    unfolding pairs
    pairs-more =
        let one : 2 * i + 1 ≡ suc (2 * i) = omega arith in
        let two : 2 * (i + 1) ≡ suc (suc (2 * i)) = omega arith in
        rw (two, one, drop-cons s (2 * i) 0 (omega arith), drop-cons s (suc (2 * i)) 0 (omega arith))

    pub pair-next :
        all_digits 16 (drop (2 * i) s) ≡ true →
        (digit_of (get_or s (2 * i) 0) < 16) × (digit_of (get_or s (2 * i + 1) 0) < 16) × (all_digits 16 (drop (2 * (i + 1)) s) ≡ true)
    pair-next e =
        let two : 2 * (i + 1) ≡ 2 * i + 1 + 1 = omega arith in
        let p = digit-next 16 s (2 * i) (omega arith) e in
        let q = digit-next 16 s (2 * i + 1) (omega arith) p.1 in
        (p.0, q.0, rw two q.1)

  -- the end
  pub pairs-done : length s / 2 ≤ i → pairs (drop (2 * i) s) ≡ []
  pairs-done h = few (drop (2 * i) s) (simp length-drop (omega arith))

pub store-one : (out : List ℕ) (i v : ℕ) (rest : List ℕ) → sets (set out i v) (i + 1) rest ≡ sets out i (v ∷ rest)
store-one out i v rest = rw (add-one i)

pub pairs-digits : (s : List ℕ) → is_pairs s ≡ true → all_digits 16 s ≡ true
pairs-digits s e =
    and_right (ltb 0 (length s) && eqb (length s % 2) 0) (all_digits 16 s) e

-- what a word stands for
module _ (s out : List ℕ) where
  pub dash : is_dash s ≡ true → (Some 0 ≡ unhexed_answer s out) × (out ≡ unhexed_bytes s out)
  unfolding unhexed_answer unhexed_bytes
  dash e =
      let one : length s ≡ 1 = eqb-true (length s) 1 (and_left (eqb (length s) 1) (eqb (get_or s 0 0) 45) e) in
      let none : pairs s ≡ [] = few s (omega arith) in
      let room = le-leb 0 (length out) (omega arith) in
      (rw (e, none, room), rw (e, none, room))

  module _ (d : is_dash s ≡ false) where
    pub no_bytes : is_pairs s ≡ false → (None ≡ unhexed_answer s out) × (out ≡ unhexed_bytes s out)
    unfolding unhexed_answer unhexed_bytes
    no_bytes e = (rw (d, e), rw (d, e))

    module _ (e : is_pairs s ≡ true) where
      pub no_room_lem : length out < length s / 2 → (None ≡ unhexed_answer s out) × (out ≡ unhexed_bytes s out)
      unfolding unhexed_answer unhexed_bytes
      no_room_lem h =
          let over = lt-leb (length (pairs s)) (length out) (rw (pairs-length s) h) in
          (rw (d, e, over), rw (d, e, over))

      pub room :
          length s / 2 ≤ length out →
          (Some (length s / 2) ≡ unhexed_answer s out) × (pairs s ++ drop (length (pairs s)) out ≡ unhexed_bytes s out)
      unfolding unhexed_answer unhexed_bytes
      room h =
          let fits = le-leb (length (pairs s)) (length out) (rw (pairs-length s) h) in
          (rw (d, e, fits, pairs-length s), rw (d, e, fits))

pub nothing-unhexed : (out : List ℕ) → (None ≡ unhexed_answer [] out) × (out ≡ unhexed_bytes [] out)
unfolding unhexed_answer unhexed_bytes
nothing-unhexed out = (refl, refl)
