-- The matrix in plain words: a key that is down, or a closed contact, in a selected column closes its row; a row in which none is stays open.
use Rattle.std.proofs.Common.{◌≡◌, ℕ, zero, suc, ◌+◌, ◌*◌, ◌^◌, ◌<◌, ◌≤◌, max, Bool, true, false, cond, eqb, ltb, ◌⊎◌, get_or, sym, refl, subst, inl, inr, eq-or-lt_of_le, arith, lt-ltb, eq-eqb, eqb-true}
use native.Mathlib.Nat.{zero-div}
use borrow.Author.Tests.{eqb-false}
use lib.Bits.{bit_or}
use Rattle.base.specs.Bits.{when_of, bit_of, has_bit}
use Rattle.panel.specs.Map.{id_at}
use Rattle.keys.specs.Keys.{is_down}
use Rattle.panel.specs.Matrix.{or_to, selected, row_bit, key_row, keys_in, contact_row, contacts_in, closed_in, closed_rows}
use Rattle.panel.specs.declared.map.Map.{Map}
use Rattle.base.proofs.BitLaws.{or-bit, pow-bit, pow-else}

-- ---- bits put together
some-bit : (f : ℕ → ℕ) (n i r : ℕ) → i < n → bit_of (f i) r ≡ 1 → bit_of (or_to f n) r ≡ 1
unfolding or_to
some-bit f zero i r h e = absurd (omega arith)
some-bit f (suc n) i r h e = go (eq-or-lt_of_le le) (λ l. some-bit f n i r l e)
  where
    le : i ≤ n
    le = omega arith

    go : (i ≡ n) ⊎ (i < n) → (i < n → bit_of (or_to f n) r ≡ 1) → bit_of (bit_or (or_to f n) (f n)) r ≡ 1
    go (inl q) k = let b : bit_of (f n) r ≡ 1 = subst (λ (j : ℕ). bit_of (f j) r ≡ 1) q e in rw (or-bit (or_to f n) (f n) r, b) (omega arith)
    go (inr l) k = rw (or-bit (or_to f n) (f n) r, k l) (omega arith)

zero_bit : (r : ℕ) → bit_of 0 r ≡ 0
zero_bit r = rw (zero-div (2 ^ r))

no-bit : (f : ℕ → ℕ) (n r : ℕ) → ((i : ℕ) → i < n → bit_of (f i) r ≡ 0) → bit_of (or_to f n) r ≡ 0
unfolding or_to
no-bit f zero r w = zero_bit r
no-bit f (suc n) r w = rw (or-bit (or_to f n) (f n) r, no-bit f n r (λ i h. w i (omega arith)), w n (omega arith))

row-itself : (row : ℕ) → row < 6 → bit_of (row_bit row) row ≡ 1
row-itself row h = rw (lt-ltb row 6 h) (pow-bit row)

row-else : (row r : ℕ) → (r ≡ row → ⊥) → bit_of (row_bit row) r ≡ 0
row-else row r n = go (ltb row 6)
  where
    go : (t : Bool) → bit_of (cond t (2 ^ row) 0) r ≡ 0
    go true = pow-else row r n
    go false = zero_bit r

-- ---- the matrix
module _ (m : Map) (down closed latched : ℕ) where
  column-closes : (col r : ℕ) → col < 11 → selected latched col ≡ true
      → max (bit_of (keys_in m.ids down col) r) (bit_of (contacts_in m.contacts closed col) r) ≡ 1
      → bit_of (closed_rows m down closed latched) r ≡ 1
  unfolding closed_rows
  column-closes col r h s e =
      some-bit (closed_in m down closed latched) 11 col r h
      (rw (s, or-bit (keys_in m.ids down col) (contacts_in m.contacts closed col) r) e)

  -- a key that is down in a selected column closes its row
  pub key-closes : (row col : ℕ) → row < 6 → col < 11 → selected latched col ≡ true → is_down down (id_at m row col) ≡ true
      → bit_of (closed_rows m down closed latched) row ≡ 1
  unfolding keys_in
  key-closes row col h k s d =
      let b : bit_of (key_row m.ids down col row) row ≡ 1 = rw d (row-itself row h) in
      let e = some-bit (key_row m.ids down col) 6 row row h b in
      column-closes col row k s (rw e (omega arith))

  -- so does a closed contact
  pub contact-closes : (c row col : ℕ) → c < 14 → row < 6 → col < 11 → selected latched col ≡ true
      → get_or m.contacts (c * 2) 0 ≡ col → get_or m.contacts (c * 2 + 1) 0 ≡ row → has_bit closed c ≡ true
      → bit_of (closed_rows m down closed latched) row ≡ 1
  unfolding contacts_in
  contact-closes c row col g h k s x y d =
      let b : bit_of (contact_row m.contacts closed col c) row ≡ 1 = rw (eq-eqb (get_or m.contacts (c * 2) 0) col x, d, y) (row-itself row h) in
      let e = some-bit (contact_row m.contacts closed col) 14 c row g b in
      column-closes col row k s (rw e (omega arith))

  -- a row with neither in any selected column stays open
  pub row_open : (row : ℕ)
      → ((col : ℕ) → col < 11 → selected latched col ≡ true → is_down down (id_at m row col) ≡ false)
      → ((c col : ℕ) → c < 14 → col < 11 → selected latched col ≡ true → get_or m.contacts (c * 2) 0 ≡ col
      → get_or m.contacts (c * 2 + 1) 0 ≡ row → has_bit closed c ≡ false)
      → bit_of (closed_rows m down closed latched) row ≡ 0
  unfolding closed_rows keys_in contacts_in
  row_open row keys contacts = no-bit (closed_in m down closed latched) 11 row (λ col h. column col h (selected latched col) refl)
    where
      key : (col r : ℕ) → col < 11 → selected latched col ≡ true → (t : Bool) → eqb r row ≡ t → bit_of (key_row m.ids down col r) row ≡ 0
      key col r h s true e = rw (eqb-true r row e, keys col h s) (zero_bit row)
      key col r h s false e = go (is_down down (get_or m.ids (r * 11 + col) 0))
        where
          go : (t : Bool) → bit_of (when_of t (row_bit r)) row ≡ 0
          go true = row-else r row (λ q. eqb-false r row e (sym q))
          go false = zero_bit row

      contact : (col c : ℕ) → col < 11 → c < 14 → selected latched col ≡ true → (x y : Bool) → eqb (get_or m.contacts (c * 2) 0) col ≡ x
          → eqb (get_or m.contacts (c * 2 + 1) 0) row ≡ y → bit_of (contact_row m.contacts closed col c) row ≡ 0
      contact col c h g s false y e f = rw e (zero_bit row)
      contact col c h g s true true e f =
          rw (contacts c col g h s (eqb-true (get_or m.contacts (c * 2) 0) col e) (eqb-true (get_or m.contacts (c * 2 + 1) 0) row f), e) (zero_bit row)
      contact col c h g s true false e f = rw e (go (has_bit closed c))
        where
          go : (t : Bool) → bit_of (when_of t (row_bit (get_or m.contacts (c * 2 + 1) 0))) row ≡ 0
          go true = row-else (get_or m.contacts (c * 2 + 1) 0) row (λ q. eqb-false (get_or m.contacts (c * 2 + 1) 0) row f (sym q))
          go false = zero_bit row

      column : (col : ℕ) → col < 11 → (t : Bool) → selected latched col ≡ t → bit_of (closed_in m down closed latched col) row ≡ 0
      column col h true s =
          let a = no-bit (key_row m.ids down col) 6 row (λ r g. key col r h s (eqb r row) refl) in
          let b = no-bit (contact_row m.contacts closed col) 14 row (λ c g. contact col c h g s (eqb (get_or m.contacts (c * 2) 0) col) (eqb (get_or m.contacts (c * 2 + 1) 0) row) refl refl) in
          rw (s, or-bit (or_to (key_row m.ids down col) 6) (or_to (contact_row m.contacts closed col) 14) row, a, b)
      column col h false s = rw s (zero_bit row)
