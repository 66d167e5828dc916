-- Words, prefixes and tables: what is found is there, and what is there is found.
use mathlib.Core.Path.{◌≡◌, refl, sym, ap, ◌∙◌}
use mathlib.Core.Bool.{Bool, true, false, ◌&&◌, cond, false≢true}
use mathlib.Core.Logic.{◌⊎◌, inl, inr}
use mathlib.Core.List.Memᴰ
use mathlib.Core.List.{List, [], ◌∷◌, ◌++◌, append-nil, Memᴰ}
use Rattle.std.specs.Prelude.{Option, None, Some, option_and_then}
use Rattle.std.specs.Option.{option_or}
use Rattle.names.proofs.OnAnswers.{some-injective, none-ne-some}
use Prim.Native.Nat.{ℕ, ◌+◌, ◌≤◌, ◌<◌}
use Prim.Native.String.{String}
use native.Mathlib.Omega.{arith}
use borrow.Author.Tests.{eqb-true, eq-eqb, lt-ltb}
use lib.Dec.{eqb}
use lib.ListN.{length, drop, drop_of_length-le}
use lib.Seq.{drop-append_seam}
use Rattle.base.proofs.Flags.{and_left, and_right}
use Rattle.names.specs.Ascii.{bytes}
use Rattle.names.specs.Words.{starts_with, is_word, look_up}
use Rattle.names.specs.Numbers.{number_of, among, numbered}
use Rattle.names.specs.Plain.{Numeral}
use Rattle.names.proofs.OnNumbers.{in-range}
use Rattle.names.proofs.OnPlain.{numeral-read, numeral-of}

prefix-of : (n w : List ℕ) → starts_with n w ≡ true → n ≡ w ++ drop (length w) n
unfolding starts_with
prefix-of n [] e = refl
prefix-of [] (x ∷ w) e = absurd (false≢true e)
prefix-of (b ∷ n) (x ∷ w) e =
    rw (eqb-true b x (and_left (eqb b x) (starts_with n w) e))
    (ap {B = List ℕ} (λ l. x ∷ l) (prefix-of n w (and_right (eqb b x) (starts_with n w) e)))

starts : (w s : List ℕ) → starts_with (w ++ s) w ≡ true
unfolding starts_with
starts [] s = refl
starts (x ∷ w) s = rw (eq-eqb x x refl) (starts w s)

pub word_of : (n w : List ℕ) → is_word n w ≡ true → n ≡ w
word_of n w e =
    let l : length n ≡ length w = eqb-true (length n) (length w) (and_left (eqb (length n) (length w)) (starts_with n w) e) in
    let h : length n ≤ length w = omega arith in
    prefix-of n w (and_right (eqb (length n) (length w)) (starts_with n w) e) ∙ rw (drop_of_length-le n h, append-nil)

-- ---- a prefix and a number

pub record Numbered (prefix : List ℕ) (count first : ℕ) (n : List ℕ) (i : ℕ) : Type 0 where
  pub rest : List ℕ
  pub number : ℕ
  pub is : n ≡ prefix ++ rest
  pub numeral : Numeral rest number
  pub below : number < count
  pub id : first + number ≡ i

module _ (prefix : List ℕ) (count first : ℕ) where
  pub numbered_of : (n : List ℕ) {i : ℕ} → numbered prefix count first n ≡ Some i → Numbered prefix count first n i
  unfolding numbered
  numbered_of n {i} e = go (starts_with n prefix) refl (number_of (drop (length prefix) n)) refl e
    where
      go : (t : Bool) → starts_with n prefix ≡ t → (o : Option ℕ) → number_of (drop (length prefix) n) ≡ o
          → cond t (option_and_then (among count first) o) None ≡ Some i → Numbered prefix count first n i
      go true q (Some k) r e =
          let p : (k < count) × (first + k ≡ i) = in-range count first k e in
          record {
            rest = drop (length prefix) n;
            number = k;
            is = prefix-of n prefix q;
            numeral = numeral-of (drop (length prefix) n) r;
            below = p.0;
            id = p.1;
          }
      go true q None r e = absurd (none-ne-some i e)
      go false q o r e = absurd (none-ne-some i e)

  pub numbered-read : {s : List ℕ} {k : ℕ} → Numeral s k → k < count → numbered prefix count first (prefix ++ s) ≡ Some (first + k)
  unfolding numbered
  numbered-read {s} {k} p h = rw (starts prefix s, drop-append_seam prefix s, numeral-read p, lt-ltb k count h)

-- ---- tables

pub listed_of : (table : List (String × ℕ)) (n : List ℕ) {i : ℕ} → look_up table n ≡ Some i
    → (word : String) × Memᴰ (word, i) table × (n ≡ bytes word)
unfolding look_up
listed_of [] n {i} e = absurd (none-ne-some i e)
listed_of (entry ∷ table) n {i} e =
    go (is_word n (bytes entry.0)) refl e (λ r. listed_of table n r)
  where
    Listed : List (String × ℕ) → Type 0
    Listed l = (word : String) × Memᴰ (word, i) l × (n ≡ bytes word)

    go : (t : Bool) → is_word n (bytes entry.0) ≡ t → cond t (Some entry.1) (look_up table n) ≡ Some i
        → (look_up table n ≡ Some i → Listed table) → Listed (entry ∷ table)
    go true q r later = (
      entry.0,
      Memᴰ.head (ap {B = String × ℕ} (λ k. (entry.0, k)) (sym (some-injective entry.1 i r))),
      word_of n (bytes entry.0) q,
    )
    go false q r later = let l = later r in (l.0, Memᴰ.tail l.1, l.2)

-- a test of a whole table, which computes
abbrev pub every : (String × ℕ → Bool) → List (String × ℕ) → Bool
every f [] = true
every f (entry ∷ table) = f entry && every f table

every-at : (f : String × ℕ → Bool) (table : List (String × ℕ)) {entry : String × ℕ} → every f table ≡ true
    → Memᴰ entry table → f entry ≡ true
every-at f [] e m = absurd (Memᴰ.not-nil m)
every-at f (first ∷ table) {entry} e m =
    go (Memᴰ.cases_cons m) (λ k. every-at f table (and_right (f first) (every f table) e) k)
  where
    go : (entry ≡ first) ⊎ Memᴰ entry table → (Memᴰ entry table → f entry ≡ true) → f entry ≡ true
    go (inl q) later = ap f q ∙ and_left (f first) (every f table) e
    go (inr k) later = later k

abbrev pub gives : Option ℕ → ℕ → Bool
gives (Some j) i = eqb j i
gives None i = false

gives-some : (o : Option ℕ) (i : ℕ) → gives o i ≡ true → o ≡ Some i
gives-some (Some j) i e = ap {B = Option ℕ} Some (eqb-true j i e)
gives-some None i e = absurd (false≢true e)

pub listed-read : (table : List (String × ℕ)) → every (λ e. gives (look_up table (bytes e.0)) e.1) table ≡ true
    → {word : String} {i : ℕ} → Memᴰ (word, i) table → look_up table (bytes word) ≡ Some i
listed-read table t {word} {i} m = gives-some (look_up table (bytes word)) i (every-at _ table t m)

abbrev pub is_none : Option ℕ → Bool
is_none (Some j) = false
is_none None = true

-- what is read after a table of other words
pub later-read : (table : List (String × ℕ)) (later : List ℕ → Option ℕ) → every (λ e. is_none (later (bytes e.0))) table ≡ true
    → (n : List ℕ) {i : ℕ} → later n ≡ Some i → option_or (look_up table n) (later n) ≡ Some i
later-read table later t n {i} e = go (look_up table n) refl
  where
    go : (o : Option ℕ) → look_up table n ≡ o → option_or o (later n) ≡ Some i
    go (Some j) q =
        let l = listed_of table n q in
        let z : is_none (later (bytes l.0)) ≡ true = every-at _ table t l.1 in
        absurd (false≢true (rw (← l.2, e) at z))
    go None q = e
