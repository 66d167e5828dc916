-- Texts put one byte after the other.
use mathlib.Core.Path.{◌≡◌, refl, ◌∙◌}
use mathlib.Core.List.{List, [], ◌∷◌, ◌++◌}
use Prim.Native.Nat.{ℕ, suc, ◌+◌, ◌≤◌, ◌<◌}
use native.Mathlib.Numerals.{add-one}
use native.Mathlib.Omega.{arith}
use borrow.Author.Tests.{lt-ltb}
use mathlib.Core.Bool.{Bool, true, false, cond}
use lib.Dec.{ltb}
use lib.ListN.{length, get_or, set, take, drop, length-set, drop_of_length-le}
use lib.Seq.{sets, sets-eq, drop-cons, take-set-le}
use Rattle.text.specs.Putting.{place_after, put_byte, place_after_all, put_all}

-- a byte that finds room or not leaves the length as it is
pub put-length : (out : List ℕ) (at b : ℕ) → length (put_byte out at b) ≡ length out
put-length out at b = go (ltb at (length out))
  where
    go : (t : Bool) → length (cond t (set out at b) out) ≡ length out
    go true = length-set out at b
    go false = refl

pub put-all-length : (out : List ℕ) (at : ℕ) (text : List ℕ) → length (put_all out at text) ≡ length out
unfolding put_all
put-all-length out at [] = refl
put-all-length out at (b ∷ text) =
    put-all-length (put_byte out at b) (place_after (length out) at) text ∙ put-length out at b

-- what is left of a text from a place on: a turn of the loop, and its end
module _ (text : List ℕ) (i : ℕ) where
  pub put-more :
      (out : List ℕ) (to : ℕ) →
      i < length text →
      put_all (put_byte out to (get_or text i 0)) (place_after (length out) to) (drop (i + 1) text) ≡ put_all out to (drop i text)
  unfolding put_all
  put-more out to h = rw (drop-cons text i 0 h, add-one i)

  pub place-more :
      (room to : ℕ) →
      i < length text →
      place_after_all room (place_after room to) (drop (i + 1) text) ≡ place_after_all room to (drop i text)
  unfolding place_after_all
  place-more room to h = rw (drop-cons text i 0 h, add-one i)

  pub put-done : (out : List ℕ) (to : ℕ) → length text ≤ i → put_all out to (drop i text) ≡ out
  unfolding put_all
  put-done out to h = rw (drop_of_length-le text h)

  pub place-done : (room to : ℕ) → length text ≤ i → place_after_all room to (drop i text) ≡ to
  unfolding place_after_all
  place-done room to h = rw (drop_of_length-le text h)

-- Where the text fits, the bytes before and behind it stay as they were.
sets-all : (text out : List ℕ) (at : ℕ) → at + length text ≤ length out → put_all out at text ≡ sets out at text
unfolding put_all
sets-all [] out at h = refl
sets-all (b ∷ text) out at h =
    rw (lt-ltb at (length out) (omega arith), add-one)
    (sets-all text (set out at b) (suc at) (simp length-set (omega arith)))

pub put-all-fits :
    (out : List ℕ) (at : ℕ) (text : List ℕ) →
    at + length text ≤ length out →
    put_all out at text ≡ take at out ++ text ++ drop (at + length text) out
put-all-fits out at text h = sets-all text out at h ∙ sets-eq text out at h

pub place-fits :
    (room at : ℕ) (text : List ℕ) →
    at + length text ≤ room →
    place_after_all room at text ≡ at + length text
unfolding place_after_all
place-fits room at [] h = omega arith
place-fits room at (b ∷ text) h =
    rw (lt-ltb at room (omega arith), place-fits room (at + 1) text (omega arith)) (omega arith)

-- Fits or not, what waits before the place stays.
put-before : (out : List ℕ) (at b k : ℕ) → k ≤ at → take k (put_byte out at b) ≡ take k out
put-before out at b k h = go (ltb at (length out))
  where
    go : (t : Bool) → take k (cond t (set out at b) out) ≡ take k out
    go true = take-set-le k out at b h
    go false = refl

place-grows : (room at : ℕ) → at ≤ place_after room at
place-grows room at = go (ltb at room)
  where
    go : (t : Bool) → at ≤ cond t (at + 1) at
    go true = omega arith
    go false = omega arith

before : (text out : List ℕ) (at k : ℕ) → k ≤ at → take k (put_all out at text) ≡ take k out
unfolding put_all
before [] out at k h = refl
before (b ∷ text) out at k h =
    before text (put_byte out at b) (place_after (length out) at) k (omega (arith, place-grows (length out) at))
    ∙ put-before out at b k h

pub put-all-before : (out : List ℕ) (at : ℕ) (text : List ℕ) → take at (put_all out at text) ≡ take at out
put-all-before out at text = before text out at at (omega arith)
