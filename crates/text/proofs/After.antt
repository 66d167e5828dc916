-- One text put behind another.
use mathlib.Core.Path.{◌≡◌, refl, sym, ◌∙◌, ap}
use mathlib.Core.List.{List, [], ◌∷◌, ◌++◌}
use Prim.Native.Nat.{ℕ}
use lib.ListN.{length}
use Rattle.text.proofs.Putter.{put-length, put-all-length}
use Rattle.text.specs.Putting.{place_after, put_byte, place_after_all, put_all}

-- what every function here ensures: the place behind the text, and the bytes; named as the clauses are
abbrev pub Put : List ℕ → ℕ → List ℕ → ℕ → List ℕ → Type 0
Put out at text to after = record { place : to ≡ place_after_all (length out) at text; bytes : after ≡ put_all out at text }

place-both : (room at : ℕ) (x y : List ℕ) → place_after_all room (place_after_all room at x) y ≡ place_after_all room at (x ++ y)
unfolding place_after_all
place-both room at [] y = refl
place-both room at (b ∷ x) y = place-both room (place_after room at) x y

put_both : (x y out : List ℕ) (at : ℕ) → put_all (put_all out at x) (place_after_all (length out) at x) y ≡ put_all out at (x ++ y)
unfolding put_all place_after_all
put_both [] y out at = refl
put_both (b ∷ x) y out at =
    ap (λ (n : ℕ). put_all (put_all (put_byte out at b) (place_after (length out) at) x) (place_after_all n (place_after (length out) at) x) y) (sym (put-length out at b))
    ∙ put_both x y (put_byte out at b) (place_after (length out) at)

pub then : (out mid after x y : List ℕ) (at half to : ℕ) → Put out at x half mid → Put mid half y to after → Put out at (x ++ y) to after
then out mid after x y at half to p q = record {
  place =
      q.place ∙ ap (λ (l : List ℕ). place_after_all (length l) half y) p.bytes ∙ ap (λ (n : ℕ). place_after_all n half y) (put-all-length out at x)
      ∙ ap (λ (n : ℕ). place_after_all (length out) n y) p.place ∙ place-both (length out) at x y;
  bytes =
      q.bytes ∙ ap (λ (l : List ℕ). put_all l half y) p.bytes ∙ ap (λ (n : ℕ). put_all (put_all out at x) n y) p.place ∙ put_both x y out at;
}

-- a buffer stays as long as it was
pub lengthened : (out after text : List ℕ) (at to : ℕ) → Put out at text to after → length after ≡ length out
lengthened out after text at to p = ap length p.bytes ∙ put-all-length out at text
