-- Texts that loops put part by part.
use mathlib.Core.Path.{◌≡◌, refl, sym, ◌∙◌, ap}
use mathlib.Core.List.{List, [], ◌++◌}
use Prim.Native.Nat.{ℕ, ◌+◌, ◌≤◌, ◌<◌}
use native.Mathlib.Numerals.{add-one}
use lib.ListN.{length, get_or, drop, drop_of_length-le}
use lib.Seq.{drop-cons}
use Rattle.text.proofs.After.{Put, then}
use Rattle.text.specs.Putting.{place_after_all, put_all}
use Rattle.line_answer.specs.Answers.{light_text, lights_text}
use Rattle.line_answer.specs.Forms.{form_text, mark_of, mark_text, numbers_behind}

-- what is left to put at `at` ends as all of it would have, from `to` on
abbrev pub Left : List ℕ → ℕ → List ℕ → List ℕ → ℕ → List ℕ → Type 0
Left before to all out at rest =
    (place_after_all (length out) at rest ≡ place_after_all (length before) to all) × (put_all out at rest ≡ put_all before to all)

-- a turn puts one part more
pub turn :
    (before all out mid rest x y : List ℕ) (to at half : ℕ) →
    rest ≡ x ++ y →
    Put out at x half mid →
    Left before to all out at rest →
    Left before to all mid half y
turn before all out mid rest x y to at half e p l =
    let q = then out mid (put_all mid half y) x y at half (place_after_all (length mid) half y) p (record { place = refl; bytes = refl }) in (
      q.place ∙ ap (λ (r : List ℕ). place_after_all (length out) at r) (sym e) ∙ l.0,
      q.bytes ∙ ap (λ (r : List ℕ). put_all out at r) (sym e) ∙ l.1,
    )

pub ended :
    (before all out rest : List ℕ) (to at : ℕ) →
    rest ≡ [] →
    Left before to all out at rest →
    Put before to all at out
unfolding place_after_all put_all
ended before all out rest to at e l = record {
  place = sym (ap (λ (r : List ℕ). place_after_all (length out) at r) e) ∙ l.0;
  bytes = sym (ap (λ (r : List ℕ). put_all out at r) e) ∙ l.1;
}

-- ---- a form

module _ (form left : List ℕ) (i : ℕ) where
  pub form-more :
      i < length form →
      form_text (drop i form) left
      ≡ mark_text (mark_of (get_or form i 0)) (get_or left 0 0)
      ++ form_text (drop (i + 1) form) (numbers_behind left (mark_of (get_or form i 0)))
  unfolding form_text
  form-more h = rw (drop-cons form i 0 h, add-one i)

  pub form-done : length form ≤ i → form_text (drop i form) left ≡ []
  unfolding form_text
  form-done h = rw (drop_of_length-le form h)

-- ---- the lights

module _ (lights : List ℕ) (id : ℕ) where
  pub lights-more :
      id < length lights →
      lights_text id (drop id lights) ≡ light_text id (get_or lights id 0) ++ lights_text (id + 1) (drop (id + 1) lights)
  unfolding lights_text
  lights-more h = rw (drop-cons lights id 0 h, add-one id)

  pub lights-done : length lights ≤ id → lights_text id (drop id lights) ≡ []
  unfolding lights_text
  lights-done h = rw (drop_of_length-le lights h)
