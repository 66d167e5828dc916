-- On the FM-1's map no id stands twice: each key has one place.
use Rattle.std.proofs.Common.{◌≡◌, ℕ, ◌<◌, Bool, true, cond, eqb, ltb, List, [], ◌∷◌, get_or, sym, refl, ap, ◌∙◌, lt-ltb, eqb-true}
use Rattle.base.proofs.Table.{every-at}
use Rattle.panel.specs.Map.{NoneTwice, fm1_map}

-- where each key stands
abbrev places : List ℕ
places =
    44 ∷ 45 ∷ 17 ∷ 15 ∷ 13 ∷ 11 ∷ 31 ∷ 30 ∷ 18 ∷ 16 ∷ 14 ∷ 12 ∷ 32 ∷ 29
    ∷ 47 ∷ 46 ∷ 49 ∷ 48 ∷ 51 ∷ 50 ∷ 52 ∷ 53 ∷ 54 ∷ 33 ∷ 34 ∷ 35 ∷ 36 ∷ 37 ∷ 38 ∷ 39 ∷ 40 ∷ 41 ∷ 42 ∷ 43
    ∷ 22 ∷ 23 ∷ 24 ∷ 25 ∷ 26 ∷ 28 ∷ 27
    ∷ []

abbrev placed : ℕ → ℕ → Bool
placed i id = cond (ltb id 41) (eqb i (get_or places id 0)) true

at_its_place : (i : ℕ) → i < 66 → get_or fm1_map.ids i 0 < 41 → i ≡ get_or places (get_or fm1_map.ids i 0) 0
unfolding fm1_map
at_its_place i h k =
    let t : placed i (get_or fm1_map.ids i 0) ≡ true = every-at placed fm1_map.ids refl i h in
    let u : eqb i (get_or places (get_or fm1_map.ids i 0) 0) ≡ true = rw (lt-ltb (get_or fm1_map.ids i 0) 41 k) at t in
    eqb-true i (get_or places (get_or fm1_map.ids i 0) 0) u

pub fm1-none-twice : NoneTwice fm1_map
fm1-none-twice i j h k key e =
    at_its_place i h key ∙ ap (λ (x : ℕ). get_or places x 0) e ∙ sym (at_its_place j k (rw (sym e) key))
