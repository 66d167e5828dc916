-- The least by a loop: after n columns.
use mathlib.Core.Path.{◌≡◌, refl}
use mathlib.Core.Bool.{true, false}
use Prim.Native.Nat.{ℕ, ◌+◌, min}
use native.Mathlib.Numerals.{add-one}
use lib.Ieee.{Float}
use Rattle.panel.specs.Map.{id_at}
use Rattle.panel.specs.Matrix.{selected}
use Rattle.keys.specs.declared.Ramps.{Ramps}
use Rattle.panel.specs.declared.map.Map.{Map}
use Rattle.pressure.specs.Value.{open_key}
use Rattle.adc.specs.Adc.{key_value, least_to}

module _ (m : Map) (ramps : Ramps) (latched row now : ℕ) (ohms : Float) where
  pub least-none : open_key ≡ least_to m ramps latched row now ohms 0
  unfolding least_to
  least-none = refl

  pub least_on : (n v : ℕ) → v ≡ least_to m ramps latched row now ohms n → selected latched n ≡ true
      → min v (key_value ramps now ohms (id_at m row n)) ≡ least_to m ramps latched row now ohms (n + 1)
  unfolding least_to
  least_on n v e h = rw (add-one, h, e)

  pub least-off : (n v : ℕ) → v ≡ least_to m ramps latched row now ohms n → selected latched n ≡ false
      → v ≡ least_to m ramps latched row now ohms (n + 1)
  unfolding least_to
  least-off n v e h = rw (add-one, h) e
