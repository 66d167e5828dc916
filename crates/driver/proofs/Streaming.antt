-- What the loop of the driver knows of its stream: places within the buffer, and an offset that grows by no more than a buffer a turn.
use mathlib.Core.Path.{◌≡◌}
use Prim.Native.Nat.{ℕ, ◌+◌, ◌*◌, ◌^◌, ◌≤◌}
use native.Mathlib.Omega.{arith}

pub record Streaming (size base at len turn : ℕ) : Type 0 where
  pub long : size ≡ 65536
  pub order : at ≤ len
  pub within : len ≤ 65536
  pub few : base ≤ 65536 * turn

pub begins : (size base at len : ℕ) → size ≡ 65536 → base ≡ 0 → at ≡ 0 → len ≡ 0 → Streaming size base at len 0
begins size base at len long b a l = record { long = long; order = omega arith; within = omega arith; few = omega arith }
