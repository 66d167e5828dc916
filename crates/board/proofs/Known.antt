-- What is known where a board is made.
use mathlib.Core.Path.{◌≡◌}
use mathlib.Core.Bool.{not}
use Prim.Native.Nat.{ℕ, ◌≤◌}
use borrow.Author.Tests.{eqb-true, ltb-false}
use lib.Dec.{eqb, ltb}
use Rattle.base.specs.Limits.{rate_min, rate_max}
use Rattle.board_guard.proofs.Known.{no, sizes, unsaid}
use Rattle.script.specs.Script.{entries}
use Rattle.uart.specs.Uart.{queue_bytes}
use Rattle.board.specs.Steps.{rate_refused, new_refused}

-- a board is made: its rate, and the lengths of what is lent
pub record Makes (hz q s a b : ℕ) : Type 0 where
  pub low : rate_min ≤ hz
  pub high : hz ≤ rate_max
  pub queue : q ≡ queue_bytes
  pub script : s ≡ entries
  pub first : a ≡ 32
  pub second : b ≡ 32

rated : (hz : ℕ) → rate_refused hz ≡ 0 → (rate_min ≤ hz) × (hz ≤ rate_max)
unfolding rate_refused
rated hz e =
    let p = no (ltb hz rate_min) 0 _ e in
    let q = no (ltb rate_max hz) 0 0 p.1 in
    (ltb-false hz rate_min p.0, ltb-false rate_max hz q.0)

pub makes : (hz queue script first second : ℕ) → new_refused hz queue script first second ≡ 0 → Makes hz queue script first second
unfolding new_refused
makes hz queue script first second e =
    let p = no (not (eqb (rate_refused hz) 0)) 0 _ e in
    let q = no (not (eqb queue queue_bytes)) 1 _ p.1 in
    let r = no (not (eqb script entries)) 1 _ q.1 in
    let s = sizes first second r.1 in
    let h = rated hz (eqb-true (rate_refused hz) 0 (unsaid (eqb (rate_refused hz) 0) p.0)) in
    record {
      low = h.0;
      high = h.1;
      queue = eqb-true queue queue_bytes (unsaid (eqb queue queue_bytes) q.0);
      script = eqb-true script entries (unsaid (eqb script entries) r.0);
      first = s.0;
      second = s.1;
    }
