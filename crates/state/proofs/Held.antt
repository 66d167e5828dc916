-- What the code's types say of a board that code holds: what the whole test leaves to them.
use mathlib.Core.Path.{◌≡◌, sym, subst}
use mathlib.Core.List.{List, [], ◌∷◌}
use Prim.Native.Nat.{ℕ, zero, suc, ◌<◌, ◌^◌}
use native.Mathlib.Omega.{arith}
use lib.Dec.{T}
use lib.Ieee.{Float, nan, binary32, fits}
use lib.ListN.{length, get_or}
use mir.Val.{Val}
use denote.Array.{Array, each}
use denote.Builtin.{u64, u32, f32}
use denote.RattleType.{RattleType}
use denote.Shadow.{shadow}
use denote.Struct.Declared.{row}
use Rattle.timers.specs.Timer.{no_tmr}
use Rattle.state.specs.Whole.{Typed}
use Rattle.state.specs.declared.Board.{Board}
use Rattle.encoders.specs.contracts.Enc as enc
use Rattle.timers.specs.contracts.timer.Tmr as tmr
use Rattle.state.specs.contracts.Board as board

-- an array's length, and what holds of each element
module _ (R : RattleType) where
  pub held-length : (n : ℕ) (l : List R.Denot) (vs : List Val) → shadow ((Array R n).own_val l vs) → length l ≡ n
  held-length n l vs g = g.1.0.1

  module _ (P : R.Denot → Type 0) (k : (a : R.Denot) (u : Val) → shadow (R.own_val a (u ∷ [])) → P a) (z : R.Denot) where
    each_at : (l : List R.Denot) (us : List Val) → shadow (each R.Denot R.own_val l us) → (i : ℕ) → i < length l → P (get_or l i z)
    each_at [] us g i h = absurd (omega arith)
    each_at (x ∷ l) [] g i h = absurd g
    each_at (x ∷ l) (u ∷ us) g zero h = k x u g.0
    each_at (x ∷ l) (u ∷ us) g (suc i) h = each_at l us g.1 i (omega arith)

    pub held_at : (n : ℕ) (l : List R.Denot) (vs : List Val) → shadow ((Array R n).own_val l vs) → (i : ℕ) → i < n → P (get_or l i z)
    held_at n l vs g i h = each_at l g.0 g.1.1 i (rw (held-length n l vs g) h)

-- a number's facts, and a force's
pub force-fits : (n : ℕ) (l : List Float) (vs : List Val) → shadow ((Array f32 n).own_val l vs) → (i : ℕ) → i < n → T (fits binary32 (get_or l i nan))
force-fits = held_at f32 (λ x. T (fits binary32 x)) (λ x u g. subst T (sym g.1) tt) nan

module _ (b : Board) (vs : List Val) (g : shadow ((row board.the_type).own_val b vs)) where
  -- a struct's fields follow its values and the path that ties them to it; the fields are in the order of the code
  pub typed : Typed b
  typed =
      let c = g.1.1.0.1.1 in
      let r = g.1.1.1.0.1.1.1.0.1.1 in
      record {
        hz = c.0.1.1.1.1.1.1.1.1.0.1;
        t5 = c.1.1.0.1.1.1.1.1.0.1;
        tmr = held_at tmr.the_row (λ x. x.prd < 2 ^ 32) (λ x u k. k.1.1.1.1.1.0.1) no_tmr 4 b.chip.tmr g.1.1.0.0.1.1.1.0 c.1.1.1.0;
        tmrs = held-length tmr.the_row 4 b.chip.tmr g.1.1.0.0.1.1.1.0 c.1.1.1.0;
        otcnt = c.1.1.1.1.1.1.1.0.1.1.1.1.1.1.1.1.1.0.1;
        encs = held-length enc.the_row 8 b.chip.enc g.1.1.0.0.1.1.1.1.1.1.1.1.1.1.1.0 c.1.1.1.1.1.1.1.1.1.1.1.0;
        ramps = record {
          t0 = held-length u64 41 b.panel.ramps.t0 g.1.1.1.0.1.1.1.0.0.0 r.0;
          dur = held-length u32 41 b.panel.ramps.dur g.1.1.1.0.1.1.1.0.0.1.0 r.1.0;
          from = held-length f32 41 b.panel.ramps.from g.1.1.1.0.1.1.1.0.0.1.1.0 r.1.1.0;
          to = held-length f32 41 b.panel.ramps.to g.1.1.1.0.1.1.1.0.0.1.1.1.0 r.1.1.1.0;
        };
        forces = λ i h. (
          force-fits 41 b.panel.ramps.from g.1.1.1.0.1.1.1.0.0.1.1.0 r.1.1.0 i h,
          force-fits 41 b.panel.ramps.to g.1.1.1.0.1.1.1.0.0.1.1.1.0 r.1.1.1.0 i h,
        );
      }
