-- When two ports are the same, and when two snaps are.
use Rattle.std.specs.Prelude.{ℕ, Bool, cond, ◌&&◌, List, eqb, length, get_or, Result, Ok, Err}
use Rattle.base.specs.AllTo.{all_to}
use Rattle.base.specs.declared.Refusal.{Refusal}
use Rattle.base.specs.declared.Refusal.TheVariants.{Size}
use Rattle.p33.specs.declared.P33.{P33}
use Rattle.p33.specs.declared.Snap.{Snap}
use Rattle.p33.specs.P33.{memory_bytes}

-- what sameness looks at: "con, dat, step, cmd, addr and all 2,048 registers"; neither the count nor the event
pub record Core : Type 0 where
  pub con : ℕ
  pub dat : ℕ
  pub step : ℕ
  pub cmd : ℕ
  pub addr : ℕ
  pub regs : List ℕ

abbrev pub core : P33 → List ℕ → Core
core p m = record { con = p.con; dat = p.dat; step = p.step; cmd = p.cmd; addr = p.addr; regs = m }

-- the five fields agree
abbrev pub same_record : P33 → P33 → Bool
same_record a b =
    eqb a.con b.con && eqb a.dat b.dat && eqb a.step b.step && eqb a.cmd b.cmd && eqb a.addr b.addr

-- two memories agree at a place
abbrev pub agree : List ℕ → List ℕ → ℕ → Bool
agree x y i = eqb (get_or x i 0) (get_or y i 0)

-- "all 2,048 registers agree"
unfoldable pub same_regs : List ℕ → List ℕ → Bool
same_regs x y = all_to (agree x y) memory_bytes

abbrev pub both_sizes : List ℕ → List ℕ → Bool
both_sizes x y = eqb (length x) memory_bytes && eqb (length y) memory_bytes

-- `same`: both lengths are tested. That the flag is true exactly where the two cores are equal is `same-exact` (proofs/Sameness)
unfoldable pub same_of : P33 → List ℕ → P33 → List ℕ → Result Bool Refusal
same_of a x b y =
    cond (both_sizes x y) (Ok (same_record a b && same_regs x y)) (Err Size)

-- equality of two snaps
abbrev pub same_snap : Snap → Snap → Bool
same_snap a b =
    eqb a.0 b.0 && eqb a.1 b.1 && eqb a.2 b.2 && eqb a.3 b.3 && eqb a.4 b.4 && eqb a.5 b.5
