-- "Accepted calls keep a whole record whole", and a call that is turned away leaves it as it was: each call that hands the record back.
use mathlib.Core.Path.{◌≡◌, refl}
use mathlib.Core.Bool.{Bool, true, false, cond, not}
use mathlib.Core.List.{List}
use Prim.Native.Nat.{ℕ, ◌<◌, ◌^◌}
use borrow.Author.Tests.{ltb-false}
use lib.Dec.{eqb, ltb}
use lib.ListN.{length}
use Rattle.base.specs.Moments.{clock_max}
use Rattle.regs.proofs.ReadsKept.{poll-kept}
use Rattle.regs.proofs.Kept.{write_kept}
use Rattle.regs.specs.Reads.{polls_at, polled_of}
use Rattle.state.specs.State.{board_whole}
use Rattle.state.specs.Whole.{Whole}
use Rattle.state.specs.With.{with_chip}
use Rattle.state.specs.declared.Board.{Board}
use Rattle.board_guard.proofs.Kept.{kept}
use Rattle.board_guard.proofs.Known.{no}
use Rattle.board_guard.specs.Refusals.{size_of, banks_refused}
use Rattle.board.specs.declared.Reading.{Reading}
use Rattle.board.specs.declared.Written.{Written}
use Rattle.board.specs.Calls.{read_chip, read_refused, read_call, write_call}

module _ (b : Board) (w : Whole b) where
  pub write-call-kept : (addr v first second : ℕ) → v < 2 ^ 32 → Whole (write_call b addr v first second).board
  unfolding write_call
  write-call-kept addr v first second r = kept (λ (d : Written). d.board) (banks_refused b first second) _ _ (λ e. write_kept b addr v w r) w

  read_whole : (addr : ℕ) (t : Bool) → polls_at b.chip addr ≡ t → ◌≡◌ {A = ℕ} (cond t (cond (ltb clock_max (polled_of b.chip).clock.cycles) 7 0) 0) 0 → Whole (with_chip b (cond t (polled_of b.chip) b.chip))
  unfolding polled_of
  read_whole addr true e f = let q = no (ltb clock_max (polled_of b.chip).clock.cycles) 6 0 f in poll-kept b w (ltb-false clock_max (polled_of b.chip).clock.cycles q.0)
  read_whole addr false e f = w

  pub read-call-kept : (addr : ℕ) (icfg icfg1 : List ℕ) → Whole (read_call b addr icfg icfg1).board
  unfolding read_call read_refused read_chip
  read-call-kept addr icfg icfg1 =
      kept (λ (d : Reading). d.board) (read_refused b addr (length icfg) (length icfg1)) _ _
      (λ e.
      let p = no (not (eqb (size_of (length icfg) (length icfg1)) 0)) 1 _ e in
      let q = no (not (board_whole b)) 2 _ p.1 in
      read_whole addr (polls_at b.chip addr) refl q.1)
      w
