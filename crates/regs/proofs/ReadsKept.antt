-- A poll that does not end past the clock's range keeps a whole record whole.
use mathlib.Core.Path.{refl}
use mathlib.Core.Bool.{Bool, true, false}
use Prim.Native.Nat.{ℕ, ◌-◌, ◌≤◌}
use native.Mathlib.Omega.{arith}
use lib.Dec.{ltb}
use Rattle.base.specs.Bits.{unless_of}
use Rattle.base.specs.Moments.{clock_max}
use Rattle.timers.proofs.Kept.{t4-poll-kept, poll-ends}
use Rattle.timers.specs.Timer4.{poll_of, poll_due, poll_skipped, streak_of}
use Rattle.state.proofs.Kept.{put-t4, put-chip, later}
use Rattle.state.specs.State.{next_event}
use Rattle.state.specs.Whole.{Whole}
use Rattle.state.specs.With.{with_clock, with_t4, with_chip, clock_at}
use Rattle.state.specs.declared.Board.{Board}
use Rattle.state.specs.declared.Chip.{Chip}
use Rattle.regs.specs.Reads.{poll_at, polled_of}

-- a word on what is due that is cleared or kept is no later
pub unless-most : (t : Bool) (due event : ℕ) → due ≤ event → unless_of t due ≤ event
unless-most true due event h = omega arith
unless-most false due event h = h

-- a poll that ends within the clock's range
module _ (b : Board) (w : Whole b) where
  abbrev c : Chip
  c = b.chip

  abbrev end : ℕ
  end = (poll_at c).clock

  poll-forward : c.clock.cycles ≤ end
  unfolding poll_of
  poll-forward = (poll-ends (streak_of c.t4.cnt_streak (c.clock.cycles - c.t4.last_cnt_read)) c.clock.cycles c.clock.hz (next_event c)).forward

  pub poll-kept : end ≤ clock_max → Whole (with_chip b (polled_of c))
  unfolding polled_of next_event
  poll-kept m =
      let now = c.clock.cycles in
      let due = poll_due c.clock.next_due now end in
      let skipped = poll_skipped c.clock.skipped now end in
      let d = with_clock c (clock_at c.clock end due skipped) in
      let k = later b w.sound end due skipped poll-forward m in
      record {
        sound = put-chip (with_chip b d) k (with_t4 d (poll_at c).t4) (put-t4 d k.chip (poll_at c).t4 (t4-poll-kept c.t4 now c.clock.hz (next_event c) w.sound.chip.t4)) refl refl refl;
        due = unless-most (ltb now end) c.clock.next_due (next_event c) w.due;
      }
