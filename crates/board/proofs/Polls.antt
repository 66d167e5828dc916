-- The three outcomes of a read: turned away, a poll of TIMER4's count, any other word.
use mathlib.Core.Path.{◌≡◌, refl, ◌∙◌}
use mathlib.Core.Bool.{Bool, true, false, cond, not, ◌&&◌}
use mathlib.Core.List.{List}
use Prim.Native.Nat.{ℕ}
use borrow.Author.Tests.{eqb-true, eq-eqb, ne_eqb}
use lib.Dec.{eqb, ltb}
use lib.ListN.{length}
use Rattle.base.proofs.Flags.{and_left}
use Rattle.base.specs.Bits.{is_set}
use Rattle.base.specs.Moments.{clock_max}
use Rattle.regs.specs.Reads.{read_of, t4_read, polls_at, polled_of}
use Rattle.std.specs.Prelude.{Some}
use Rattle.state.specs.State.{board_whole}
use Rattle.state.specs.With.{with_chip}
use Rattle.state.specs.declared.Board.{Board}
use Rattle.state.specs.declared.Chip.{Chip}
use Rattle.timers.specs.Timer4.{t4_cnt}
use Rattle.board_guard.specs.Refusals.{size_of, whole_refused, banks_refused}
use Rattle.board.specs.Calls.{read_refused, read_chip, no_read, counted_of, read_call}

-- a poll is a read of TIMER4's count
polls-count : (c : Chip) (addr : ℕ) → polls_at c addr ≡ true → addr ≡ 0x10804
unfolding polls_at
polls-count c addr e =
    let running = is_set c.t4.con 1 in
    let on = not (eqb c.clock.skip_idle 0) in
    eqb-true addr 0x10804
    (and_left (eqb addr 0x10804) running
    (and_left (eqb addr 0x10804 && running) on (and_left (eqb addr 0x10804 && running && on) (eqb c.clock.in_isr 0) e)))

count-read : (c : Chip) (icfg icfg1 : List ℕ) (addr : ℕ) → addr ≡ 0x10804
    → read_of c icfg icfg1 addr ≡ Some (t4_cnt c.t4 c.clock.cycles c.clock.hz)
unfolding read_of t4_read
count-read c icfg icfg1 addr e = rw e

-- refused as any call that is lent the banks, then by where a poll would end
unfoldable poll_refused : Board → ℕ → ℕ
poll_refused b addr = cond (polls_at b.chip addr) (cond (ltb clock_max (polled_of b.chip).clock.cycles) 7 0) 0

read-refused : (b : Board) (addr first second : ℕ)
    → read_refused b addr first second ≡ cond (eqb (banks_refused b first second) 0) (poll_refused b addr) (banks_refused b first second)
unfolding read_refused banks_refused whole_refused poll_refused
read-refused b addr first second = go (eqb (size_of first second) 0) (board_whole b)
  where
    go : (x y : Bool)
        → ◌≡◌ {A = ℕ} (cond (not x) 2 (cond (not y) 3 (poll_refused b addr)))
        (cond (eqb (cond (not x) 2 (cond (not y) 3 0)) 0) (poll_refused b addr) (cond (not x) 2 (cond (not y) 3 0)))
    go true true = refl
    go true false = refl
    go false y = refl

module _ (b : Board) (addr : ℕ) (icfg icfg1 : List ℕ) (n : ℕ) (e : n ≡ banks_refused b (length icfg) (length icfg1)) where
  refused : read_refused b addr (length icfg) (length icfg1) ≡ cond (eqb n 0) (poll_refused b addr) n
  refused = read-refused b addr (length icfg) (length icfg1) ∙ rw (← e)

  pub read-turned : (n ≡ 0 → ⊥) → read_call b addr icfg icfg1 ≡ no_read b n
  unfolding read_call
  read-turned z = rw (refused, ne_eqb n 0 z, ne_eqb n 0 z)

  module _ (z : n ≡ 0) where
    left : (t : Bool) → polls_at b.chip addr ≡ t
        → read_refused b addr (length icfg) (length icfg1) ≡ cond t (cond (ltb clock_max (polled_of b.chip).clock.cycles) 7 0) 0
    unfolding poll_refused
    left t p = refused ∙ rw (eq-eqb n 0 z, p)

    pub read_plain : polls_at b.chip addr ≡ false
        → read_call b addr icfg icfg1 ≡ record { board = b; refused = 0; value = read_of b.chip icfg icfg1 addr }
    unfolding read_call read_chip
    read_plain p = rw (left false p, p)

    pub read-polled : polls_at b.chip addr ≡ true → read_call b addr icfg icfg1 ≡ counted_of b
    unfolding read_call read_chip counted_of
    read-polled p = rw (left true p, p, count-read (polled_of b.chip) icfg icfg1 addr (polls-count b.chip addr p)) (go (ltb clock_max (polled_of b.chip).clock.cycles))
      where
        go : (t : Bool)
            → cond (eqb (cond t 7 0) 0)
            (record { board = with_chip b (polled_of b.chip); refused = 0; value = Some (t4_cnt (polled_of b.chip).t4 (polled_of b.chip).clock.cycles (polled_of b.chip).clock.hz) })
            (no_read b (cond t 7 0))
            ≡ cond t (no_read b 7)
            (record { board = with_chip b (polled_of b.chip); refused = 0; value = Some (t4_cnt (polled_of b.chip).t4 (polled_of b.chip).clock.cycles (polled_of b.chip).clock.hz) })
        go true = refl
        go false = refl
