-- What is worked out of the chip and the lent panel is the record's: a push, a read, a write.
use mathlib.Core.Path.{◌≡◌, refl, sym, ◌∙◌, ap}
use mathlib.Core.Bool.{Bool, true, false, cond}
use mathlib.Core.List.{List}
use Prim.Native.Nat.{ℕ, ◌+◌, ◌*◌, ◌≤◌}
use borrow.Author.Tests.{le-ltb}
use lib.Dec.{eqb, ltb}
use lib.ListN.{length, set}
use Rattle.adc.specs.Adc.{con_written}
use Rattle.adc.specs.declared.Wrote.{Wrote as Conversion}
use Rattle.base.specs.Bits.{unless_of}
use Rattle.base.specs.Moments.{clock_max}
use Rattle.base.specs.Refusals.{FULL, TIME}
use Rattle.board.specs.Calls.{read_chip, read_call, write_call, write_first, write_second}
use Rattle.board.specs.declared.Written.{Written}
use Rattle.driver_carry.proofs.Calls.{banks-left, read_left, spot-full, spot-room}
use Rattle.driver_carry.specs.Carry.{Agrees, pushed, read_by, wrote_by}
use Rattle.driver_carry.specs.declared.Answer.TheVariants.{Pushed, Read, Wrote, Refused}
use Rattle.driver_carry.specs.declared.Carried.{Carried}
use Rattle.irq.specs.Banks.{bank_words}
use Rattle.panel.specs.Map.{fm1_map}
use Rattle.panel.specs.declared.map.Map.{Map}
use Rattle.regs.proofs.ReadsKept.{poll-kept}
use Rattle.regs.specs.Reads.{read_of, polls_at, polled_of}
use Rattle.regs.specs.Writes.{handled_at, times_written, first_written, second_written, chip_written, adc_written, board_written}
use Rattle.script.specs.Script.{full_of, spot_of, pushed_of as ring_pushed}
use Rattle.state.proofs.Facts.{whole_typed}
use Rattle.state.specs.Whole.{Whole, ChipOk}
use Rattle.state.specs.With.{with_chip, with_script, with_adc, due_at, due_now}
use Rattle.state.specs.declared.Board.{Board}
use Rattle.state.specs.declared.Chip.{Chip}
use Rattle.state.specs.declared.Panel.{Panel}
use Rattle.step.specs.Apply.{board_of}
use Rattle.board_words.specs.Words.{spot_in, stored_words}
use Rattle.driver_ways.specs.Told.{Part, told_by, push_out, push_words, read_out}
use Rattle.driver_ways.specs.declared.Outcome.{Outcome}

-- ---- a push

module _ (b : Board) (ws : List ℕ) (w : Whole b) (a : Agrees b ws) (time word : ℕ) where
  abbrev RightPush : Outcome → List ℕ → Type 0
  RightPush q l =
      (with_chip b q.chip ≡ (pushed b ws time).board) × (q.answer ≡ (pushed b ws time).answer) × (l ≡ stored_words (spot_in b ws time) ws time word)

  pub push-right : RightPush (push_out b.chip time) (push_words b.chip ws time word)
  unfolding push_out
  push-right = go (full_of b.chip.script) refl
    where
      s : ℕ
      s = spot_of b.chip.script

      go : (f : Bool) → full_of b.chip.script ≡ f
          → RightPush (cond f (told_by b.chip (Pushed FULL)) (told_by (due_now (with_script b.chip (ring_pushed b.chip.script time))) (Pushed 0))) (cond f ws (set (set ws (2 * s) time) (2 * s + 1) word))
      go true f = rw (spot-full b (whole_typed b w) ws w a time f) (refl, refl, refl)
      go false f = rw (spot-room b (whole_typed b w) ws w a time f) (refl, refl, refl)

-- ---- a read

-- the chip that a read finds is sound, where its clock has not passed its end
polled-kept : (c : Chip) → Part c → (polled_of c).clock.cycles ≤ clock_max → ChipOk (polled_of c)
unfolding polled_of
polled-kept c p m = (poll-kept (board_of c p.panel) p.whole m).sound.chip

pub found-kept : (c : Chip) → Part c → (addr : ℕ) → (read_chip c addr).clock.cycles ≤ clock_max → ChipOk (read_chip c addr)
unfolding read_chip
found-kept c p addr = go (polls_at c addr)
  where
    go : (x : Bool) → (cond x (polled_of c) c).clock.cycles ≤ clock_max → ChipOk (cond x (polled_of c) c)
    go true m = polled-kept c p m
    go false m = p.whole.sound.chip

module _ (b : Board) (w : Whole b) (first second : List ℕ) (f : length first ≡ bank_words) (s : length second ≡ bank_words) (addr : ℕ) where
  abbrev RightRead : Outcome → Type 0
  RightRead q = (with_chip b q.chip ≡ (read_by b addr first second).board) × (q.answer ≡ (read_by b addr first second).answer)

  late-read : polls_at b.chip addr ≡ true → ltb clock_max (polled_of b.chip).clock.cycles ≡ true
      → read_by b addr first second ≡ record { board = b; answer = Refused TIME }
  unfolding read_call
  late-read e l = rw (read_left b (whole_typed b w) w (length first) (length second) f s addr, e, l)

  poll-read : polls_at b.chip addr ≡ true → ltb clock_max (polled_of b.chip).clock.cycles ≡ false
      → read_by b addr first second ≡ record { board = with_chip b (polled_of b.chip); answer = Read addr (read_of (polled_of b.chip) first second addr) }
  unfolding read_call read_chip
  poll-read e l = rw (read_left b (whole_typed b w) w (length first) (length second) f s addr, e, l)

  plain-read : polls_at b.chip addr ≡ false → read_by b addr first second ≡ record { board = b; answer = Read addr (read_of b.chip first second addr) }
  unfolding read_call read_chip
  plain-read e = rw (read_left b (whole_typed b w) w (length first) (length second) f s addr, e)

  abbrev chosen : Chip → Bool → Outcome
  chosen c late = cond late (told_by b.chip (Refused TIME)) (told_by c (Read addr (read_of c first second addr)))

  by : (q : Outcome) (r : Carried) → read_by b addr first second ≡ r → with_chip b q.chip ≡ r.board → q.answer ≡ r.answer → RightRead q
  by q r e p a = (p ∙ sym (ap (λ (x : Carried). x.board) e), a ∙ sym (ap (λ (x : Carried). x.answer) e))

  pub read_right : RightRead (read_out b.chip addr first second)
  unfolding read_out read_chip
  read_right = go (polls_at b.chip addr) refl
    where
      polls : (late : Bool) → polls_at b.chip addr ≡ true → ltb clock_max (polled_of b.chip).clock.cycles ≡ late → RightRead (chosen (polled_of b.chip) late)
      polls true e l = by _ _ (late-read e l) refl refl
      polls false e l = by _ _ (poll-read e l) refl refl

      within : ltb clock_max b.chip.clock.cycles ≡ false
      within = le-ltb clock_max b.chip.clock.cycles w.sound.chip.clock.cycles

      plain : polls_at b.chip addr ≡ false → RightRead (chosen b.chip (ltb clock_max b.chip.clock.cycles))
      plain e = rw within (by (chosen b.chip false) _ (plain-read e) refl refl)

      go : (x : Bool) → polls_at b.chip addr ≡ x
          → RightRead (chosen (cond x (polled_of b.chip) b.chip) (ltb clock_max (cond x (polled_of b.chip) b.chip).clock.cycles))
      go true e = polls (ltb clock_max (polled_of b.chip).clock.cycles) e refl
      go false e = plain e

-- ---- a write

module _ (b : Board) (w : Whole b) (first second : List ℕ) (f : length first ≡ bank_words) (s : length second ≡ bank_words) (addr v : ℕ) where
  accepted : write_call b addr v (length first) (length second) ≡ record { board = board_written b addr v; refused = 0; handled = handled_at addr }
  unfolding write_call
  accepted = rw (banks-left b (whole_typed b w) w (length first) (length second) f s)

  pub write-first : write_first b addr v first second ≡ first_written first addr v
  unfolding write_first
  write-first = rw (banks-left b (whole_typed b w) w (length first) (length second) f s)

  pub write-second : write_second b addr v first second ≡ second_written second addr v
  unfolding write_second
  write-second = rw (banks-left b (whole_typed b w) w (length first) (length second) f s)

  pub wrote : wrote_by b addr v first second ≡ record { board = board_written b addr v; answer = Wrote addr v (handled_at addr) }
  wrote = ap (λ (x : Written). record { board = x.board; answer = Wrote addr v x.handled }) accepted

-- the board that a write leaves, by what was written: the converter, or the LEDs' times and the chip
module _ (c : Chip) (p : Panel) (addr v : ℕ) where
  pub convert-right : eqb addr 0x13100 ≡ true → (m : Map) → m ≡ fm1_map
      → (x : Conversion) → x ≡ con_written c.adc m c.pins p.ramps p.values c.clock.cycles v
      → (due : ℕ) → due ≡ unless_of x.due c.clock.next_due
      → board_of (with_adc (due_at c due) x.adc) p ≡ board_written (board_of c p) addr v
  unfolding board_written adc_written
  convert-right e m is x con due d = rw (e, d, con, is)

  pub written-right : eqb addr 0x13100 ≡ false → (acc : List ℕ) → acc ≡ times_written c.pins addr c.clock.cycles p.acc → (d : Chip) → d ≡ chip_written c addr v → (q : Outcome) → q.chip ≡ d
      → board_of q.chip (record { acc = acc; ramps = p.ramps; values = p.values }) ≡ board_written (board_of c p) addr v
  unfolding board_written
  written-right e acc l d is q told = rw (e, l, told, is)

pub told-write : (q : Outcome) (c : Chip) (addr v : ℕ) (is : Bool) → q ≡ told_by c (Wrote addr v is) → is ≡ handled_at addr → q.answer ≡ Wrote addr v (handled_at addr)
told-write q c addr v is e h = ap (λ (x : Outcome). x.answer) e ∙ ap (Wrote addr v) h
