-- What a driver knows as it begins: a new board, and its own memory.
use mathlib.Core.Path.{◌≡◌, refl, sym, ◌∙◌, ap, subst}
use mathlib.Core.List.{List}
use Prim.Native.Nat.{ℕ}
use native.Mathlib.Omega.{arith}
use lib.ListN.{length, length-map}
use Rattle.board_guard.specs.Refusals.{size_of}
use Rattle.board.specs.Steps.{rate_refused, new_refused, new_call, new_bank}
use Rattle.board_guard.specs.declared.Done.{Done}
use Rattle.driver_carry.specs.Carry.{bench_of, Agrees, BenchOk}
use Rattle.state.proofs.New.{new-whole}
use Rattle.state.specs.State.{board_new, chip_new}
use Rattle.state.specs.Whole.{Whole}
use Rattle.state.specs.declared.Board.{Board}
use Rattle.script.specs.Script.{entries}
use Rattle.uart.specs.Uart.{queue_bytes}

abbrev rate : ℕ
rate = 240_000_000

-- none waits
started : (l : List ℕ) → length l ≡ 512 → Agrees (board_new rate) l
unfolding chip_new
started l w = record { long = w; front = refl }

module _ (first second : List ℕ) (f : length first ≡ 32) (s : length second ≡ 32) where
  abbrev refused : ℕ
  refused = new_refused rate queue_bytes entries (length first) (length second)

  accepted : refused ≡ 0
  unfolding new_refused rate_refused size_of
  accepted = rw (f, s)

  the-board : (new_call rate queue_bytes entries (length first) (length second)).board ≡ board_new rate
  unfolding new_call
  the-board = rw accepted

  bank-long : (bank : List ℕ) → length bank ≡ 32 → length (new_bank refused bank) ≡ 32
  bank-long bank l = rw accepted (length-map bank (λ (w : ℕ). 0) ∙ l)

  pub fresh : (r : Done) (queue script icfg icfg1 acts : List ℕ) → length queue ≡ queue_bytes → length script ≡ 512 → length acts ≡ 4352
      → (r ≡ new_call rate queue_bytes entries (length first) (length second)) × ((icfg ≡ new_bank refused first) × (icfg1 ≡ new_bank refused second))
      → BenchOk (bench_of r.board queue script icfg icfg1 acts)
  fresh r queue script icfg icfg1 acts q w a e =
      let is : board_new rate ≡ r.board = sym (ap (λ (d : Done). d.board) e.0 ∙ the-board) in
      record {
        whole = subst Whole is (new-whole rate (omega arith) (omega arith));
        queue = q;
        script = subst (λ (b : Board). Agrees b script) is (started script w);
        first = ap length e.1.0 ∙ bank-long first f;
        second = ap length e.1.1 ∙ bank-long second s;
        acts = a;
      }
