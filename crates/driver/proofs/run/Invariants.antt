use mathlib.Core.Path.{◌≡◌}
use lib.ListN.{length}
use Rattle.driver_carry.specs.Carry.{bench_of, BenchOk}
use Rattle.step.specs.Apply.{board_of}
use Rattle.driver.proofs.Streaming.{Streaming}
use Rattle.driver.proofs.run.Given as goal

abbrev pub ghost-put_lines : goal.ghost-put_lines
ghost-put_lines a =
    bench_of (board_of a.c a.panel.now) a.queue.now a.script.now a.icfg.now a.icfg1.now a.acts.now

abbrev pub invariant-loop-turn : goal.invariant-loop-turn
invariant-loop-turn l = record {
  known : BenchOk (bench_of (board_of l.c l.panel) l.queue l.script l.icfg l.icfg1 l.acts);
  room : length l.out ≡ 65536;
  stream : Streaming (length l.input) l.s.base l.s.at l.s.len l._turn;
}
