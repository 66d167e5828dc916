use mathlib.Core.Path.{◌≡◌}
use lib.ListN.{length}
use Rattle.driver_carry.specs.Carry.{bench_of}
use Rattle.step.specs.Apply.{board_of}
use Rattle.driver_records.specs.Records.{Lined}
use Rattle.driver_records.proofs.Turns.{turns_left}
use Rattle.driver_records.proofs.put_lines.Given as goal

abbrev pub ghost-carried : goal.ghost-carried
ghost-carried g a =
    bench_of (board_of a.c a.panel.now) a.queue.now a.script.now a.icfg.now a.icfg1.now a.acts.now

abbrev pub invariant-loop-found : goal.invariant-loop-found
invariant-loop-found g l = record {
  lined : Lined g.h l.bytes l.base l.last (bench_of (board_of l.c l.panel) l.queue l.script l.icfg l.icfg1 l.acts) l.at l.out l.put l.ended;
  long : length l.out ≡ length l.initial.out;
}

abbrev pub decreases-loop-found : goal.decreases-loop-found
decreases-loop-found g l = turns_left l.ended (length l.bytes) l.at
