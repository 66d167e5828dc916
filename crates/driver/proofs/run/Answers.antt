use Rattle.driver.proofs.New.{fresh}
use Rattle.driver.proofs.Streaming.{begins}
use Rattle.driver.proofs.run.Goals as goal

pub loop-turn-init : goal.loop-turn-init
loop-turn-init c = record {
  known =
      fresh c.args.icfg.now c.args.icfg1.now c.requires.4 c.requires.5 c.made.result c.args.queue.now c.args.script.now _ _ c.args.acts.now
      c.requires.2 c.requires.3 c.requires.6 (c.made.ensures.value, (c.made.ensures.first, c.made.ensures.second));
  room = c.requires.1;
  stream = begins _ _ _ _ c.requires.0 c.start-s.ensures.0 c.start-s.ensures.1 c.start-s.ensures.2;
}
