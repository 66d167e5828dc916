use lib.Dec.{ltb}
use Rattle.driver_turns.specs.Held.{going_by}
use Rattle.driver_ways.proofs.steps.step.Given as goal

abbrev pub ghost-all_due : goal.ghost-all_due
ghost-all_due g a = going_by a.c a.panel.now 0 0 (ltb 0 a.c.script.count)
