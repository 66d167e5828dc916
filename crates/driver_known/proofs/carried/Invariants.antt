use Rattle.step.specs.Apply.{board_of}
use Rattle.driver_known.proofs.carried.Given as goal

abbrev pub ghost-write_at : goal.ghost-write_at
ghost-write_at g a = board_of a.c a.panel.now

abbrev pub ghost-step : goal.ghost-step
ghost-step g a = board_of a.c a.panel.now
