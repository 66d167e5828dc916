use Rattle.board.specs.Calls.{read_chip}
use Rattle.driver_ways.proofs.registers.found_by.Goals as goal

pub returns-then-polls : goal.returns-then-polls
unfolding read_chip
returns-then-polls c = rw (← c.polls.ensures, c.if-polls.true) c.polled.ensures

pub returns : goal.returns
unfolding read_chip
returns c = rw (← c.polls.ensures, c.if-polls.false)
