use Rattle.regs.proofs.Pages.{none_written, one_written}
use Rattle.regs.proofs.writes.tmrs_write.Goals as goal

pub returns-then-addr-ne65 : goal.returns-then-addr-ne65
returns-then-addr-ne65 c = none_written c.args.t c.args.addr c.args.v c.args.now c.args.hz c.if-addr-ne65.true

pub returns : goal.returns
returns c =
    rw (c.put-4.ensures, c.put-3.ensures, c.put-2.ensures, c.put.ensures, c.tmr_write-x.ensures, c.timer_on.ensures)
    (one_written c.args.t c.args.addr c.args.v c.args.now c.args.hz)
