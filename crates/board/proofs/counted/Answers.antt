use Rattle.regs.proofs.ReadsKept.{poll-kept}
use Rattle.regs.specs.Reads.{polled_of}
use Rattle.board.proofs.counted.Goals as goal

pub read_cnt-n-requires : goal.read_cnt-n-requires
unfolding polled_of
read_cnt-n-requires c = rw c.polled-c.ensures (poll-kept c.args.b c.requires (rw c.polled-c.ensures at c.if-c-gt-CLOCK_MAX.false)).sound.chip.t4.base
