use Rattle.refusals_rows.specs.Rows.{chip_from}
use Rattle.refusals_rows.proofs.chip_of.Goals as goal

pub returns : goal.returns
unfolding chip_from
returns c = rw (c.clock_of-c.ensures, c.t4_of-c.ensures, c.tmrs_of-tmr.ensures, c.audio_of-c.ensures, c.spi_of-c.ensures, c.uart_of-c.ensures, c.host_of-c.ensures, c.script_of-c.ensures, c.pins_of-c.ensures, c.encs_of-enc.ensures, c.low-exc_pending.ensures)
