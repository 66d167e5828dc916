-- The SPI block's part of a whole record, as facts.
use Rattle.base.specs.Moments.{Deadline}
use Rattle.spi.specs.declared.Spi.{Spi}

pub record SpiOk (s : Spi) : Type 0 where
  pub done : Deadline s.spi1_done_at
  pub irq : Deadline s.spi1_irq_at
  pub spi2 : Deadline s.spi2_next
