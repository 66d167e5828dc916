-- The computed test of a whole record gives the facts, and the facts pass the test.
use mathlib.Core.Path.{◌≡◌}
use mathlib.Core.Bool.{true, ◌&&◌}
use Rattle.base.proofs.Deadlines.{deadline-fact, deadline-test}
use Rattle.base.proofs.Flags.{both}
use Rattle.base.specs.Moments.{is_deadline}
use Rattle.spi.specs.declared.Spi.{Spi}
use Rattle.spi.specs.Spi.{spi_whole}
use Rattle.spi.specs.Facts.{SpiOk}

pub spi-facts : (s : Spi) → spi_whole s ≡ true → SpiOk s
spi-facts s e =
    let p = both (is_deadline s.spi1_done_at && is_deadline s.spi1_irq_at) (is_deadline s.spi2_next) e in
    let q = both (is_deadline s.spi1_done_at) (is_deadline s.spi1_irq_at) p.0 in
    record {
      done = deadline-fact s.spi1_done_at q.0;
      irq = deadline-fact s.spi1_irq_at q.1;
      spi2 = deadline-fact s.spi2_next p.1;
    }

pub spi-test : (s : Spi) → SpiOk s → spi_whole s ≡ true
spi-test s w =
    rw (deadline-test s.spi1_done_at w.done, deadline-test s.spi1_irq_at w.irq, deadline-test s.spi2_next w.spi2)
