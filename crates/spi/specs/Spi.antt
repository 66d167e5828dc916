-- SPI1 and SPI2: starts, the moments at which their interrupts come, and switching SPI1's off.
use Rattle.std.specs.Prelude.{ℕ, ◌+◌, min, Bool, cond, ◌&&◌, ltb}
use Rattle.base.specs.Moments.{never, is_deadline}
use Rattle.times.specs.Clocks.{spi1_cycles, spi2_cycles}
use Rattle.spi.specs.declared.Spi.{Spi}

abbrev pub spi_new : Spi
spi_new =
    record {
      spi1_done_at = 0;
      spi1_irq_at = never;
      spi1_wire = 0;
      spi2_next = never;
      spi1_pending = 0;
      spi2_pending = 0;
    }

-- SPI1 with other moments (done, its interrupt), time on the wire and pending; SPI2 with another moment and pending
abbrev pub spi1_with : Spi → ℕ → ℕ → ℕ → ℕ → Spi
spi1_with s done at wire pending =
    record {
      spi1_done_at = done;
      spi1_irq_at = at;
      spi1_wire = wire;
      spi2_next = s.spi2_next;
      spi1_pending = pending;
      spi2_pending = s.spi2_pending;
    }

abbrev pub spi2_with : Spi → ℕ → ℕ → Spi
spi2_with s next pending =
    record {
      spi1_done_at = s.spi1_done_at;
      spi1_irq_at = s.spi1_irq_at;
      spi1_wire = s.spi1_wire;
      spi2_next = next;
      spi1_pending = s.spi1_pending;
      spi2_pending = pending;
    }

-- SPI1 starts: done after its cycles, which count as time on the wire; its interrupt comes then if it is on
unfoldable pub spi1_started : Spi → ℕ → ℕ → Bool → ℕ → ℕ → Spi
spi1_started s bytes baud irq now hz =
    spi1_with s (now + spi1_cycles bytes baud hz) (cond irq (now + spi1_cycles bytes baud hz) s.spi1_irq_at)
    (s.spi1_wire + spi1_cycles bytes baud hz) s.spi1_pending

abbrev pub spi1_off : Spi → Spi
spi1_off s = spi1_with s s.spi1_done_at never s.spi1_wire 0

-- SPI2's interrupt, if it is on, comes after the transfer's cycles; without it nothing is kept
unfoldable pub spi2_started : Spi → ℕ → ℕ → Bool → ℕ → ℕ → Spi
spi2_started s bytes baud irq now hz =
    spi2_with s (cond irq (now + spi2_cycles bytes baud hz) s.spi2_next) s.spi2_pending

-- at its deadline an interrupt is raised, once
unfoldable pub spi2_at : Spi → ℕ → Spi
spi2_at s now =
    cond (ltb now s.spi2_next) s
    (spi2_with s never 1)

unfoldable pub spi1_at : Spi → ℕ → Spi
spi1_at s now =
    cond (ltb now s.spi1_irq_at) s
    (spi1_with s s.spi1_done_at never s.spi1_wire 1)

-- the earlier of its deadlines
abbrev pub spi_next : Spi → ℕ
spi_next s = min s.spi1_irq_at s.spi2_next

-- its part of a whole record: three deadlines
abbrev pub spi_whole : Spi → Bool
spi_whole s = is_deadline s.spi1_done_at && is_deadline s.spi1_irq_at && is_deadline s.spi2_next
