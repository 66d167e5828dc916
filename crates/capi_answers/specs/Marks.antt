-- A record that marks its fields: each number is its place in the order of declaration.
use Rattle.std.specs.Prelude.{[], ◌∷◌, replicate}
use Rattle.std.specs.Float.{binary32}
use Rattle.std.specs.Float.Ieee.{of_bits}
use Rattle.encoders.specs.declared.Enc.{Enc}
use Rattle.state.specs.declared.Board.{Board}
use Rattle.timers.specs.declared.timer.Tmr.{Tmr}

abbrev tmr : Tmr
tmr = record { start = 17; next = 18; con = 19; prd = 20; cnt0 = 21; pending = 22 }

abbrev enc : Enc
enc = record { next = 79; pending = 80; state = 81 }

abbrev pub marks : Board
marks = record { chip = record { clock = record { cycles = 1; next_due = 2; cycle_ticks = 3; room_cap = 4; skipped = 5; in_isr = 6; hz = 7; skip_idle = 8 }; t4 = record { base = 9; last_cnt_read = 10; con = 11; cnt_streak = 12 }; t5 = record { next = 13; pending = 14; con = 15; prd = 16 }; tmr = tmr ∷ tmr ∷ tmr ∷ tmr ∷ []; tick = record { start = 23; next = 24; pending = 25; ctl = 26; prd = 27 }; audio = record { next = 28; halves = 29; half = 30; con0 = 31; con1 = 32; con3 = 33; pend = 34; adr = 35; len = 36 }; spi = record { spi1_done_at = 37; spi1_irq_at = 38; spi1_wire = 39; spi2_next = 40; spi1_pending = 41; spi2_pending = 42 }; uart = record { next = 43; ot_next = 44; dropped = 45; con0 = 46; rxsadr = 47; rxeadr = 48; rxcnt = 49; otcnt = 50; hrxcnt = 51; since = 52; wr = 53; rpnd = 54; otpnd = 55; tpnd = 56; irq = 57; place = 58; count = 59 }; host = record { usb_next = 60; usb_period = 61; wdt_at = 62 }; script = record { at = 63; place = 64; count = 65 }; pins = record { led_last = 66; led_since = 67; led_pend = 68; pa_out = 69; ph_out = 70; pa_dir = 71; pa_pu = 72; pa_hd0 = 73; pa_hd = 74; sr_shift = 75; sr_latched = 76; led_lines = 77; led_latched = 78 }; enc = enc ∷ enc ∷ enc ∷ enc ∷ enc ∷ enc ∷ enc ∷ enc ∷ []; keys = record { down = 82; vel = 83 }; adc = record { con = 84; noise = 85; done = 86; irq = 87; sample = 88 }; latch = record { ilat = 89; exc_pending = 90 } }; panel = record { acc = replicate 41 (91); ramps = record { t0 = replicate 41 (92); dur = replicate 41 (93); from = replicate 41 (of_bits binary32 0x3e80_0000); to = replicate 41 (of_bits binary32 0x3f00_0000) }; values = replicate 16 (96) } }
