-- Ports A and H, the shift register behind port A, and the time that the LEDs' present state adds up.
use Rattle.std.specs.Prelude.{ℕ, ◌+◌, ◌-◌, ◌*◌, ◌%◌, Bool, cond, not, ◌&&◌, ◌||◌, ◌==◌, bit_and, nat_le}
use Rattle.base.specs.Bits.{is_set, bit_of}
use Rattle.panel.specs.declared.pins.Pins.{Pins}

-- at power-on the shift registers hold ones: no column is selected
abbrev pub pins_new : Pins
pins_new = record {
  led_last = 0;
  led_since = 0;
  led_pend = 0;
  pa_out = 0;
  ph_out = 0;
  pa_dir = 0;
  pa_pu = 0;
  pa_hd0 = 0;
  pa_hd = 0;
  sr_shift = 0xffff;
  sr_latched = 0xffff;
  led_lines = 0;
  led_latched = 0;
}

-- "A chip reset loses uncredited time."
abbrev pub pins_reset : Pins → Pins
pins_reset p = record {
  led_last = p.led_last;
  led_since = p.led_since;
  led_pend = 0;
  pa_out = 0;
  ph_out = 0;
  pa_dir = 0;
  pa_pu = 0;
  pa_hd0 = 0;
  pa_hd = 0;
  sr_shift = p.sr_shift;
  sr_latched = p.sr_latched;
  led_lines = 0;
  led_latched = 0;
}

-- the record with other ports and shift registers
abbrev pub with_ports : Pins → ℕ → ℕ → ℕ → ℕ → Pins
with_ports p pa ph shift latched = record {
  led_last = p.led_last;
  led_since = p.led_since;
  led_pend = p.led_pend;
  pa_out = pa;
  ph_out = ph;
  pa_dir = p.pa_dir;
  pa_pu = p.pa_pu;
  pa_hd0 = p.pa_hd0;
  pa_hd = p.pa_hd;
  sr_shift = shift;
  sr_latched = latched;
  led_lines = p.led_lines;
  led_latched = p.led_latched;
}

-- the record with another account of the LEDs' time
abbrev pub with_time : Pins → ℕ → ℕ → ℕ → ℕ → Pins
with_time p last pend lines latched = record {
  led_last = last;
  led_since = p.led_since;
  led_pend = pend;
  pa_out = p.pa_out;
  ph_out = p.ph_out;
  pa_dir = p.pa_dir;
  pa_pu = p.pa_pu;
  pa_hd0 = p.pa_hd0;
  pa_hd = p.pa_hd;
  sr_shift = p.sr_shift;
  sr_latched = p.sr_latched;
  led_lines = lines;
  led_latched = latched;
}

-- one bit into the sixteen, the most significant first
abbrev pub shift_in : ℕ → ℕ → ℕ
shift_in s bit = (s * 2 + bit) % 65536

-- a bit of port A that goes from 0 to 1
abbrev pub rises : Pins → ℕ → ℕ → Bool
rises p v bits = bit_and p.pa_out bits == 0 && is_set v bits

-- SRCLK (PA3) shifts SER (PA4) in
abbrev pub shifted_in : Bool → ℕ → ℕ → ℕ
shifted_in shifts s v = cond shifts (shift_in s (bit_of v 4)) s

-- RCLK (PA1): the outputs follow the shift register
abbrev pub latched_by : Bool → ℕ → ℕ → ℕ
latched_by latches shift latched = cond latches shift latched

-- 0x50000 written: the shift comes first
unfoldable pub pa_written : Pins → ℕ → Pins
pa_written p v = with_ports p v p.ph_out shift (latched_by (rises p v 2) shift p.sr_latched)
  where
    shift : ℕ
    shift = shifted_in (rises p v 8) p.sr_shift v

-- 0x501c0 written
abbrev pub ph_written : Pins → ℕ → Pins
ph_written p v = with_ports p p.pa_out v p.sr_shift p.sr_latched

-- the record with another direction, other pull-ups and drive strengths
abbrev pub with_drive : Pins → ℕ → ℕ → ℕ → ℕ → Pins
with_drive p dir pu hd0 hd = record {
  led_last = p.led_last;
  led_since = p.led_since;
  led_pend = p.led_pend;
  pa_out = p.pa_out;
  ph_out = p.ph_out;
  pa_dir = dir;
  pa_pu = pu;
  pa_hd0 = hd0;
  pa_hd = hd;
  sr_shift = p.sr_shift;
  sr_latched = p.sr_latched;
  led_lines = p.led_lines;
  led_latched = p.led_latched;
}

-- 0x50008, 0x50010, 0x50018, 0x5001c written
abbrev pub dir_written : Pins → ℕ → Pins
dir_written p v = with_drive p v p.pa_pu p.pa_hd0 p.pa_hd

abbrev pub pu_written : Pins → ℕ → Pins
pu_written p v = with_drive p p.pa_dir v p.pa_hd0 p.pa_hd

abbrev pub hd0_written : Pins → ℕ → Pins
hd0_written p v = with_drive p p.pa_dir p.pa_pu v p.pa_hd

abbrev pub hd_written : Pins → ℕ → Pins
hd_written p v = with_drive p p.pa_dir p.pa_pu p.pa_hd0 v

-- a byte of SPI2: its eight bits shifted in (`byte-bits` of proofs/)
abbrev pub byte_shifted : Pins → ℕ → Pins
byte_shifted p b = with_ports p p.pa_out p.ph_out ((p.sr_shift * 256 + b) % 65536) p.sr_latched

-- "LED lines PA9, PA10, PH6, PH9 light the LED in the latched column on row bit 1, 2, 3, 4"
abbrev pub lines_of : Pins → ℕ
lines_of p = bit_of p.pa_out 9 * 2 + bit_of p.pa_out 10 * 4 + (bit_of p.ph_out 6 * 8 + bit_of p.ph_out 9 * 16)

abbrev pub changes : Pins → ℕ → Bool
changes p lines = not (lines == p.led_lines) || not (p.sr_latched == p.led_latched)

-- whether crediting has first to charge the time of the state before
unfoldable pub charges : Pins → ℕ → Bool
charges p now = not (now == p.led_last) && not (lines_of p == 0) && changes p (lines_of p) && not (p.led_pend == 0)

-- the time since the last change: in darkness to none, in the same state to the time that adds up, in another as its first
unfoldable pub credited : Pins → ℕ → Pins
credited p now =
    cond (dt == 0 || lines_of p == 0)
    (with_time p now p.led_pend p.led_lines p.led_latched)
    (cond (changes p (lines_of p))
    (with_time p now dt (lines_of p) p.sr_latched)
    (with_time p now (p.led_pend + dt) p.led_lines p.led_latched))
  where
    dt : ℕ
    dt = now - p.led_last

-- the light is taken: nothing adds up, and the next span begins
abbrev pub taken : Pins → ℕ → Pins
taken p now = record {
  led_last = p.led_last;
  led_since = now;
  led_pend = 0;
  pa_out = p.pa_out;
  ph_out = p.ph_out;
  pa_dir = p.pa_dir;
  pa_pu = p.pa_pu;
  pa_hd0 = p.pa_hd0;
  pa_hd = p.pa_hd;
  sr_shift = p.sr_shift;
  sr_latched = p.sr_latched;
  led_lines = p.led_lines;
  led_latched = p.led_latched;
}

-- its part of a whole record: its moments are past
abbrev pub pins_whole : Pins → ℕ → Bool
pins_whole p now = nat_le p.led_last now && nat_le p.led_since now && nat_le p.led_pend p.led_last
