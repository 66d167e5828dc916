-- The SARADC: its registers, and what a conversion reads.
use Rattle.std.specs.Prelude.{ℕ, zero, suc, ◌/◌, ◌%◌, ◌^◌, min, Bool, false, cond, not, List, eqb, ltb, Float, get_or, set}
use Rattle.std.specs.Int.Bits.{bit_and, bit_or}
use Rattle.base.specs.Bits.{is_set, when_of, has_bit}
use Rattle.keys.specs.Keys.{ramp_of}
use Rattle.panel.specs.Map.{id_at}
use Rattle.panel.specs.Matrix.{selected}
use Rattle.keys.specs.declared.Ramps.{Ramps}
use Rattle.panel.specs.declared.map.Map.{Map}
use Rattle.panel.specs.declared.pins.Pins.{Pins}
use Rattle.pressure.specs.Force.{ramp_at}
use Rattle.pressure.specs.Noise.{noise_of, sample_of}
use Rattle.pressure.specs.Pin.{pin_of}
use Rattle.pressure.specs.Value.{open_key, value_of}
use Rattle.pressure.specs.declared.pin.Pin.{Pin}
use Rattle.pressure.specs.declared.pin.Pin.TheVariants.{Low, Through, Floating}
use Rattle.adc.specs.declared.Adc.{Adc}
use Rattle.adc.specs.declared.Sampled.{Sampled}
use Rattle.adc.specs.declared.Wrote.{Wrote}

-- at power-on, and after a chip reset
abbrev pub adc_new : Adc
adc_new = record { con = 0; noise = 1; done = 0; irq = 0; sample = 0 }

-- pin n of port A by its direction, output, drive strength and pull-up
abbrev pub pin_at : Pins → ℕ → Pin
pin_at p n =
    pin_of (has_bit p.pa_dir n) (has_bit p.pa_out n) (has_bit p.pa_hd0 n) (has_bit p.pa_hd n) (has_bit p.pa_pu n)

-- the value of a key by its force now, the exponent 153 fiftieths; no key is an open one
abbrev pub key_value : Ramps → ℕ → Float → ℕ → ℕ
key_value ramps now ohms id = cond (ltb id 41) (value_of 153 ohms (ramp_at (ramp_of ramps id) now)) open_key

-- "The least over selected keys is taken": of the first n columns
unfoldable pub least_to : Map → Ramps → ℕ → ℕ → ℕ → Float → ℕ → ℕ
least_to m ramps latched row now ohms zero = open_key
least_to m ramps latched row now ohms (suc n) =
    cond (selected latched n) (min (least_to m ramps latched row now ohms n) (key_value ramps now ohms (id_at m row n)))
    (least_to m ramps latched row now ohms n)

-- "driven low, driven through a resistance in ohms, or floating: 0; a value; the stored ADC value"; "Noise moves on only when a value is worked out"
unfoldable pub pin_reads : Pin → (Float → ℕ) → ℕ → ℕ → Sampled
pin_reads Low least stored noise = record { sample = 0; noise = noise }
pin_reads (Through ohms) least stored noise = record { sample = sample_of (least ohms) (noise_of noise); noise = noise_of noise }
pin_reads Floating least stored noise = record { sample = stored; noise = noise }

-- channel 0 is row 3 on PA7, channel 1 row 4 on PA8; any other has its stored value
unfoldable pub channel_reads : Map → Pins → Ramps → ℕ → ℕ → ℕ → ℕ → Sampled
channel_reads m p ramps stored now noise ch =
    cond (eqb ch 0) (pin_reads (pin_at p 7) (λ ohms. least_to m ramps p.sr_latched 3 now ohms 11) stored noise)
    (cond (eqb ch 1) (pin_reads (pin_at p 8) (λ ohms. least_to m ramps p.sr_latched 4 now ohms 11) stored noise)
    (record { sample = stored; noise = noise }))

-- CON reads as written but for bit 7: done
abbrev pub con_read : Adc → ℕ
con_read a = bit_or (bit_and a.con 0xffffff7f) (when_of (not (eqb a.done 0)) 0x80)

-- the converter with another CON, noise, done flag, interrupt line and sample
abbrev pub adc_with : Adc → ℕ → ℕ → ℕ → ℕ → ℕ → Adc
adc_with a con noise done irq sample = record { con = con; noise = noise; done = done; irq = irq; sample = sample }

-- bit 6 without bit 4 acknowledges
abbrev pub acknowledged : Adc → ℕ → Wrote
acknowledged a v =
    record { adc = adc_with a v a.noise 0 0 a.sample; due = not (eqb a.irq 0) }

-- the interrupt line, and whether it changes
abbrev pub line_of : Bool → ℕ
line_of raises = cond raises 1 0

abbrev pub moves_of : Bool → ℕ → Bool
moves_of raises irq = cond raises (eqb irq 0) (not (eqb irq 0))

-- bit 6 with bit 4 converts at once; with bit 5 it raises the interrupt. Only a change of that line is timed.
unfoldable pub converted : Adc → Map → Pins → Ramps → List ℕ → ℕ → ℕ → Wrote
converted a m p ramps values now v = record {
  adc = adc_with a v got.noise 1 (line_of (is_set v 0x20)) got.sample;
  due = moves_of (is_set v 0x20) a.irq;
}
  where
    got : Sampled
    got = channel_reads m p ramps (get_or values (v / 2 ^ 8 % 16) 0) now a.noise (v / 2 ^ 8 % 16)

-- CON written
unfoldable pub con_written : Adc → Map → Pins → Ramps → List ℕ → ℕ → ℕ → Wrote
con_written a m p ramps values now v =
    cond (eqb (bit_and v 0x40) 0)
    (record { adc = adc_with a v a.noise a.done a.irq a.sample; due = false })
    (cond (eqb (bit_and v 0x10) 0) (acknowledged a v) (converted a m p ramps values now v))

-- action Adc: sixteen channels, values up to 1023
abbrev pub value_set : List ℕ → ℕ → ℕ → List ℕ
value_set values ch v = cond (ltb ch 16) (set values ch (min v 1023)) values
