-- The LEDs' light: how long each was lit, charged by places of the map, and taken.
use Rattle.std.specs.Prelude.{ℕ, zero, suc, ◌+◌, ◌-◌, ◌*◌, ◌%◌, ◌^◌, max, cond, List, ◌==◌, nat_lt, slice_index, slice_set}
use Rattle.base.specs.Bits.{has_bit}
use Rattle.panel.specs.Matrix.{selected}
use Rattle.panel.specs.Pins.{charges, credited, taken}
use Rattle.panel.specs.declared.led.Taken.{Taken}
use Rattle.panel.specs.declared.map.Map.{Map}
use Rattle.panel.specs.declared.pins.Pins.{Pins}

-- the LED of that id lit for dt more; an id above 40 has none
abbrev pub charge_id : List ℕ → ℕ → ℕ → List ℕ
charge_id acc id dt = cond (nat_lt id 41) (slice_set acc id ((slice_index acc id + dt) % 2 ^ 64)) acc

-- in a column, of rows 1 to n those whose line is on
unfoldable pub charge_rows : List ℕ → ℕ → ℕ → ℕ → List ℕ → ℕ → List ℕ
charge_rows ids lines col dt acc zero = acc
charge_rows ids lines col dt acc (suc n) =
    cond (has_bit lines (suc n)) (charge_id (charge_rows ids lines col dt acc n) (slice_index ids (suc n * 11 + col)) dt)
    (charge_rows ids lines col dt acc n)

-- of the first n columns those that are selected
unfoldable pub charge_cols : List ℕ → ℕ → ℕ → ℕ → List ℕ → ℕ → List ℕ
charge_cols ids lines latched dt acc zero = acc
charge_cols ids lines latched dt acc (suc n) =
    cond (selected latched n) (charge_rows ids lines n dt (charge_cols ids lines latched dt acc n) 4)
    (charge_cols ids lines latched dt acc n)

unfoldable pub charged_of : Map → ℕ → ℕ → ℕ → List ℕ → List ℕ
charged_of m lines latched dt acc = charge_cols m.ids lines latched dt acc 11

-- the time that adds up charged to its LEDs
unfoldable pub flushed_times : Map → Pins → List ℕ → List ℕ
flushed_times m p acc = cond (p.led_pend == 0) acc (charged_of m p.led_lines p.led_latched p.led_pend acc)

-- what crediting does to the times
unfoldable pub credited_times : Map → Pins → ℕ → List ℕ → List ℕ
credited_times m p now acc =
    cond (charges p now) (charged_of m p.led_lines p.led_latched p.led_pend acc) acc

-- the light is taken: "two whole numbers, lit cycles and span", after crediting and charging; the span is at least 1
unfoldable pub lit_of : Map → Pins → ℕ → List ℕ → List ℕ
lit_of m p now acc = flushed_times m (credited p now) (credited_times m p now acc)

abbrev pub span_of : Pins → ℕ → ℕ
span_of p now = max (now - p.led_since) 1

unfoldable pub taken_of : Map → Pins → ℕ → List ℕ → Taken
taken_of m p now acc = record { pins = taken (credited p now) now; lit = lit_of m p now acc; span = span_of p now }
