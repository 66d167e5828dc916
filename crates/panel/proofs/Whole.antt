-- The computed tests of the pins' and the LEDs' share of a whole record give the facts, and the facts pass the tests.
use Rattle.std.proofs.Common.{◌≡◌, ℕ, ◌-◌, ◌≤◌, true, ◌&&◌, leb, List, get_or, arith, le-leb, leb-true}
use Rattle.base.proofs.All.{all-at, all_of}
use Rattle.base.proofs.Flags.{both}
use Rattle.panel.specs.Pins.{pins_whole}
use Rattle.keys.specs.Keys.{up_to}
use Rattle.panel.specs.Facts.{PinsOk, LightOk}
use Rattle.panel.specs.declared.pins.Pins.{Pins}

pub pins-facts : (p : Pins) (now : ℕ) → pins_whole p now ≡ true → PinsOk p now
pins-facts p now e =
    let a = both (leb p.led_last now && leb p.led_since now) (leb p.led_pend p.led_last) e in
    let b = both (leb p.led_last now) (leb p.led_since now) a.0 in
    record { last = leb-true _ _ b.0; since = leb-true _ _ b.1; pend = leb-true _ _ a.1 }

pub pins-test : (p : Pins) (now : ℕ) → PinsOk p now → pins_whole p now ≡ true
pins-test p now w =
    rw (le-leb p.led_last now w.last, le-leb p.led_since now w.since, le-leb p.led_pend p.led_last w.pend)

-- the LEDs' times are tested against what `led_last` leaves beside the uncredited time
pub light-facts : (p : Pins) (acc : List ℕ) → p.led_pend ≤ p.led_last → up_to (p.led_last - p.led_pend) acc ≡ true → LightOk p acc
unfolding up_to
light-facts p acc h e i k =
    let t = leb-true (get_or acc i 0) (p.led_last - p.led_pend) (all-at (λ j. leb (get_or acc j 0) (p.led_last - p.led_pend)) 41 i e k) in
    omega (arith, t)

pub light-test : (p : Pins) (acc : List ℕ) → LightOk p acc → up_to (p.led_last - p.led_pend) acc ≡ true
unfolding up_to
light-test p acc w =
    all_of (λ j. leb (get_or acc j 0) (p.led_last - p.led_pend)) 41
    (λ i k. let t = w i k in le-leb (get_or acc i 0) (p.led_last - p.led_pend) (omega arith))
