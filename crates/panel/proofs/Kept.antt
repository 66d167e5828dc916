-- What a whole record asks of the pins and the LEDs' times is kept by crediting, taking, a chip reset and the ports' writes.
use Rattle.std.proofs.Common.{◌≡◌, ℕ, ◌+◌, ◌-◌, ◌≤◌, Bool, true, false, cond, not, ◌&&◌, ◌||◌, eqb, List, replicate, refl, le_trans, arith, eqb-true}
use borrow.Author.Tests.{eqb-false}
use lib.ListN.{get_or-replicate}
use Rattle.panel.specs.Map.{NoneTwice}
use Rattle.panel.specs.Pins.{lines_of, changes, charges, credited, taken, pa_written, pins_reset, with_drive, with_ports, with_time}
use Rattle.panel.specs.Led.{charged_of, credited_times}
use Rattle.panel.specs.Facts.{PinsOk, LightOk}
use Rattle.panel.specs.declared.map.Map.{Map}
use Rattle.panel.specs.declared.pins.Pins.{Pins}
use Rattle.panel.proofs.Lit.{charge-most}

-- ---- pins and LEDs

-- as the clock goes on
pub pins-later : (p : Pins) (now then : ℕ) → now ≤ then → PinsOk p now → PinsOk p then
pins-later p now then h w = record { last = le_trans w.last h; since = le_trans w.since h; pend = w.pend }

-- the ports' own writes and a byte shifted in keep the LEDs' account, so they keep both facts as they stand

pub credited-kept : (p : Pins) (now : ℕ) → PinsOk p now → PinsOk (credited p now) now
unfolding credited
credited-kept p now w = go (eqb (now - p.led_last) 0 || eqb (lines_of p) 0) (changes p (lines_of p))
  where
    go : (dark other : Bool) → PinsOk
        (cond dark (with_time p now p.led_pend p.led_lines p.led_latched)
        (cond other (with_time p now (now - p.led_last) (lines_of p) p.sr_latched)
        (with_time p now (p.led_pend + (now - p.led_last)) p.led_lines p.led_latched))) now
    go true other = let a = w.last in let b = w.pend in record { last = omega arith; since = w.since; pend = omega arith }
    go false true = let a = w.last in let b = w.pend in record { last = omega arith; since = w.since; pend = omega arith }
    go false false = let a = w.last in let b = w.pend in record { last = omega arith; since = w.since; pend = omega arith }

-- 0 cycles have passed exactly when it is the same moment
same-moment : (a b : ℕ) → b ≤ a → eqb (a - b) 0 ≡ eqb a b
same-moment a b h = go (eqb (a - b) 0) refl (eqb a b) refl
  where
    go : (s : Bool) → eqb (a - b) 0 ≡ s → (t : Bool) → eqb a b ≡ t → s ≡ t
    go true e true f = refl
    go false e false f = refl
    go true e false f = let q = eqb-true (a - b) 0 e in let r : a ≡ b = omega arith in absurd (eqb-false a b f r)
    go false e true f = let q = eqb-true a b f in let r : a - b ≡ 0 = omega arith in absurd (eqb-false (a - b) 0 e r)

-- W4 through crediting, on a map in which no id stands twice
module _ (m : Map) (once : NoneTwice m) (p : Pins) (now : ℕ) (acc : List ℕ) (w : PinsOk p now) (lit : LightOk p acc) where
  abbrev dt : ℕ
  dt = now - p.led_last

  abbrev Lit : Bool → Bool → Bool → Bool → Type 0
  Lit z dark other none =
      LightOk
      (cond (z || dark) (with_time p now p.led_pend p.led_lines p.led_latched)
      (cond other (with_time p now dt (lines_of p) p.sr_latched)
      (with_time p now (p.led_pend + dt) p.led_lines p.led_latched)))
      (cond (not z && not dark && other && not none) (charged_of m p.led_lines p.led_latched p.led_pend acc) acc)

  light : (z dark other none : Bool) → (none ≡ true → p.led_pend ≡ 0) → Lit z dark other none
  light true dark other none f i h = let a = lit i h in let b = w.last in omega arith
  light false true other none f i h = let a = lit i h in let b = w.last in omega arith
  light false false false none f i h = let a = lit i h in let b = w.last in omega arith
  light false false true true f i h = let a = lit i h in let b = w.last in let c = f refl in omega arith
  light false false true false f i h =
      let a = lit i h in
      let b = w.last in
      let c = charge-most m once p.led_lines p.led_latched p.led_pend acc i in
      omega arith

  pub light-credited : LightOk (credited p now) (credited_times m p now acc)
  unfolding credited credited_times charges
  light-credited =
      rw (same-moment now p.led_last w.last)
      (light (eqb now p.led_last) (eqb (lines_of p) 0) (changes p (lines_of p)) (eqb p.led_pend 0)
      (λ e. eqb-true p.led_pend 0 e))

-- the light is taken: every LED begins at 0
pub taken-kept : (p : Pins) (now : ℕ) → PinsOk p now → PinsOk (taken p now) now
taken-kept p now w = record { last = w.last; since = omega arith; pend = omega arith }

-- "A chip reset loses uncredited time."
pub reset-kept : (p : Pins) (now : ℕ) → PinsOk p now → PinsOk (pins_reset p) now
reset-kept p now w = record { last = w.last; since = w.since; pend = omega arith }

pub light-reset : (p : Pins) (acc : List ℕ) → LightOk p acc → LightOk (pins_reset p) acc
light-reset p acc lit i h = let a = lit i h in omega arith

-- ---- writes of the ports, and a byte shifted in: the LEDs' account stays as it was

module _ (p : Pins) (now : ℕ) (w : PinsOk p now) where
  pub ports-kept : (pa ph shift latched : ℕ) → PinsOk (with_ports p pa ph shift latched) now
  ports-kept pa ph shift latched = record { last = w.last; since = w.since; pend = w.pend }

  pub pa-kept : (v : ℕ) → PinsOk (pa_written p v) now
  unfolding pa_written
  pa-kept v = record { last = w.last; since = w.since; pend = w.pend }

  pub drive-kept : (dir pu hd0 hd : ℕ) → PinsOk (with_drive p dir pu hd0 hd) now
  drive-kept dir pu hd0 hd = record { last = w.last; since = w.since; pend = w.pend }

module _ (p : Pins) (acc : List ℕ) (lit : LightOk p acc) where
  pub light-ports : (pa ph shift latched : ℕ) → LightOk (with_ports p pa ph shift latched) acc
  light-ports pa ph shift latched = lit

  pub light-pa : (v : ℕ) → LightOk (pa_written p v) acc
  unfolding pa_written
  light-pa v = lit

  pub light-drive : (dir pu hd0 hd : ℕ) → LightOk (with_drive p dir pu hd0 hd) acc
  light-drive dir pu hd0 hd = lit

-- every LED begins at 0
pub light-taken : (p : Pins) (now : ℕ) → LightOk (taken p now) (replicate 41 0)
light-taken p now i h = rw (get_or-replicate {A = ℕ} 41 i 0 0 h) (omega arith)
