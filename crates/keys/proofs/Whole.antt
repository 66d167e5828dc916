-- The computed tests of the keys' share of a whole record give the facts, and the facts pass the tests.
use Prim.Native.Nat.{ℕ, ◌/◌, ◌≤◌, ◌<◌}
use mathlib.Core.Path.{◌≡◌, refl, sym, subst}
use mathlib.Core.Bool.{Bool, true, false, ◌&&◌}
use native.Mathlib.Omega.{arith}
use native.Mathlib.Nat.{le_trans}
use lib.Dec.{leb, T}
use lib.Ieee.{nan, binary32, fits}
use lib.ListN.{get_or}
use borrow.Author.Tests.{leb-true, le-leb}
use Rattle.base.specs.Moments.{clock_max}
use Rattle.base.proofs.All.{all-at, all_of}
use Rattle.base.proofs.Flags.{both}
use Rattle.keys.specs.Keys.{up_to, ramp_of, keys_whole, forces, ramps_whole}
use Rattle.keys.specs.Facts.{KeysOk, RampsOk, RampsShort}
use Rattle.pressure.specs.Force.{is_force}
use Rattle.keys.specs.declared.Keys.{Keys}
use Rattle.keys.specs.declared.Ramps.{Ramps}

is_T : {b : Bool} → b ≡ true → T b
is_T e = subst T (sym e) tt

of_T : (b : Bool) → T b → b ≡ true
of_T true t = refl
of_T false t = absurd t

pub keys-facts : (k : Keys) → keys_whole k ≡ true → KeysOk k
keys-facts k e =
    let p = both (leb 1 k.vel) (leb k.vel 127) e in
    record { low = leb-true 1 k.vel p.0; high = leb-true k.vel 127 p.1 }

pub keys-test : (k : Keys) → KeysOk k → keys_whole k ≡ true
keys-test k w = rw (le-leb 1 k.vel w.low, le-leb k.vel 127 w.high)

-- of the forces the test says that they are from 0 to 1, and the code's type that they are f32s
abbrev pub Held : Ramps → Type 0
Held rs = (i : ℕ) → i < 41 → T (fits binary32 (ramp_of rs i).from) × T (fits binary32 (ramp_of rs i).to)

pub ramps-facts : (rs : Ramps) (now hz : ℕ) → Held rs → ramps_whole rs now hz ≡ true → RampsOk rs now hz
unfolding ramps_whole up_to forces
ramps-facts rs now hz held e i h =
    let a = both (up_to now rs.t0 && up_to (hz / 50) rs.dur && forces rs.from) (forces rs.to) e in
    let b = both (up_to now rs.t0 && up_to (hz / 50) rs.dur) (forces rs.from) a.0 in
    let d = both (up_to now rs.t0) (up_to (hz / 50) rs.dur) b.0 in
    record {
      t0 = leb-true (get_or rs.t0 i 0) now (all-at (λ j. leb (get_or rs.t0 j 0) now) 41 i d.0 h);
      dur = leb-true (get_or rs.dur i 0) (hz / 50) (all-at (λ j. leb (get_or rs.dur j 0) (hz / 50)) 41 i d.1 h);
      from = record { force = is_T (all-at (λ j. is_force (get_or rs.from j nan)) 41 i b.1 h); held = (held i h).0 };
      to = record { force = is_T (all-at (λ j. is_force (get_or rs.to j nan)) 41 i a.1 h); held = (held i h).1 };
    }

pub ramps-test : (rs : Ramps) (now hz : ℕ) → RampsOk rs now hz → ramps_whole rs now hz ≡ true
unfolding ramps_whole up_to forces
ramps-test rs now hz w =
    rw
    (all_of (λ j. leb (get_or rs.t0 j 0) now) 41 (λ i h. le-leb (get_or rs.t0 i 0) now (w i h).t0), all_of (λ j. leb (get_or rs.dur j 0) (hz / 50)) 41 (λ i h. le-leb (get_or rs.dur i 0) (hz / 50) (w i h).dur), all_of (λ j. is_force (get_or rs.from j nan)) 41 (λ i h. of_T (is_force (get_or rs.from i nan)) (w i h).from.force), all_of (λ j. is_force (get_or rs.to j nan)) 41 (λ i h. of_T (is_force (get_or rs.to i nan)) (w i h).to.force))

-- within 01's rates the test is enough to work the forces out
pub whole-short : (rs : Ramps) (now hz : ℕ) → now ≤ clock_max → hz ≤ 800_000_000 → ramps_whole rs now hz ≡ true → RampsShort rs
unfolding ramps_whole up_to
whole-short rs now hz c g e i h =
    let a = both (up_to now rs.t0 && up_to (hz / 50) rs.dur && forces rs.from) (forces rs.to) e in
    let b = both (up_to now rs.t0 && up_to (hz / 50) rs.dur) (forces rs.from) a.0 in
    let d = both (up_to now rs.t0) (up_to (hz / 50) rs.dur) b.0 in
    let t = leb-true (get_or rs.t0 i 0) now (all-at (λ j. leb (get_or rs.t0 j 0) now) 41 i d.0 h) in
    let l = leb-true (get_or rs.dur i 0) (hz / 50) (all-at (λ j. leb (get_or rs.dur j 0) (hz / 50)) 41 i d.1 h) in
    (le_trans t c, omega (arith, l, g))
