-- Two ports are the same exactly when their cores are equal; two snaps likewise.
use Prim.Native.Nat.{ℕ, ◌<◌}
use mathlib.Core.Path.{◌≡◌, refl, ap, sym, ◌∙◌}
use mathlib.Core.Bool.{Bool, true, false, ◌&&◌, false≢true}
use mathlib.Core.List.{List}
use native.Mathlib.Omega.{arith}
use lib.Dec.{eqb}
use lib.ListN.{length, get_or}
use lib.Seq.{ext_get_or}
use lib.Pointwise.{pointwise, bytes_decides}
use borrow.Author.Tests.{eq-eqb, eqb-true}
use Rattle.std.specs.Prelude.{Result, Ok}
use Rattle.base.specs.declared.Refusal.{Refusal}
use Rattle.base.proofs.All.{all-at, all_of}
use Rattle.base.proofs.Flags.{and_left, and_right}
use Rattle.p33.specs.declared.P33.{P33}
use Rattle.p33.specs.declared.Snap.{Snap}
use Rattle.p33.specs.P33.{memory_bytes}
use Rattle.p33.specs.Sameness.{Core, core, same_record, agree, same_regs, same_of, same_snap}

module _ (x y : List ℕ) (ex : length x ≡ memory_bytes) (ey : length y ≡ memory_bytes) where
  pub same-regs-exact : same_regs x y ≡ true → x ≡ y
  unfolding same_regs
  same-regs-exact e =
      ext_get_or 0 x y (ex ∙ sym ey)
      (λ i h. eqb-true (get_or x i 0) (get_or y i 0) (all-at (agree x y) memory_bytes i e (let u : i < memory_bytes = omega arith in u)))

pub same-regs-all : (x y : List ℕ) → x ≡ y → same_regs x y ≡ true
unfolding same_regs
same-regs-all x y q = all_of (agree x y) memory_bytes (λ i h. eq-eqb (get_or x i 0) (get_or y i 0) (ap (λ (l : List ℕ). get_or l i 0) q))

-- equality of two memories, as a slice's `==` says it
pub equal_is_same : (x y : List ℕ) → length x ≡ memory_bytes → length y ≡ memory_bytes → pointwise eqb x y ≡ same_regs x y
equal_is_same x y ex ey = go (pointwise eqb x y) refl (same_regs x y) refl
  where
    go : (s : Bool) → pointwise eqb x y ≡ s → (t : Bool) → same_regs x y ≡ t → pointwise eqb x y ≡ same_regs x y
    go true e true f = e ∙ sym f
    go true e false f = absurd (false≢true (sym f ∙ same-regs-all x y ((bytes_decides x y).0 e)))
    go false e true f = absurd (false≢true (sym e ∙ (bytes_decides x y).1 (same-regs-exact x y ex ey f)))
    go false e false f = e ∙ sym f

ok_is : {s t : Bool} → ◌≡◌ {A = Result Bool Refusal} (Ok s) (Ok t) → s ≡ t
ok_is e = cc

-- a chain of five tests
pub record Five (a b c d e : Bool) : Type 0 where
  pub first : a ≡ true
  pub second : b ≡ true
  pub third : c ≡ true
  pub fourth : d ≡ true
  pub fifth : e ≡ true

pub five : (a b c d e : Bool) → (a && b && c && d && e) ≡ true → Five a b c d e
five a b c d e t =
    let abcd = and_left (a && b && c && d) e t in
    let abc = and_left (a && b && c) d abcd in
    let ab = and_left (a && b) c abc in
    record {
      first = and_left a b ab;
      second = and_right a b ab;
      third = and_right (a && b) c abc;
      fourth = and_right (a && b && c) d abcd;
      fifth = and_right (a && b && c && d) e t;
    }

module _ (a : P33) (x : List ℕ) (b : P33) (y : List ℕ) where
  pub core-same : core a x ≡ core b y → (same_record a b && same_regs x y) ≡ true
  core-same q =
      rw (eq-eqb a.con b.con (ap (λ (k : Core). k.con) q), eq-eqb a.dat b.dat (ap (λ (k : Core). k.dat) q), eq-eqb a.step b.step (ap (λ (k : Core). k.step) q), eq-eqb a.cmd b.cmd (ap (λ (k : Core). k.cmd) q), eq-eqb a.addr b.addr (ap (λ (k : Core). k.addr) q), same-regs-all x y (ap (λ (k : Core). k.regs) q))

  module _ (ex : length x ≡ memory_bytes) (ey : length y ≡ memory_bytes) where
    -- the flag is true exactly where the cores are equal
    pub same-exact : same_of a x b y ≡ Ok true → core a x ≡ core b y
    unfolding same_of
    same-exact t = go (ok_is (rw (eq-eqb (length x) memory_bytes ex, eq-eqb (length y) memory_bytes ey) at t))
      where
        go : (same_record a b && same_regs x y) ≡ true → core a x ≡ core b y
        go u =
            let f = five (eqb a.con b.con) (eqb a.dat b.dat) (eqb a.step b.step) (eqb a.cmd b.cmd) (eqb a.addr b.addr) (and_left (same_record a b) (same_regs x y) u) in
            let r = same-regs-exact x y ex ey (and_right (same_record a b) (same_regs x y) u) in
            rw (eqb-true a.con b.con f.first, eqb-true a.dat b.dat f.second, eqb-true a.step b.step f.third, eqb-true a.cmd b.cmd f.fourth, eqb-true a.addr b.addr f.fifth, r)

    pub same-all : core a x ≡ core b y → same_of a x b y ≡ Ok true
    unfolding same_of
    same-all q = rw (eq-eqb (length x) memory_bytes ex, eq-eqb (length y) memory_bytes ey, core-same q)

-- ---- snaps

pub same-snap-exact : (a b : Snap) → same_snap a b ≡ true → a ≡ b
same-snap-exact a b t =
    let five-of : Bool = eqb a.0 b.0 && eqb a.1 b.1 && eqb a.2 b.2 && eqb a.3 b.3 && eqb a.4 b.4 in
    let f = five (eqb a.0 b.0) (eqb a.1 b.1) (eqb a.2 b.2) (eqb a.3 b.3) (eqb a.4 b.4) (and_left five-of (eqb a.5 b.5) t) in
    let q : ◌≡◌ {A = Snap} (record { 0 = a.0; 1 = a.1; 2 = a.2; 3 = a.3; 4 = a.4; 5 = a.5 }) (record { 0 = b.0; 1 = b.1; 2 = b.2; 3 = b.3; 4 = b.4; 5 = b.5 }) =
    rw (eqb-true a.0 b.0 f.first, eqb-true a.1 b.1 f.second, eqb-true a.2 b.2 f.third, eqb-true a.3 b.3 f.fourth, eqb-true a.4 b.4 f.fifth, eqb-true a.5 b.5 (and_right five-of (eqb a.5 b.5) t)) in
    q

pub same-snap-all : (a b : Snap) → a ≡ b → same_snap a b ≡ true
same-snap-all a b q =
    rw (eq-eqb a.0 b.0 (ap (λ (s : Snap). s.0) q), eq-eqb a.1 b.1 (ap (λ (s : Snap). s.1) q), eq-eqb a.2 b.2 (ap (λ (s : Snap). s.2) q), eq-eqb a.3 b.3 (ap (λ (s : Snap). s.3) q), eq-eqb a.4 b.4 (ap (λ (s : Snap). s.4) q), eq-eqb a.5 b.5 (ap (λ (s : Snap). s.5) q))
