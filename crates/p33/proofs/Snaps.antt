-- Equal snaps of one port at two times: its core is as it was. Registers change only together with `changed`, which only counts up.
use Prim.Native.Nat.{ℕ, ◌+◌, ◌%◌, ◌≤◌}
use mathlib.Core.Path.{◌≡◌, refl, ap, ◌∙◌}
use mathlib.Core.Bool.{Bool, true, false, cond}
use mathlib.Core.List.{List, [], ◌∷◌}
use native.Mathlib.Omega.{arith}
use lib.Dec.{eqb}
use lib.ListN.{get_or, set}
use lib.Seq.{set-get_or}
use borrow.Author.Tests.{eqb-true}
use Rattle.p33.specs.declared.P33.{P33}
use Rattle.p33.specs.declared.Snap.{Snap}
use Rattle.std.specs.Prelude.{Option, Some}
use Rattle.base.specs.Bits.{is_set}
use Rattle.p33.specs.declared.Event.{Event}
use Rattle.p33.specs.declared.Event.TheVariants.{Wdt, Reset}
use Rattle.p33.specs.P33.{port_after, snap_of, with_event, chip_reset_in, reset_of, reset_in, write_of, write_in, noted, counted, resets, access_of, access_in, transfer_of, transfer_in, with_con, addressed, stepped, kept_of, made_of}
use Rattle.p33.specs.Sameness.{core}
use Rattle.p33.specs.Runs.{Held, Call, read, write, reset, take, reg, after, run}
use Rattle.p33.proofs.Outcomes.{access-outcome, transfer-outcome, written-outcome, write-outcome, reset-outcome}

-- from a count and a memory to another: the count is no less, and if it is the same the memory is
pub record Grows (n : ℕ) (m : List ℕ) (k : ℕ) (r : List ℕ) : Type 0 where
  pub more : n ≤ k
  pub still : k ≡ n → r ≡ m

stays : (n : ℕ) (m : List ℕ) → Grows n m n m
stays n m = record { more = omega arith; still = λ _. refl }

one_more : (n : ℕ) (m r : List ℕ) → Grows n m (n + 1) r
one_more n m r = record { more = omega arith; still = λ e. absurd (omega arith) }

then : (n k l : ℕ) (m r s : List ℕ) → Grows n m k r → Grows k r l s → Grows n m l s
then n k l m r s g h =
    record {
      more = omega (arith, g.more, h.more);
      still = λ e. let back : l ≡ k = omega (arith, g.more, h.more) in let start : k ≡ n = omega (arith, g.more, h.more) in h.still back ∙ g.still start;
    }

pub noted-count : (p : P33) (i v : ℕ) → (noted p i v).changed ≡ p.changed
unfolding noted
noted-count p i v = go (eqb i 0x80) (resets i v) (Some (Wdt (is_set v 0x40))) (Some Reset)
  where
    go : (s t : Bool) (e f : Option Event) → (cond s (with_event p e) (cond t (with_event p f) p)).changed ≡ p.changed
    go true t e f = refl
    go false true e f = refl
    go false false e f = refl

-- the one-register update: a value that is the old one is no change
update-grows : (p : P33) (m : List ℕ) (i v k : ℕ)
    → Grows p.changed m (noted (counted p (get_or m i 0) k) i v).changed (set m i k)
update-grows p m i v k = rw (noted-count (counted p (get_or m i 0) k) i v) (go (eqb k (get_or m i 0)) refl)
  where
    go : (t : Bool) → eqb k (get_or m i 0) ≡ t → Grows p.changed m (cond t p.changed (p.changed + 1)) (set m i k)
    go true e =
        let same : k ≡ get_or m i 0 = eqb-true k (get_or m i 0) e in
        record { more = omega arith; still = λ _. ap (set m i) same ∙ set-get_or m i 0 }
    go false e = one_more p.changed m (set m i k)

module _ (p : P33) (m : List ℕ) where
  -- from this port's count and memory
  abbrev From : P33 → List ℕ → Type 0
  From q r = Grows p.changed m q.changed r

  access-grows : (b : ℕ) → From (access_of p m b) (access_in p m b)
  access-grows b =
      access-outcome From p m b (λ _. stays p.changed m)
      (λ _. update-grows p m (addressed p) (made_of p m b) (kept_of (addressed p) (made_of p m b)))

transfer-grows : (p : P33) (m : List ℕ) (b : ℕ) → Grows p.changed m (transfer_of p m b).changed (transfer_in p m b)
transfer-grows p m b =
    transfer-outcome (From p m) p m b (λ _. stays p.changed m) (λ _. stays p.changed m)
    (λ _. access-grows (stepped p p.cmd p.addr) m b) (λ _. stays p.changed m)

module _ (p : P33) (m : List ℕ) where
  write-grows : (addr value : ℕ) → From p m (port_after (write_of p m addr value) p) (write_in p m addr value)
  write-grows addr value =
      write-outcome (From p m) p m addr value (stays p.changed m)
      (λ _ _.
      written-outcome (From p m) p m addr value (λ _. stays p.changed m) (λ _ _. stays p.changed m) (λ _ _ _. stays p.changed m)
      (λ _ _ _. transfer-grows (with_con p value p.step) m (p.dat % 0x100)))

  reset-grows : (cause : ℕ) → From p m (port_after (reset_of p m) p) (reset_in p m cause)
  reset-grows cause =
      reset-outcome (From p m) p m cause (stays p.changed m) (λ _ _. one_more p.changed m (chip_reset_in m cause))

after-grows : (c : Call) (h : Held) → Grows h.port.changed h.regs (after c h).port.changed (after c h).regs
unfolding after
after-grows (read addr) h = stays h.port.changed h.regs
after-grows (write addr value) h = write-grows h.port h.regs addr value
after-grows (reset cause) h = reset-grows h.port h.regs cause
after-grows take h = stays h.port.changed h.regs
after-grows (reg addr rtc) h = stays h.port.changed h.regs

pub run-grows : (cs : List Call) (h : Held) → Grows h.port.changed h.regs (run cs h).port.changed (run cs h).regs
unfolding run
run-grows [] h = stays h.port.changed h.regs
run-grows (c ∷ cs) h =
    then h.port.changed (after c h).port.changed (run cs (after c h)).port.changed h.regs (after c h).regs (run cs (after c h)).regs
    (after-grows c h) (run-grows cs (after c h))

-- over any calls: where the snap at the end is the one at the start, so is the core
pub equal-snaps : (cs : List Call) (h : Held) → snap_of (run cs h).port ≡ snap_of h.port
    → core (run cs h).port (run cs h).regs ≡ core h.port h.regs
equal-snaps cs h q =
    let r : (run cs h).regs ≡ h.regs = (run-grows cs h).still (ap (λ (s : Snap). s.5) q) in
    rw (ap (λ (s : Snap). s.0) q, ap (λ (s : Snap). s.1) q, ap (λ (s : Snap). s.2) q, ap (λ (s : Snap). s.3) q, ap (λ (s : Snap). s.4) q, r)
