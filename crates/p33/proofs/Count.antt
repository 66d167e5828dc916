-- `changed` feeds nothing back: two ports that differ in the count only, both below 2^62, answer the same and go on the same.
use Prim.Native.Nat.{ℕ, ◌+◌, ◌≤◌, ◌%◌, ◌^◌, ◌<◌}
use mathlib.Core.Path.{◌≡◌, refl, ap, ap₂, subst}
use mathlib.Core.Bool.{Bool, true, false, cond}
use mathlib.Core.List.{List, [], ◌∷◌}
use native.Mathlib.Omega.{arith}
use lib.ListN.{length}
use lib.Dec.{eqb}
use borrow.Author.Tests.{lt-ltb}
use Rattle.std.specs.Prelude.{Option, Some, None}
use Rattle.base.specs.Bits.{is_set}
use Rattle.base.specs.declared.Refusal.{Refusal}
use Rattle.base.specs.Refusals.{refused_of}
use Rattle.p33.specs.declared.P33.{P33}
use Rattle.p33.specs.declared.Event.{Event}
use Rattle.p33.specs.declared.Event.TheVariants.{Wdt, Reset}
use Rattle.p33.specs.P33.{unless_refused, port_after, with_event, read_of, value_at, refusal, word_of, addressed, is_read, resets, made_of, kept_of, noted, counted, access_of, access_in, stepped, transfer_of, transfer_in, with_con, written_of, written_in, write_of, write_in, reset_of, reset_in}
use Rattle.p33.specs.Runs.{Held, Call, read, write, reset, take, reg, Said, refused, after, run, said, answers, uncounted}
use Rattle.p33.proofs.Outcomes.{access-outcome, transfer-outcome, written-outcome, write-outcome, reset-outcome}
use Rattle.p33.proofs.Snaps.{noted-count}

-- the same but for the count
pub record Twins (p q : P33) : Type 0 where
  pub same : uncounted p ≡ uncounted q

-- the port with another count
abbrev recounted : P33 → ℕ → P33
recounted p n =
    record { con = p.con; dat = p.dat; step = p.step; cmd = p.cmd; addr = p.addr; changed = n; event = p.event }

-- a choice by one test leaves twins where both its cases do
chosen : (t : Bool) {a b c d : P33} → Twins a c → Twins b d → Twins (cond t a b) (cond t c d)
chosen true e f = e
chosen false e f = f

-- and so does a call that is refused or not
unless-twins : (r : Option Refusal) {a b c d : P33} → Twins a c → Twins b d → Twins (port_after (unless_refused r a) b) (port_after (unless_refused r c) d)
unless-twins None e f = e
unless-twins (Some refusal) e f = f

unless-number : (r : Option Refusal) (a b : P33) → refused_of (unless_refused r a) ≡ refused_of (unless_refused r b)
unless-number None a b = refl
unless-number (Some refusal) a b = refl

with-event : {p q : P33} (k : Option Event) → Twins p q → Twins (with_event p k) (with_event q k)
with-event k t = record { same = ap (λ (r : P33). with_event r k) t.same }

noted-twins : (p q : P33) (i v : ℕ) → Twins p q → Twins (noted p i v) (noted q i v)
unfolding noted
noted-twins p q i v t =
    chosen (eqb i 0x80) (with-event (Some (Wdt (is_set v 0x40))) t) (chosen (resets i v) (with-event (Some Reset) t) t)

module _ (n : ℕ) where
  access-twins : (p : P33) (m : List ℕ) (b : ℕ) → Twins (access_of p m b) (access_of (recounted p n) m b)
  unfolding access_of
  access-twins p m b =
      let k = kept_of (addressed p) (made_of p m b) in
      chosen (is_read p) (record { same = refl })
      (noted-twins (counted p (value_at p m) k) (counted (recounted p n) (value_at p m) k) (addressed p) (made_of p m b) (record { same = refl }))

  transfer-twins : (p : P33) (m : List ℕ) (b : ℕ) → Twins (transfer_of p m b) (transfer_of (recounted p n) m b)
  unfolding transfer_of
  transfer-twins p m b =
      chosen (eqb p.step 0) (record { same = refl })
      (chosen (eqb p.step 1) (record { same = refl })
      (chosen (eqb p.step 2) (access-twins (stepped p p.cmd p.addr) m b) (record { same = refl })))

  written-twins : (p : P33) (m : List ℕ) (addr value : ℕ) → Twins (written_of p m addr value) (written_of (recounted p n) m addr value)
  unfolding written_of
  written-twins p m addr value =
      chosen (eqb (word_of addr) 0x13e0c) (record { same = refl })
      (chosen (is_set value 1)
      (chosen (is_set value 0x10) (transfer-twins (with_con p value p.step) m (p.dat % 0x100)) (record { same = refl }))
      (record { same = refl }))

  -- no register depends on the count
  written-regs : (p : P33) (m : List ℕ) (addr value : ℕ) → written_in p m addr value ≡ written_in (recounted p n) m addr value
  unfolding written_in transfer_in access_in
  written-regs p m addr value = refl

-- what a call on two ports leaves and answers
pub record Alike (c : Call) (h k : Held) : Type 0 where
  pub ports : Twins (after c h).port (after c k).port
  pub regs : (after c h).regs ≡ (after c k).regs
  pub answers : said c h ≡ said c k

-- a count below 2^62 decides no refusal
module _ (p : P33) (n : ℕ) (m : List ℕ) (low : p.changed < 2 ^ 62) (low' : n < 2 ^ 62) where
  same-refusal : refusal p m ≡ refusal (recounted p n) m
  same-refusal = rw (lt-ltb p.changed (2 ^ 62) low, lt-ltb n (2 ^ 62) low')

  abbrev one : Held
  one = record { port = p; regs = m }

  abbrev other : Held
  other = record { port = recounted p n; regs = m }

  recounted-alike : (c : Call) → Alike c one other
  unfolding after said read_of write_of write_in reset_of reset_in
  recounted-alike (read addr) = record { ports = record { same = refl }; regs = refl; answers = refl }
  recounted-alike (write addr value) =
      record {
        ports = rw (← same-refusal) (unless-twins (refusal p m) (written-twins n p m addr value) (record { same = refl }));
        regs = rw (← same-refusal, ← written-regs n p m addr value);
        answers = ap refused (rw (← same-refusal) (unless-number (refusal p m) _ _));
      }
  recounted-alike (reset cause) =
      record {
        ports = rw (← same-refusal) (unless-twins (refusal p m) (record { same = refl }) (record { same = refl }));
        regs = rw (← same-refusal);
        answers = ap refused (rw (← same-refusal) (unless-number (refusal p m) _ _));
      }
  recounted-alike take = record { ports = record { same = refl }; regs = refl; answers = refl }
  recounted-alike (reg addr rtc) = record { ports = record { same = refl }; regs = refl; answers = refl }

-- two ports with one memory that differ in the count only, below 2^62: each call answers the same, and leaves the same memory and ports that
-- differ in the count only
pub no-feedback : (c : Call) (p q : P33) (m : List ℕ) → Twins p q → p.changed < 2 ^ 62 → q.changed < 2 ^ 62
    → Alike c (record { port = p; regs = m }) (record { port = q; regs = m })
no-feedback c p q m t low low' =
    subst (λ (r : P33). Alike c (record { port = p; regs = m }) (record { port = r; regs = m }))
    (ap (λ (r : P33). recounted r q.changed) t.same) (recounted-alike p q.changed m low low' c)

-- ---- over a list of calls

-- a call raises the count by one at most
module _ (p : P33) (m : List ℕ) where
  abbrev Near : ℕ → P33 → List ℕ → Type 0
  Near n q r = q.changed ≤ n + 1

  access-near : (b : ℕ) → Near p.changed (access_of p m b) (access_in p m b)
  access-near b =
      let k = kept_of (addressed p) (made_of p m b) in
      access-outcome (Near p.changed) p m b (λ _. omega arith)
      (λ _. rw (noted-count (counted p (value_at p m) k) (addressed p) (made_of p m b)) (go (eqb k (value_at p m))))
    where
      go : (t : Bool) → cond t p.changed (p.changed + 1) ≤ p.changed + 1
      go true = omega arith
      go false = omega arith

transfer-near : (p : P33) (m : List ℕ) (b : ℕ) → (transfer_of p m b).changed ≤ p.changed + 1
transfer-near p m b =
    let q = stepped p p.cmd p.addr in
    transfer-outcome (Near p m p.changed) p m b (λ _. omega arith) (λ _. omega arith) (λ _. access-near q m b) (λ _. omega arith)

after-near : (c : Call) (h : Held) → (after c h).port.changed ≤ h.port.changed + 1
unfolding after
after-near (read addr) h = omega arith
after-near (write addr value) h =
    let p = h.port in
    let m = h.regs in
    let R = Near p m p.changed in
    write-outcome R p m addr value (omega arith)
    (λ _ _.
    written-outcome R p m addr value (λ _. omega arith) (λ _ _. omega arith) (λ _ _ _. omega arith)
    (λ _ _ _. transfer-near (with_con p value p.step) m (p.dat % 0x100)))
after-near (reset cause) h =
    let p = h.port in
    reset-outcome (Near p h.regs p.changed) p h.regs cause (omega arith) (λ _ _. omega arith)
after-near take h = omega arith
after-near (reg addr rtc) h = omega arith

-- what a list of calls on two ports answers and leaves
pub record AlikeAll (cs : List Call) (h k : Held) : Type 0 where
  pub said-alike : answers cs h ≡ answers cs k
  pub ports : Twins (run cs h).port (run cs k).port
  pub regs : (run cs h).regs ≡ (run cs k).regs

-- over any list of calls that keeps both counts below 2^62 two such ports answer the same, call by call, and go on the same
pub no-feedback-run : (cs : List Call) (p q : P33) (m : List ℕ) → Twins p q → p.changed + length cs ≤ 2 ^ 62 → q.changed + length cs ≤ 2 ^ 62
    → AlikeAll cs (record { port = p; regs = m }) (record { port = q; regs = m })
unfolding answers run
no-feedback-run [] p q m t low low' = record { said-alike = refl; ports = t; regs = refl }
no-feedback-run (c ∷ cs) p q m t low low' =
    let h : Held = record { port = p; regs = m } in
    let k : Held = record { port = q; regs = m } in
    let one : Alike c h k = no-feedback c p q m t (omega arith) (omega arith) in
    let near : (after c h).port.changed ≤ p.changed + 1 = after-near c h in
    let near' : (after c k).port.changed ≤ q.changed + 1 = after-near c k in
    let rest : AlikeAll cs (after c h) (record { port = (after c k).port; regs = (after c h).regs }) =
    no-feedback-run cs (after c h).port (after c k).port (after c h).regs one.ports (omega arith) (omega arith) in
    let all : AlikeAll cs (after c h) (after c k) =
    subst (λ (r : List ℕ). AlikeAll cs (after c h) (record { port = (after c k).port; regs = r })) one.regs rest in
    record {
      said-alike = ap₂ (λ (a : Said) (more : List Said). a ∷ more) one.answers all.said-alike;
      ports = all.ports;
      regs = all.regs;
    }
