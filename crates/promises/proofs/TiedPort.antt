-- The port's calls, by value, lent and C's, are those of its run (crate p33, specs/Runs): what each one's contract says of record, memory and answer is `after` and `said`.
use mathlib.Core.Path.{◌≡◌, refl, sym, ap, ◌∙◌}
use mathlib.Core.Bool.{true, false}
use mathlib.Core.List.{List, [], ◌∷◌}
use Prim.Native.Nat.{ℕ}
use base.Logic.{SProp, ent, sep, via, fst∗, snd∗}
use contract.Fact.{fact, fact_i, fact_mono, fact_use}
use contract.Lifetimes.{Lfts}
use contract.Monad.{Fun}
use denote.Triple.Clauses.{AtExit}
use denote.Triple.Entry.{Args}
use types.Logic.{Logic}
use seplogic.Ra.Ura.{Ura}
use prog.Memory.{Memory}
use prog.Routine.{Routine}
use Rattle.std.specs.Prelude.{Option, Some, None, Result, Ok, Err}
use Rattle.base.specs.Refusals.{refused_of}
use Rattle.base.specs.declared.Refusal.{Refusal}
use Rattle.capi.specs.Flags.{is_yes}
use Rattle.capi_answers.specs.Edge.{said_by}
use Rattle.capi_answers.specs.Ports.{number_of, event_of, port_in, port_out, of_port_new, of_port_done, of_taken, of_register}
use Rattle.capi_answers.specs.declared.Port.{Port}
use Rattle.capi_answers.specs.declared.PortAnswered.{PortAnswered}
use Rattle.capi_answers.specs.declared.Said.{Said as SaidToC}
use Rattle.p33.specs.P33.{port_new, unless_refused, port_after, eventless, taken_of, refusal, reset_of, reset_in, reg_of, value_read, read_of, write_of, write_in}
use Rattle.p33.specs.Runs.{Held, read, write, reset, take, reg, after, Said, value, refused, event, register, said, Tied}
use Rattle.p33.specs.Told.{told_event}
use Rattle.p33.specs.declared.Event.{Event}
use Rattle.p33.specs.declared.Event.TheVariants.{Wdt, Reset}
use Rattle.p33.specs.declared.P33.{P33}
use Rattle.p33.specs.declared.Taken.{Taken}
use Rattle.promises.specs.Boundary.{read_back}
use Rattle.promises.proofs.Once.{join}
use Rattle.capi.specs.contracts.ports.fm1_port_chip_reset as capi-fm1-port-chip-reset
use Rattle.capi.specs.contracts.ports.fm1_port_read as capi-fm1-port-read
use Rattle.capi.specs.contracts.ports.fm1_port_reg as capi-fm1-port-reg
use Rattle.capi.specs.contracts.ports.fm1_port_take_event as capi-fm1-port-take-event
use Rattle.capi.specs.contracts.ports.fm1_port_write as capi-fm1-port-write
use Rattle.p33.specs.contracts.P33.chip_reset as p33-chip-reset
use Rattle.p33.specs.contracts.P33.read as p33-read
use Rattle.p33.specs.contracts.P33.reg as p33-reg
use Rattle.p33.specs.contracts.P33.take_event as p33-take-event
use Rattle.p33.specs.contracts.P33.write as p33-write
use Rattle.p33.specs.contracts.chip_reset_through as p33-chip-reset-through
use Rattle.p33.specs.contracts.take_event_through as p33-take-event-through
use Rattle.p33.specs.contracts.write_through as p33-write-through
use Rattle.p33.specs.contracts.chip_reset_in_place as p33-chip-reset-in-place
use Rattle.p33.specs.contracts.take_event_in_place as p33-take-event-in-place
use Rattle.p33.specs.contracts.write_in_place as p33-write-in-place

abbrev held : P33 → List ℕ → Held
held p m = record { port = p; regs = m }

-- ---- C's port, read back

event-kept : (e : Option Event) → event_of (number_of e) ≡ e
unfolding number_of event_of told_event
event-kept None = refl
event-kept (Some (Wdt true)) = refl
event-kept (Some (Wdt false)) = refl
event-kept (Some Reset) = refl

port-kept : (p : P33) → port_in (port_out p) ≡ p
port-kept p i = record { con = p.con; dat = p.dat; step = p.step; cmd = p.cmd; addr = p.addr; changed = p.changed; event = event-kept p.event i }

-- what a call answers C that leaves the port where it is turned away: the port that it goes on with, and the number
done-kept : (p : Port) (d : Result P33 Refusal) → port_in (of_port_done p d).port ≡ port_after d (port_in p)
unfolding of_port_done
done-kept p (Ok q) = port-kept q
done-kept p (Err why) = refl

done-told : (p : Port) (d : Result P33 Refusal) → (of_port_done p d).said.refused ≡ refused_of d
unfolding of_port_done
done-told p (Ok q) = refl
done-told p (Err why) = refl

register-told : (v : Result ℕ Refusal) → ((of_register v).refused ≡ refused_of v) × ((of_register v).value ≡ value_read v)
register-told (Ok v) = (refl, refl)
register-told (Err why) = (refl, refl)

abbrev pub from_event : SaidToC → Said
from_event s = event (read_back s.is (s.value ∷ []))

event-back : (e : Option Event) → from_event (said_by (told_event e)) ≡ event (told_event e)
unfolding told_event
event-back None = refl
event-back (Some (Wdt true)) = refl
event-back (Some (Wdt false)) = refl
event-back (Some Reset) = refl

-- a refusal's number, where only that it is refused is handed on
refused-alike : {A : Type 0} (r : Option Refusal) (x : A) → refused_of (unless_refused {A = Unit {0}} r tt) ≡ refused_of (unless_refused r x)
refused-alike None x = refl
refused-alike (Some why) x = refl

module _ {M : Type 1} (𝓤 : Ura M) where
  -- two clauses, or three, that say one fact
  both : {X Y Z : Type 0} → (X → Y → Z) → ent 𝓤 (sep 𝓤 (fact 𝓤 X) (fact 𝓤 Y)) (fact 𝓤 Z)
  both {X} {Y} {Z} f = via 𝓤 (fact 𝓤 (X × Y)) (join 𝓤 X Y) (fact_mono 𝓤 (X × Y) Z (λ p. f p.0 p.1))

  three : {W X Y Z : Type 0} → (W → X → Y → Z) → ent 𝓤 (sep 𝓤 (fact 𝓤 W) (sep 𝓤 (fact 𝓤 X) (fact 𝓤 Y))) (fact 𝓤 Z)
  three {W} {X} {Y} {Z} f =
      let F = fact 𝓤 W in
      let G = sep 𝓤 (fact 𝓤 X) (fact 𝓤 Y) in
      let C = sep 𝓤 F G in
      fact_use 𝓤 {P = C} W (fst∗ 𝓤 F G)
      (λ w. fact_use 𝓤 {P = C} (X × Y) (via 𝓤 G (snd∗ 𝓤 F G) (join 𝓤 X Y)) (λ p. fact_i 𝓤 Z C (f w p.0 p.1)))

module _ {M : Type 1} {𝓤 : Ura M} (𝓛 : Logic 𝓤) (mem : Memory → SProp 𝓤) (run : Routine → Fun 𝓤) where
  -- ---- by value

  pub p33-read-tied : (h : Held) (addr : ℕ) (κs : Lfts 0) (g : Unit {0}) (r : ℕ) (e : AtExit p33-read.ended κs)
      → ent 𝓤 ((p33-read.clauses 𝓛 mem run κs (h.port, (addr, tt))).ensures g r e) (fact 𝓤 (Tied (read addr) h h (value r)))
  unfolding after said
  p33-read-tied h addr κs g r e = fact_mono 𝓤 (r ≡ read_of h.port addr) _ (λ p. (refl, ap (λ (n : ℕ). value n) p))

  pub p33-take-event-tied : (h : Held) (κs : Lfts 0) (g : Unit {0}) (r : Taken) (e : AtExit p33-take-event.ended κs)
      → ent 𝓤 ((p33-take-event.clauses 𝓛 mem run κs (h.port, tt)).ensures g r e) (fact 𝓤 (Tied take h (held r.port h.regs) (event (told_event r.event))))
  unfolding after said
  p33-take-event-tied h κs g r e = fact_mono 𝓤 (r ≡ taken_of h.port) _ (λ p. (ap (λ (t : Taken). held t.port h.regs) p, ap (λ (t : Taken). event (told_event t.event)) p))

  pub p33-reg-tied : (port : P33) (κs : Lfts (p33-reg.signature).lifetimes) (args : Args p33-reg.signature κs) (g : Unit {0}) (r : Result ℕ Refusal) (e : AtExit p33-reg.ended κs)
      → ent 𝓤 ((p33-reg.clauses 𝓛 mem run κs args).ensures g r e)
      (fact 𝓤 (Tied (reg args.1.0 args.1.1.0) (held port args.0.now) (held port args.0.now) (register (refused_of r) (value_read r))))
  unfolding after said
  p33-reg-tied port κs args g r e =
      fact_mono 𝓤 (r ≡ reg_of args.0.now args.1.0 args.1.1.0) _
      (λ p. (refl, ap (λ (v : Result ℕ Refusal). register (refused_of v) (value_read v)) p))

  pub p33-write-tied : (κs : Lfts (p33-write.signature).lifetimes) (args : Args p33-write.signature κs) (g : Unit {0}) (r : Result P33 Refusal) (e : AtExit p33-write.ended κs)
      → ent 𝓤 ((p33-write.clauses 𝓛 mem run κs args).ensures g r e)
      (fact 𝓤 (Tied (write args.1.1.0 args.1.1.1.0) (held args.0 args.1.0.now) (held (port_after r args.0) e.1.0.now) (refused (refused_of r))))
  unfolding after said
  p33-write-tied κs args g r e =
      both 𝓤 (λ p q. ((λ i. held (port_after (p i) args.0) (q i)), ap (λ (d : Result P33 Refusal). refused (refused_of d)) p))

  pub p33-chip-reset-tied : (κs : Lfts (p33-chip-reset.signature).lifetimes) (args : Args p33-chip-reset.signature κs) (g : Unit {0}) (r : Result P33 Refusal) (e : AtExit p33-chip-reset.ended κs)
      → ent 𝓤 ((p33-chip-reset.clauses 𝓛 mem run κs args).ensures g r e)
      (fact 𝓤 (Tied (reset args.1.1.0) (held args.0 args.1.0.now) (held (port_after r args.0) e.1.0.now) (refused (refused_of r))))
  unfolding after said
  p33-chip-reset-tied κs args g r e =
      both 𝓤 (λ p q. ((λ i. held (port_after (p i) args.0) (q i)), ap (λ (d : Result P33 Refusal). refused (refused_of d)) p))

  -- ---- through a lent record, and lent

  pub p33-write-through-tied : (κs : Lfts (p33-write-through.signature).lifetimes) (args : Args p33-write-through.signature κs) (g : Unit {0}) (r : Result P33 Refusal) (e : AtExit p33-write-through.ended κs)
      → ent 𝓤 ((p33-write-through.clauses 𝓛 mem run κs args).ensures g r e)
      (fact 𝓤 (Tied (write args.1.1.0 args.1.1.1.0) (held args.0 args.1.0.now) (held (port_after r args.0) e.1.0.now) (refused (refused_of r))))
  unfolding after said
  p33-write-through-tied κs args g r e =
      both 𝓤 (λ p q. ((λ i. held (port_after (p i) args.0) (q i)), ap (λ (d : Result P33 Refusal). refused (refused_of d)) p))

  pub p33-chip-reset-through-tied : (κs : Lfts (p33-chip-reset-through.signature).lifetimes) (args : Args p33-chip-reset-through.signature κs) (g : Unit {0}) (r : Result P33 Refusal) (e : AtExit p33-chip-reset-through.ended κs)
      → ent 𝓤 ((p33-chip-reset-through.clauses 𝓛 mem run κs args).ensures g r e)
      (fact 𝓤 (Tied (reset args.1.1.0) (held args.0 args.1.0.now) (held (port_after r args.0) e.1.0.now) (refused (refused_of r))))
  unfolding after said
  p33-chip-reset-through-tied κs args g r e =
      both 𝓤 (λ p q. ((λ i. held (port_after (p i) args.0) (q i)), ap (λ (d : Result P33 Refusal). refused (refused_of d)) p))

  pub p33-take-event-through-tied : (h : Held) (κs : Lfts 0) (g : Unit {0}) (r : Taken) (e : AtExit p33-take-event-through.ended κs)
      → ent 𝓤 ((p33-take-event-through.clauses 𝓛 mem run κs (h.port, tt)).ensures g r e) (fact 𝓤 (Tied take h (held r.port h.regs) (event (told_event r.event))))
  unfolding after said
  p33-take-event-through-tied h κs g r e = fact_mono 𝓤 (r ≡ taken_of h.port) _ (λ p. (ap (λ (t : Taken). held t.port h.regs) p, ap (λ (t : Taken). event (told_event t.event)) p))

  pub p33-write-in-place-tied : (κs : Lfts (p33-write-in-place.signature).lifetimes) (args : Args p33-write-in-place.signature κs) (g : Unit {0}) (r : Result (Unit {0}) Refusal) (e : AtExit p33-write-in-place.ended κs)
      → ent 𝓤 ((p33-write-in-place.clauses 𝓛 mem run κs args).ensures g r e)
      (fact 𝓤 (Tied (write args.1.1.0 args.1.1.1.0) (held args.0.now args.1.0.now) (held e.0.now e.1.0.now) (refused (refused_of r))))
  unfolding after said write_of
  p33-write-in-place-tied κs args g r e =
      three 𝓤
      (λ p q s. (
        (λ i. held (q i) (s i)),
        ap (λ (d : Result (Unit {0}) Refusal). refused (refused_of d)) p ∙ ap refused (refused-alike (refusal args.0.now args.1.0.now) _),
      ))

  pub p33-chip-reset-in-place-tied : (κs : Lfts (p33-chip-reset-in-place.signature).lifetimes) (args : Args p33-chip-reset-in-place.signature κs) (g : Unit {0}) (r : Result (Unit {0}) Refusal) (e : AtExit p33-chip-reset-in-place.ended κs)
      → ent 𝓤 ((p33-chip-reset-in-place.clauses 𝓛 mem run κs args).ensures g r e)
      (fact 𝓤 (Tied (reset args.1.1.0) (held args.0.now args.1.0.now) (held e.0.now e.1.0.now) (refused (refused_of r))))
  unfolding after said reset_of
  p33-chip-reset-in-place-tied κs args g r e =
      three 𝓤
      (λ p q s. (
        (λ i. held (q i) (s i)),
        ap (λ (d : Result (Unit {0}) Refusal). refused (refused_of d)) p ∙ ap refused (refused-alike (refusal args.0.now args.1.0.now) _),
      ))

  pub p33-take-event-in-place-tied : (regs : List ℕ) (κs : Lfts (p33-take-event-in-place.signature).lifetimes) (args : Args p33-take-event-in-place.signature κs) (g : Unit {0}) (r : Option Event) (e : AtExit p33-take-event-in-place.ended κs)
      → ent 𝓤 ((p33-take-event-in-place.clauses 𝓛 mem run κs args).ensures g r e)
      (fact 𝓤 (Tied take (held args.0.now regs) (held e.0.now regs) (event (told_event r))))
  unfolding after said
  p33-take-event-in-place-tied regs κs args g r e =
      both 𝓤 (λ p q. ((λ i. held (q i) regs), ap (λ (x : Option Event). event (told_event x)) p))

  -- ---- C's

  pub capi-fm1-port-read-tied : (regs : List ℕ) (port : Port) (addr : ℕ) (κs : Lfts 0) (g : Unit {0}) (r : ℕ) (e : AtExit capi-fm1-port-read.ended κs)
      → ent 𝓤 ((capi-fm1-port-read.clauses 𝓛 mem run κs (port, (addr, tt))).ensures g r e) (fact 𝓤 (Tied (read addr) (held (port_in port) regs) (held (port_in port) regs) (value r)))
  unfolding after said
  capi-fm1-port-read-tied regs port addr κs g r e = fact_mono 𝓤 (r ≡ read_of (port_in port) addr) _ (λ p. (refl, ap (λ (n : ℕ). value n) p))

  pub capi-fm1-port-take-event-tied : (regs : List ℕ) (port : Port) (κs : Lfts 0) (g : Unit {0}) (r : PortAnswered) (e : AtExit capi-fm1-port-take-event.ended κs)
      → ent 𝓤 ((capi-fm1-port-take-event.clauses 𝓛 mem run κs (port, tt)).ensures g r e)
      (fact 𝓤 (Tied take (held (port_in port) regs) (held (port_in r.port) regs) (from_event r.said)))
  unfolding after said
  capi-fm1-port-take-event-tied regs port κs g r e =
      fact_mono 𝓤 (r ≡ of_taken (taken_of (port_in port))) _
      (λ p. (
        ap (λ (a : PortAnswered). held (port_in a.port) regs) p ∙ ap (λ (q : P33). held q regs) (port-kept (eventless (port_in port))),
        ap (λ (a : PortAnswered). from_event a.said) p ∙ event-back (port_in port).event,
      ))

  pub capi-fm1-port-reg-tied : (port : P33) (κs : Lfts (capi-fm1-port-reg.signature).lifetimes) (args : Args capi-fm1-port-reg.signature κs) (g : Unit {0}) (r : SaidToC) (e : AtExit capi-fm1-port-reg.ended κs)
      → ent 𝓤 ((capi-fm1-port-reg.clauses 𝓛 mem run κs args).ensures g r e)
      (fact 𝓤 (Tied (reg args.1.0 (is_yes args.1.1.0)) (held port args.0.now) (held port args.0.now) (register r.refused r.value)))
  unfolding after said
  capi-fm1-port-reg-tied port κs args g r e =
      fact_mono 𝓤 (r ≡ of_register (reg_of args.0.now args.1.0 (is_yes args.1.1.0))) _
      (λ p. (
        refl,
        ap (λ (s : SaidToC). register s.refused s.value) p
            ∙ (let v = register-told (reg_of args.0.now args.1.0 (is_yes args.1.1.0)) in λ i. register (v.0 i) (v.1 i)),
      ))

  pub capi-fm1-port-write-tied : (κs : Lfts (capi-fm1-port-write.signature).lifetimes) (args : Args capi-fm1-port-write.signature κs) (g : Unit {0}) (r : PortAnswered) (e : AtExit capi-fm1-port-write.ended κs)
      → ent 𝓤 ((capi-fm1-port-write.clauses 𝓛 mem run κs args).ensures g r e)
      (fact 𝓤 (Tied (write args.1.1.0 args.1.1.1.0) (held (port_in args.0) args.1.0.now) (held (port_in r.port) e.1.0.now) (refused r.said.refused)))
  unfolding after said
  capi-fm1-port-write-tied κs args g r e =
      let port = port_in args.0 in
      let regs = args.1.0.now in
      let d = write_of port regs args.1.1.0 args.1.1.1.0 in
      fact_mono 𝓤 _ _
      (λ p. (
        (λ i. held (port_in (p.0 i).port) (p.1 i)) ∙ ap (λ (q : P33). held q (write_in port regs args.1.1.0 args.1.1.1.0)) (done-kept args.0 d),
        ap (λ (a : PortAnswered). refused a.said.refused) p.0 ∙ ap refused (done-told args.0 d),
      ))

  pub capi-fm1-port-chip-reset-tied : (κs : Lfts (capi-fm1-port-chip-reset.signature).lifetimes) (args : Args capi-fm1-port-chip-reset.signature κs) (g : Unit {0}) (r : PortAnswered) (e : AtExit capi-fm1-port-chip-reset.ended κs)
      → ent 𝓤 ((capi-fm1-port-chip-reset.clauses 𝓛 mem run κs args).ensures g r e)
      (fact 𝓤 (Tied (reset args.1.1.0) (held (port_in args.0) args.1.0.now) (held (port_in r.port) e.1.0.now) (refused r.said.refused)))
  unfolding after said
  capi-fm1-port-chip-reset-tied κs args g r e =
      let port = port_in args.0 in
      let regs = args.1.0.now in
      let d = reset_of port regs in
      fact_mono 𝓤 _ _
      (λ p. (
        (λ i. held (port_in (p.0 i).port) (p.1 i)) ∙ ap (λ (q : P33). held q (reset_in port regs args.1.1.0)) (done-kept args.0 d),
        ap (λ (a : PortAnswered). refused a.said.refused) p.0 ∙ ap refused (done-told args.0 d),
      ))

-- A port's call that is turned away hands C the record as it came, whatever its event's number is.
pub port-as-it-came : (p : Port) (why : Refusal) → (of_port_done p (Err why)).port ≡ p
unfolding of_port_done
port-as-it-came p why = refl

-- A refused making answers C a port of zeros.
pub refused-port-is-zero : (why : Refusal) → (of_port_new (Err why)).port ≡ port_out port_new
unfolding of_port_done
refused-port-is-zero why = refl
