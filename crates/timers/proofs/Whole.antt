-- The computed tests of a whole record give the facts, and the facts pass the tests.
use Rattle.std.proofs.Common.{◌≡◌, ℕ, ◌^◌, ◌<◌, true, leb, le-leb, leb-true}
use Rattle.base.proofs.Deadlines.{deadline-fact, deadline-test}
use Rattle.base.proofs.Flags.{both}
use Rattle.base.specs.Moments.{is_deadline}
use Rattle.timers.specs.declared.timer4.T4.{T4}
use Rattle.timers.specs.declared.timer5.T5.{T5}
use Rattle.timers.specs.declared.timer.Tmr.{Tmr}
use Rattle.timers.specs.declared.os_tick.Tick.{Tick}
use Rattle.timers.specs.Timer4.{t4_whole}
use Rattle.timers.specs.Timer.{tmr_whole}
use Rattle.timers.specs.OsTick.{tick_whole}
use Rattle.timers.specs.Facts.{T4Ok, T5Ok, TmrOk, TickOk}

pub t4-facts : (t : T4) (now : ℕ) → t4_whole t now ≡ true → T4Ok t now
t4-facts t now e =
    let p = both (leb t.base now) (leb t.last_cnt_read now) e in
    record { base = leb-true _ _ p.0; read = leb-true _ _ p.1 }

pub t4-test : (t : T4) (now : ℕ) → T4Ok t now → t4_whole t now ≡ true
t4-test t now w = rw (le-leb t.base now w.base, le-leb t.last_cnt_read now w.read)

pub t5-facts : (t : T5) → t.prd < 2 ^ 32 → is_deadline t.next ≡ true → T5Ok t
t5-facts t h e = record { next = deadline-fact t.next e; prd = h }

pub t5-test : (t : T5) → T5Ok t → is_deadline t.next ≡ true
t5-test t w = deadline-test t.next w.next

pub tmr-facts : (t : Tmr) (now : ℕ) → t.prd < 2 ^ 32 → tmr_whole t now ≡ true → TmrOk t now
tmr-facts t now h e =
    let p = both (is_deadline t.next) (leb t.start now) e in
    record { start = leb-true _ _ p.1; next = deadline-fact t.next p.0; prd = h }

pub tmr-test : (t : Tmr) (now : ℕ) → TmrOk t now → tmr_whole t now ≡ true
tmr-test t now w = rw (deadline-test t.next w.next, le-leb t.start now w.start)

pub tick-facts : (t : Tick) (now : ℕ) → tick_whole t now ≡ true → TickOk t now
tick-facts t now e =
    let p = both (is_deadline t.next) (leb t.start now) e in
    record { start = leb-true _ _ p.1; next = deadline-fact t.next p.0 }

pub tick-test : (t : Tick) (now : ℕ) → TickOk t now → tick_whole t now ≡ true
tick-test t now w = rw (deadline-test t.next w.next, le-leb t.start now w.start)
