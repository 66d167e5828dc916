-- The computed test of a whole record gives the facts, and the facts pass the test.
use Rattle.std.proofs.Common.{◌≡◌, true, ◌&&◌, leb, le-leb, leb-true}
use Rattle.base.proofs.Deadlines.{deadline-fact, deadline-test}
use Rattle.base.proofs.Flags.{both}
use Rattle.base.specs.Moments.{is_deadline}
use Rattle.audio.specs.declared.Audio.{Audio}
use Rattle.audio.specs.Audio.{audio_whole}
use Rattle.audio.specs.Facts.{AudioOk}

pub audio-facts : (a : Audio) → audio_whole a ≡ true → AudioOk a
audio-facts a e =
    let p = both (is_deadline a.next && leb a.half 1) (leb a.len 65535) e in
    let q = both (is_deadline a.next) (leb a.half 1) p.0 in
    record { next = deadline-fact a.next q.0; half = leb-true _ _ q.1; len = leb-true _ _ p.1 }

pub audio-test : (a : Audio) → AudioOk a → audio_whole a ≡ true
audio-test a w = rw (deadline-test a.next w.next, le-leb a.half 1 w.half, le-leb a.len 65535 w.len)
