use mathlib.Core.Path.{◌≡◌, sym, ◌∙◌}
use Prim.Native.Nat.{◌+◌, ◌<◌, ◌≤◌}
use native.Mathlib.Omega.{arith}
use borrow.Author.Tests.{le-leb, lt-leb}
use lib.ListN.{length}
use Rattle.records.specs.Layout.{length_of}
use Rattle.records.specs.Kinds.{kind_of_body, bytes_of}
use Rattle.records.proofs.Written.{body-length, body-over, no_room_lem, room}
use Rattle.records.proofs.encode.Goals as goal

pub returns-then-saturating_sub-len : goal.returns-then-saturating_sub-len
returns-then-saturating_sub-len c =
    let a = c.args in
    let len : c.length-len.result ≡ length_of (kind_of_body a.body) = rw (c.length-len.ensures, c.kind_of.ensures) in
    let over : length a.out.now < a.at + c.length-len.result = omega (arith, len, body-over a.body, c.saturating_sub.ensures, c.if-saturating_sub-len.true) in
    let both = no_room_lem a.out.now a.at c.length-len.result (bytes_of a.body) (body-length a.body ∙ sym len) (lt-leb _ _ over) in
    record { answer = both.0; bytes = both.1 }

pub put-requires : goal.put-requires
put-requires c =
    let a = c.args in
    let len : c.length-len.result ≡ length_of (kind_of_body a.body) = rw (c.length-len.ensures, c.kind_of.ensures) in
    omega (arith, len, body-over a.body, c.saturating_sub.ensures, c.if-saturating_sub-len.false)

pub returns : goal.returns
returns c =
    let a = c.args in
    let len : c.length-len.result ≡ length_of (kind_of_body a.body) = rw (c.length-len.ensures, c.kind_of.ensures) in
    let fits : a.at + c.length-len.result ≤ length a.out.now = omega (arith, len, body-over a.body, c.saturating_sub.ensures, c.if-saturating_sub-len.false) in
    let both = room a.out.now a.at c.length-len.result (bytes_of a.body) (body-length a.body ∙ sym len) (le-leb _ _ fits) in
    record { answer = both.0; bytes = c.put.ensures ∙ both.1 }
