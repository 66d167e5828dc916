use mathlib.Core.Path.{sym, subst}
use mathlib.Core.List.{List}
use Prim.Native.Nat.{ℕ}
use native.Mathlib.Omega.{arith}
use lib.ListN.{drop, length-drop}
use Rattle.std.specs.Prelude.{Some, None}
use Rattle.records.specs.Kinds.{Found}
use Rattle.records.proofs.Found.{none_found, kind_found}
use Rattle.records.proofs.Places.{part_left}
use Rattle.records.proofs.Progress.{any-empty-end}
use Rattle.records.proofs.decode.Goals as goal

pub returns-then-bytes-at : goal.returns-then-bytes-at
returns-then-bytes-at c =
    let a = c.args in
    sym (any-empty-end (drop a.at a.bytes.now) a.at (omega (arith, length-drop a.at a.bytes.now)))

pub returns-in_default : goal.returns-in_default
returns-in_default c =
    let a = c.args in
    let s = drop a.at a.bytes.now in
    let P : List ℕ → Type 0 = λ l. Found l None in
    sym
    (none_found s a.at (omega (arith, length-drop a.at a.bytes.now))
    (subst P (part_left a.at a.bytes.now) c.in_default.ensures))

pub returns : goal.returns
returns c =
    let a = c.args in
    let s = drop a.at a.bytes.now in
    let kind = c.in-Some.kind in
    let P : List ℕ → Type 0 = λ l. Found l (Some kind) in
    let f = subst P (part_left a.at a.bytes.now) c.in-Some.ensures in
    rw (c.body_in-body.ensures, c.length.ensures, part_left a.at a.bytes.now) (sym (kind_found s a.at kind f.0 f.1))
