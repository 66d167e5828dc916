use mathlib.Core.Path.{sym, ◌∙◌}
use lib.ListN.{drop}
use Rattle.std.specs.Prelude.{Ok, Err}
use Rattle.std.proofs.lemmas.Result.{err_from_is_err_and}
use Rattle.records.proofs.Found.{timed_from}
use Rattle.records.proofs.decode_timed.Goals as goal

pub returns-in_err-body : goal.returns-in_err-body
returns-in_err-body c =
    let a = c.args in
    let s = drop a.at a.bytes.now in
    let p = err_from_is_err_and c.from_residual.result c.from_residual.ensures.1 in
    rw (p.1, p.2) (timed_from s a.at (Err c.in_err-body.field-0.0) (sym c.in_err-body.was ∙ c.decode.ensures))

pub returns-in_default : goal.returns-in_default
returns-in_default c =
    let a = c.args in
    let s = drop a.at a.bytes.now in
    let e = sym c.in_ok-body.was ∙ c.decode.ensures in
    rw c.in_default.is at (timed_from s a.at (Ok c.in_ok-body.field-0) e)

pub returns-in_default-body : goal.returns-in_default-body
returns-in_default-body c =
    let a = c.args in
    let s = drop a.at a.bytes.now in
    let e = sym c.in_ok-body.was ∙ c.decode.ensures in
    rw (c.in-Some.is, c.in_default-body.is) at (timed_from s a.at (Ok c.in_ok-body.field-0) e)

pub returns : goal.returns
returns c =
    let a = c.args in
    let s = drop a.at a.bytes.now in
    let e = sym c.in_ok-body.was ∙ c.decode.ensures in
    rw (c.in-Some.is, c.in-Timed.is) at (timed_from s a.at (Ok c.in_ok-body.field-0) e)
