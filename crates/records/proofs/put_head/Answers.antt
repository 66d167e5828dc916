use mathlib.Core.Path.{◌∙◌}
use Rattle.records.specs.Le.{le}
use Rattle.records.specs.Layout.{length_of}
use Rattle.records.specs.Kinds.{number_of}
use Rattle.records.proofs.Places.{sets-append}
use Rattle.records.proofs.put_head.Goals as goal

pub returns : goal.returns
unfolding le
returns c =
    let a = c.args in
    c.put_number-2.ensures
    ∙ rw (c.put_number.ensures, c.length.ensures, c.number.ensures)
    (sets-append a.out.now a.at (le 2 (length_of (number_of a.kind))) (le 2 (number_of a.kind)))
