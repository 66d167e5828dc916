use mathlib.Core.Path.{refl}
use Rattle.text.specs.Putting.{place_after_all, put_all}
use Rattle.driver_lines.specs.Lines.{line_of}
use Rattle.driver_lines.proofs.put_line.Goals as goal

pub returns-in-Pushed : goal.returns-in-Pushed
unfolding line_of
returns-in-Pushed c =
    rw c.in-Pushed.is c.put_number.ensures

pub returns-in-Read : goal.returns-in-Read
unfolding line_of
returns-in-Read c =
    rw c.in-Read.is c.put_read.ensures

pub returns-in-Wrote : goal.returns-in-Wrote
unfolding line_of
returns-in-Wrote c =
    rw c.in-Wrote.is c.put_write.ensures

pub returns-in-Stepped : goal.returns-in-Stepped
unfolding line_of
returns-in-Stepped c =
    rw c.in-Stepped.is c.put_step.ensures

pub returns-in-Refused : goal.returns-in-Refused
unfolding line_of
returns-in-Refused c =
    rw c.in-Refused.is c.put_number-in-Refused.ensures

pub returns-in-Broken : goal.returns-in-Broken
unfolding line_of
returns-in-Broken c =
    rw c.in-Broken.is c.put_number-in-Broken.ensures

pub returns-in-Nothing : goal.returns-in-Nothing
unfolding line_of place_after_all put_all
returns-in-Nothing c =
    rw c.in-Nothing.is (record { place = refl; bytes = refl })
