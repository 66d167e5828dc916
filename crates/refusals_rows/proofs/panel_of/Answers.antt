use Rattle.refusals_rows.specs.Rows.{panel_from}
use Rattle.refusals_rows.proofs.panel_of.Goals as goal

pub returns : goal.returns
unfolding panel_from
returns c = rw (c.lows-dur.ensures, c.forces-from.ensures, c.forces-to.ensures)
