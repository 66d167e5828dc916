use Rattle.refusals_rows.specs.Rows.{board_from}
use Rattle.refusals_rows.proofs.board_of.Goals as goal

pub returns : goal.returns
unfolding board_from
returns c = rw (c.chip_of.ensures, c.panel_of.ensures, c.new.ensures, c.new-2.ensures, c.low.ensures)
