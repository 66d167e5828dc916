use Rattle.refusals_whole.proofs.asks.three.Goals as goal

pub returns : goal.returns
returns c = rw (c.board_of.ensures, c.put_at.ensures) at c.three_of.ensures
