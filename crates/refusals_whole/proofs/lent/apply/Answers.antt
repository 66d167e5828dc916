use Rattle.refusals_whole.proofs.lent.apply.Goals as goal

pub returns : goal.returns
returns c = rw c.action.ensures at c.applied.ensures
