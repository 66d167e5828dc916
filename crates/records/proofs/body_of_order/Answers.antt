use Rattle.records.specs.Layout.{length_of}
use Rattle.records.proofs.body_of_order.Goals as goal

pub returns-in-Read : goal.returns-in-Read
unfolding length_of
returns-in-Read c = rw c.in-Read.is

pub returns-in-Write : goal.returns-in-Write
unfolding length_of
returns-in-Write c = rw c.in-Write.is (c.word_and.ensures 4)

pub returns-in-Step : goal.returns-in-Step
unfolding length_of
returns-in-Step c = rw c.in-Step.is
