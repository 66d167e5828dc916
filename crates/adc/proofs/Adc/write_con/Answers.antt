use borrow.Author.Tests.{eq-eqb, ne_eqb}
use Rattle.adc.specs.Adc.{con_written}
use Rattle.adc.proofs.Adc.write_con.Goals as goal

pub returns-then-v-eq0 : goal.returns-then-v-eq0
unfolding con_written
returns-then-v-eq0 c = rw (eq-eqb _ _ c.if-v-eq0.true)

pub returns-then-v-eq0-2 : goal.returns-then-v-eq0-2
unfolding con_written
returns-then-v-eq0-2 c = rw (ne_eqb _ _ c.if-v-eq0.false, eq-eqb _ _ c.if-v-eq0-2.true, c.acknowledged.ensures)

pub returns : goal.returns
unfolding con_written
returns c = rw (ne_eqb _ _ c.if-v-eq0.false, ne_eqb _ _ c.if-v-eq0-2.false, c.converted.ensures)
