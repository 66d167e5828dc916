use Rattle.refusals_lines.specs.Lines.{numbers_in}
use Rattle.refusals_lines.proofs.numbers_of.Goals as goal

pub returns : goal.returns
unfolding numbers_in
returns c = rw (c.number-5.ensures, c.number-4.ensures, c.number-3.ensures, c.number-2.ensures, c.number.ensures, c.word-five.ensures, c.word-four.ensures, c.word-three.ensures, c.word-two.ensures, c.word-one.ensures)
