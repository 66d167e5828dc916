use Rattle.text.proofs.After.{then}
use Rattle.refusals_lines.specs.Lines.{line_text}
use Rattle.refusals_lines.proofs.put_line.Goals as goal

pub returns : goal.returns
unfolding line_text
returns c = then _ _ _ _ _ _ _ _ c.put_text-repeated.ensures (then _ _ _ _ _ _ _ _ c.put_answer-said.ensures c.put_text.ensures)
