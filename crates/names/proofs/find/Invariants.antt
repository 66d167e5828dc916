use Rattle.std.proofs.Common.{◌≡◌, drop}
use Rattle.names.specs.Ascii.{uppers}
use Rattle.names.specs.Words.{find_row}
use Rattle.names.proofs.find.Given as goal

abbrev pub invariant-loop-word : goal.invariant-loop-word
invariant-loop-word l = find_row l.table (uppers l.name) ≡ find_row (drop l.word-index l.table) (uppers l.name)
