use Rattle.std.proofs.Common.{sym}
use Rattle.std.specs.Char.{to_ascii_uppercase}
use Rattle.names.proofs.OnNotes.{letter_of_note}
use Rattle.names.proofs.note_name.Goals as goal

pub returns : goal.returns
returns c =
    rw (
      c.in_ok-letter.ensures.cases.0,
      letter_of_note c.in_ok-letter.letter.now c.in_ok-letter.rest.now {semitone = c.in_ok-semitone.semitone}
          (rw (← c.to_ascii_uppercase.ensures.value) (sym c.in_ok-semitone.ensures)),
    )
    (c.after_letter.ensures (to_ascii_uppercase c.in_ok-letter.letter.now))
