-- What a record says, "time, action": an order has no time.
use Rattle.std.specs.Prelude.{ℕ, cond, List, [], ◌∷◌}
use Rattle.text.specs.Ascii.{bytes}
use Rattle.line_answer.specs.Forms.{form_text}
use Rattle.line_answer.specs.declared.records.Record.{Record}
use Rattle.line_answer.specs.declared.records.Record.TheVariants.{Key, Enc, EncBack, Adc, Midi, KeyVel, Pressure, Read, Write, Step}

unfoldable pub record_text : Record → List ℕ
record_text (Key time id down) = form_text (bytes "% key % %") (time ∷ id ∷ cond down 1 0 ∷ [])
record_text (Enc time enc clicks) = form_text (bytes "% enc % %") (time ∷ enc ∷ clicks ∷ [])
record_text (EncBack time enc clicks) = form_text (bytes "% enc % -%") (time ∷ enc ∷ clicks ∷ [])
record_text (Adc time ch value) = form_text (bytes "% adc % %") (time ∷ ch ∷ value ∷ [])
record_text (Midi time b) = form_text (bytes "% midi %") (time ∷ b ∷ [])
record_text (KeyVel time vel) = form_text (bytes "% vel %") (time ∷ vel ∷ [])
record_text (Pressure time id vel) = form_text (bytes "% pressure % %") (time ∷ id ∷ vel ∷ [])
record_text (Read addr) = form_text (bytes "read %") (addr ∷ [])
record_text (Write addr value) = form_text (bytes "write % %") (addr ∷ value ∷ [])
record_text (Step cycles) = form_text (bytes "step %") (cycles ∷ [])
