-- Answers, and their text: "answers with the line itself, ` = `, and the result".
use Rattle.std.specs.Prelude.{ℕ, ◌+◌, Bool, cond, List, [], ◌∷◌, ◌++◌, eqb, Option, Some, None}
use Rattle.text.specs.Ascii.{bytes}
use Rattle.text.specs.Putting.{decimal_of}
use Rattle.line_answer.specs.Forms.{form_text}
use Rattle.line_answer.specs.Records.{record_text}
use Rattle.line_answer.specs.declared.Answer.{Answer}
use Rattle.line_answer.specs.declared.Answer.TheVariants.{
  Number,
  Pair,
  Flag,
  Hex,
  Byte,
  Sum,
  NoValue,
  Refused,
  NoCall,
  Value,
  Stepped,
  State,
  Watchdog,
  Reset,
  Snap,
  Lights,
  Recorded,
  Broken,
  End,
  LongLine,
  NoLine,
}

-- a result, or "`E` and its number"
unfoldable pub unless_refused : ℕ → Answer → Answer
unless_refused refused a = cond (eqb refused 0) a (Refused refused)

-- the value or `none`
unfoldable pub value_text : Option ℕ → List ℕ
value_text (Some v) = form_text (bytes "$") (v ∷ [])
value_text None = bytes "none"

-- clock and `skipped`, while idle time is skipped
unfoldable pub clock_text : Option (ℕ × ℕ) → List ℕ
clock_text (Some c) = form_text (bytes " % %") (c.0 ∷ c.1 ∷ [])
clock_text None = []

-- audio half or `-`
unfoldable pub half_text : Option (ℕ × ℕ) → List ℕ
half_text (Some half) = form_text (bytes "$/%") (half.0 ∷ half.1 ∷ [])
half_text None = bytes "-"

-- byte or `-`
unfoldable pub byte_text : Option (ℕ × ℕ) → List ℕ
byte_text (Some byte) = form_text (bytes "$/&") (byte.0 ∷ byte.1 ∷ [])
byte_text None = bytes "-"

-- a record that does not come back has a star
unfoldable pub star_text : Bool → List ℕ
star_text same = cond same [] (bytes " *")

-- "`id:lit` for each LED with a lit time, in order of id"
unfoldable pub light_text : ℕ → ℕ → List ℕ
light_text id lit = cond (eqb lit 0) [] (form_text (bytes " %:%") (id ∷ lit ∷ []))

-- from an id on
unfoldable pub lights_text : ℕ → List ℕ → List ℕ
lights_text id [] = []
lights_text id (lit ∷ lights) = light_text id lit ++ lights_text (id + 1) lights

unfoldable pub answer_text : Answer → List ℕ → List ℕ
answer_text (Number n) lights = form_text (bytes "%") (n ∷ [])
answer_text (Pair n m) lights = form_text (bytes "% %") (n ∷ m ∷ [])
answer_text (Flag is) lights = form_text (bytes "%") (cond is 1 0 ∷ [])
answer_text (Hex n) lights = form_text (bytes "$") (n ∷ [])
answer_text (Byte b) lights = form_text (bytes "&") (b ∷ [])
answer_text (Sum n) lights = form_text (bytes "@") (n ∷ [])
answer_text NoValue lights = bytes "none"
answer_text (Refused number) lights = form_text (bytes "E %") (number ∷ [])
answer_text NoCall lights = bytes "?"
answer_text (Value value clock) lights = value_text value ++ clock_text clock
answer_text (Stepped clock half byte usb wdt applied) lights =
    form_text (bytes "% ") (clock ∷ [])
    ++ (half_text half ++ (bytes " " ++ (byte_text byte ++ form_text (bytes " % % %") (cond usb 1 0 ∷ cond wdt 1 0 ∷ applied ∷ []))))
answer_text (State clock due skipped halves queued dropped script wire done vel) lights =
    form_text
    (bytes "clock % due % skipped % halves % queued % dropped % script % wire % done % vel %")
    (clock ∷ due ∷ skipped ∷ halves ∷ queued ∷ dropped ∷ script ∷ wire ∷ done ∷ vel ∷ [])
answer_text (Watchdog fed) lights = form_text (bytes "wdt %") (cond fed 1 0 ∷ [])
answer_text Reset lights = bytes "reset"
answer_text (Snap con dat step cmd addr changed) lights =
    form_text (bytes "% % % % % %") (con ∷ dat ∷ step ∷ cmd ∷ addr ∷ changed ∷ [])
answer_text (Lights span) lights = decimal_of span ++ lights_text 0 lights
answer_text (Recorded what next same) lights =
    record_text what ++ (form_text (bytes " next %") (next ∷ []) ++ star_text same)
answer_text (Broken at) lights = form_text (bytes "broken %") (at ∷ [])
answer_text End lights = bytes "end"
answer_text LongLine lights = []
answer_text NoLine lights = []

-- a line that asks nothing has no answer, one that has no room is not repeated
unfoldable pub line_text : List ℕ → Answer → List ℕ → List ℕ
line_text line NoLine lights = []
line_text line LongLine lights = bytes "? = ?" ++ (10 ∷ [])
line_text line a lights = line ++ (bytes " = " ++ (answer_text a lights ++ (10 ∷ [])))
