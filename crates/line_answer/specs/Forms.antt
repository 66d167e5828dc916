-- A form is a text in which marks stand for numbers, in turn: `%` for one in decimal; `$`, `&` and `@` for one in hexadecimal, of 8, 2 and 16 digits.
use Rattle.std.specs.Prelude.{ℕ, cond, List, [], ◌∷◌, ◌++◌, eqb, drop, get_or}
use Prim.Native.Char.{code}
use Rattle.text.specs.Putting.{decimal_of, hex_of}
use Rattle.line_answer.specs.declared.forms.Mark.{Mark}
use Rattle.line_answer.specs.declared.forms.Mark.TheVariants.{Decimal, Hex, Text}

unfoldable pub mark_of : ℕ → Mark
mark_of b =
    cond (eqb b (code "%")) Decimal
    (cond (eqb b (code "$")) (Hex 8)
    (cond (eqb b (code "&")) (Hex 2)
    (cond (eqb b (code "@")) (Hex 16)
    (Text b))))

-- a mark's number, or what is none
unfoldable pub mark_text : Mark → ℕ → List ℕ
mark_text Decimal n = decimal_of n
mark_text (Hex digits) n = hex_of n digits
mark_text (Text b) n = b ∷ []

-- the numbers that are left behind a mark
unfoldable pub numbers_behind : List ℕ → Mark → List ℕ
numbers_behind numbers Decimal = drop 1 numbers
numbers_behind numbers (Hex digits) = drop 1 numbers
numbers_behind numbers (Text b) = numbers

unfoldable pub form_text : List ℕ → List ℕ → List ℕ
form_text [] numbers = []
form_text (b ∷ form) numbers =
    mark_text (mark_of b) (get_or numbers 0 0) ++ form_text form (numbers_behind numbers (mark_of b))
