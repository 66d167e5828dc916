-- Names are bytes, compared in upper case; the words that they are compared with are ASCII texts.
use Rattle.std.specs.Prelude.{ℕ, List, [], ◌∷◌, map}
use Rattle.std.specs.Char.{to_ascii_uppercase}
use Prim.Native.Char.{code}
use Prim.Native.String.{String}

-- Bytes outside ASCII stay, so that they match nothing.
unfoldable pub uppers : List ℕ → List ℕ
uppers name = map to_ascii_uppercase name

-- the bytes of an ASCII text
abbrev pub bytes : String → List ℕ
bytes String.[] = []
bytes (String.◌∷◌ c text) = code c ∷ bytes text
