-- A word tells its action: `action_of` gives back what `word_of` was given, so two actions that differ have two words.
use mathlib.Core.Path.{◌≡◌, sym, ap, ◌∙◌}
use mathlib.Core.Bool.{Bool, true, false, cond}
use Prim.Native.Nat.{ℕ, ◌/◌, ◌%◌, ◌<◌, ◌^◌}
use native.Mathlib.Nat.{mod-eq_of_lt}
use native.Mathlib.Omega.{arith}
use lib.Dec.{eqb}
use Rattle.records.specs.Values.{FitsAction}
use Rattle.records.specs.declared.Action.{Action}
use Rattle.records.specs.declared.Action.TheVariants.{Key, Enc, Adc, Midi, KeyVel, Pressure}
use Rattle.script.specs.Words.{packed, word_of, first_in, second_in, action_of}

-- the three parts of a word
record Parts (w k a b : ℕ) : Type 0 where
  kind : w % 8 ≡ k
  first : first_in w ≡ a
  second : w / 0x800 ≡ b

parts : (k a b : ℕ) → k < 8 → a < 2 ^ 8 → Parts (packed k a b) k a b
parts k a b h f = record { kind = omega (arith, h, f); first = omega (arith, h, f); second = omega (arith, h, f) }

pub word_back : (x : Action) → FitsAction x → action_of (word_of x) ≡ x
unfolding action_of
word_back (Key id true) f = let p = parts 0 id 1 (omega arith) f in rw (p.kind, p.first, p.second)
word_back (Key id false) f = let p = parts 0 id 0 (omega arith) f in rw (p.kind, p.first, p.second)
word_back (Enc enc clicks) f = let p = parts 1 enc clicks (omega arith) f.0 in rw (p.kind, p.first, p.second, mod-eq_of_lt f.1)
word_back (Adc ch value) f = let p = parts 2 ch value (omega arith) f.0 in rw (p.kind, p.first, p.second, mod-eq_of_lt f.1)
word_back (Midi b) f = let p = parts 3 b 0 (omega arith) f in rw (p.kind, p.first)
word_back (KeyVel vel) f = let p = parts 4 vel 0 (omega arith) f in rw (p.kind, p.first)
word_back (Pressure id vel) f = let p = parts 5 id vel (omega arith) f.0 in rw (p.kind, p.first, p.second, mod-eq_of_lt f.1)

pub words-differ : (x y : Action) → FitsAction x → FitsAction y → word_of x ≡ word_of y → x ≡ y
words-differ x y f g e = sym (word_back x f) ∙ ap action_of e ∙ word_back y g

-- every word is an action of the code's types
fits-at : (a b c d e : Bool) (w : ℕ)
    → FitsAction
    (cond a (Key (first_in w) (eqb (second_in 2 w) 1))
    (cond b (Enc (first_in w) (second_in (2 ^ 32) w))
    (cond c (Adc (first_in w) (second_in (2 ^ 16) w))
    (cond d (Midi (first_in w))
    (cond e (KeyVel (first_in w))
    (Pressure (first_in w) (second_in (2 ^ 8) w)))))))
fits-at true b c d e w = omega arith
fits-at false true c d e w = (omega arith, omega arith)
fits-at false false true d e w = (omega arith, omega arith)
fits-at false false false true e w = omega arith
fits-at false false false false true w = omega arith
fits-at false false false false false w = (omega arith, omega arith)

pub action-fits : (w : ℕ) → FitsAction (action_of w)
unfolding action_of
action-fits w = fits-at (eqb (w % 8) 0) (eqb (w % 8) 1) (eqb (w % 8) 2) (eqb (w % 8) 3) (eqb (w % 8) 4) w
