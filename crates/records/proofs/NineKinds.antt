-- The nine kinds: what has a length is one of them.
use mathlib.Core.Path.{◌≡◌, refl, sym, subst}
use mathlib.Core.Bool.{Bool, true, false}
use Prim.Native.Nat.{ℕ, zero, suc, ◌≤◌}
use native.Mathlib.Omega.{arith}
use borrow.Author.Tests.{eqb-true}
use lib.Dec.{eqb, lit≤}
use mathlib.Core.Logic.{◌⊎◌, inl, inr}
use Rattle.records.specs.Layout.{length_of, is_timed, is_order}
use Rattle.records.specs.Kinds.{number_of}
use Rattle.records.specs.declared.Kind.{Kind}
use Rattle.records.specs.declared.Kind.TheVariants.{Key, Enc, Adc, Midi, KeyVel, Pressure, Read, Write, Step}

pub data Known : ℕ → Type 0 where
  is_key : Known 1
  is-enc : Known 2
  is-adc : Known 3
  is-midi : Known 4
  is-key-vel : Known 5
  is-pressure : Known 6
  is_read_lem : Known 0x101
  is-write : Known 0x102
  is-step : Known 0x103

is-or : (k n : ℕ) → Known n → (b : Bool) → eqb k n ≡ b → (eqb k n ≡ false → Known k) → Known k
is-or k n v true e f = subst Known (sym (eqb-true k n e)) v
is-or k n v false e f = f e

pub known : (k : ℕ) → (length_of k ≡ 0 → ⊥) → Known k
unfolding length_of
known k h =
    is-or k 1 is_key (eqb k 1) refl λ e₁.
    is-or k 2 is-enc (eqb k 2) refl λ e₂.
    is-or k 3 is-adc (eqb k 3) refl λ e₃.
    is-or k 4 is-midi (eqb k 4) refl λ e₄.
    is-or k 5 is-key-vel (eqb k 5) refl λ e₅.
    is-or k 6 is-pressure (eqb k 6) refl λ e₆.
    is-or k 0x101 is_read_lem (eqb k 0x101) refl λ e₇.
    is-or k 0x102 is-write (eqb k 0x102) refl λ e₈.
    is-or k 0x103 is-step (eqb k 0x103) refl λ e₉.
    absurd (h (rw (e₁, e₂, e₃, e₄, e₅, e₆, e₇, e₈, e₉)))

-- an action's or the driver's
pub known-sorted : {k : ℕ} → Known k → (is_timed k ≡ true) ⊎ (is_order k ≡ true)
known-sorted is_key = inl refl
known-sorted is-enc = inl refl
known-sorted is-adc = inl refl
known-sorted is-midi = inl refl
known-sorted is-key-vel = inl refl
known-sorted is-pressure = inl refl
known-sorted is_read_lem = inr refl
known-sorted is-write = inr refl
known-sorted is-step = inr refl

pub known-most : {k : ℕ} → Known k → k ≤ 0x103
known-most is_key = lit≤ tt
known-most is-enc = lit≤ tt
known-most is-adc = lit≤ tt
known-most is-midi = lit≤ tt
known-most is-key-vel = lit≤ tt
known-most is-pressure = lit≤ tt
known-most is_read_lem = lit≤ tt
known-most is-write = lit≤ tt
known-most is-step = lit≤ tt

-- a record is at least eight bytes long, with a time at least thirteen
pub known-least : {k : ℕ} → Known k → 8 ≤ length_of k
unfolding length_of
known-least is_key = lit≤ tt
known-least is-enc = lit≤ tt
known-least is-adc = lit≤ tt
known-least is-midi = lit≤ tt
known-least is-key-vel = lit≤ tt
known-least is-pressure = lit≤ tt
known-least is_read_lem = lit≤ tt
known-least is-write = lit≤ tt
known-least is-step = lit≤ tt

pub timed-least : (k : ℕ) → 1 ≤ k → k ≤ 6 → 13 ≤ length_of k
unfolding length_of
timed-least zero h m = absurd (omega arith)
timed-least (suc zero) h m = lit≤ tt
timed-least (suc (suc zero)) h m = lit≤ tt
timed-least (suc (suc (suc zero))) h m = lit≤ tt
timed-least (suc (suc (suc (suc zero)))) h m = lit≤ tt
timed-least (suc (suc (suc (suc (suc zero))))) h m = lit≤ tt
timed-least (suc (suc (suc (suc (suc (suc zero)))))) h m = lit≤ tt
timed-least (suc (suc (suc (suc (suc (suc (suc k))))))) h m = absurd (omega arith)

-- and at most seventeen
pub known-longest : {k : ℕ} → Known k → length_of k ≤ 17
unfolding length_of
known-longest is_key = lit≤ tt
known-longest is-enc = lit≤ tt
known-longest is-adc = lit≤ tt
known-longest is-midi = lit≤ tt
known-longest is-key-vel = lit≤ tt
known-longest is-pressure = lit≤ tt
known-longest is_read_lem = lit≤ tt
known-longest is-write = lit≤ tt
known-longest is-step = lit≤ tt

-- the same of the kinds by name
pub kind-least : (kind : Kind) → 8 ≤ length_of (number_of kind)
unfolding length_of
kind-least Key = lit≤ tt
kind-least Enc = lit≤ tt
kind-least Adc = lit≤ tt
kind-least Midi = lit≤ tt
kind-least KeyVel = lit≤ tt
kind-least Pressure = lit≤ tt
kind-least Read = lit≤ tt
kind-least Write = lit≤ tt
kind-least Step = lit≤ tt

pub key_named : (kind : Kind) → number_of kind ≡ 1 → kind ≡ Key
key_named Key e = refl
key_named Enc e = absurd (omega arith)
key_named Adc e = absurd (omega arith)
key_named Midi e = absurd (omega arith)
key_named KeyVel e = absurd (omega arith)
key_named Pressure e = absurd (omega arith)
key_named Read e = absurd (omega arith)
key_named Write e = absurd (omega arith)
key_named Step e = absurd (omega arith)
