-- What a whole record asks of the encoders is kept by moments and turns.
use mathlib.Core.Path.{◌≡◌, refl, subst}
use mathlib.Core.Bool.{Bool, true, false, cond, ◌||◌}
use mathlib.Core.List.{List}
use mathlib.Core.Logic.{◌⊎◌, inl, inr}
use Prim.Native.Nat.{ℕ, zero, suc, ◌+◌, ◌-◌, ◌/◌, ◌%◌, ◌^◌, ◌≤◌, ◌<◌, min}
use native.Mathlib.Nat.{le_trans, lt_of_lt_of_le, min-le_left, min-le_right}
use Rattle.base.proofs.Cases.{lt-or-ge}
use native.Mathlib.Omega.{arith}
use borrow.Author.Tests.{lt-ltb}
use lib.Dec.{eqb, ltb}
use lib.ListN.{length}
use Rattle.base.specs.Moments.{clock_max, never}
use Rattle.base.proofs.Lists.{get_or-map, map_same}
use Rattle.base.specs.Signed.{is_negative, towards_zero}
use Rattle.encoders.specs.Encoder.{state_on, enc_at, enc_next, enc_turned, turned_if, enc_new, enc_of, encs_at, encs_next, encs_turned}
use Rattle.encoders.specs.Facts.{EncOk}
use Rattle.encoders.specs.declared.Enc.{Enc}

state-small : (e : Enc) → state_on e < 4
state-small e = go (is_negative e.pending)
  where
    go : (back : Bool) → cond back ((e.state % 4 + 3) % 4) ((e.state % 4 + 1) % 4) < 4
    go true = omega arith
    go false = omega arith

pub enc-turned-kept : (e : Enc) (clicks now : ℕ) → now ≤ clock_max → EncOk e → EncOk (enc_turned e clicks now)
enc-turned-kept e clicks now c w = record { next = inl (omega arith); state = w.state }

-- the earliest deadline is none's later
four-least : (f : ℕ → ℕ) (i : ℕ) → i < 4 → min (min (f 0) (f 1)) (min (f 2) (f 3)) ≤ f i
four-least f zero h = omega arith
four-least f (suc zero) h = omega arith
four-least f (suc (suc zero)) h = omega arith
four-least f (suc (suc (suc zero))) h = omega arith
four-least f (suc (suc (suc (suc i)))) h = absurd (omega arith)

eight-least : (f : ℕ → ℕ) (i : ℕ) → i < 8
    → min (min (min (f 0) (f 1)) (min (f 2) (f 3))) (min (min (f 4) (f 5)) (min (f 6) (f 7))) ≤ f i
eight-least f i h = go (lt-or-ge i 4)
  where
    go : (i < 4) ⊎ (4 ≤ i) → min (min (min (f 0) (f 1)) (min (f 2) (f 3))) (min (min (f 4) (f 5)) (min (f 6) (f 7))) ≤ f i
    go (inl l) = le_trans (min-le_left (min (min (f 0) (f 1)) (min (f 2) (f 3))) (min (min (f 4) (f 5)) (min (f 6) (f 7)))) (four-least f i l)
    go (inr l) =
        let q : 4 + (i - 4) ≡ i = omega arith in
        le_trans (min-le_right (min (min (f 0) (f 1)) (min (f 2) (f 3))) (min (min (f 4) (f 5)) (min (f 6) (f 7))))
        (subst (λ (k : ℕ). min (min (f 4) (f 5)) (min (f 6) (f 7)) ≤ f k) q (four-least (λ k. f (4 + k)) (i - 4) (omega arith)))

next-least : (es : List Enc) (i : ℕ) → i < 8 → encs_next es ≤ enc_next (enc_of es i)
next-least es i h = eight-least (λ k. enc_next (enc_of es k)) i h

-- one of the seven turned; the others stay
pub encs-turned : (es : List Enc) (enc clicks now i : ℕ) → i < 7 → enc_of (encs_turned es enc clicks now) i ≡ turned_if (eqb enc i) (enc_of es i) clicks now
unfolding encs_turned
encs-turned es enc clicks now zero h = refl
encs-turned es enc clicks now (suc zero) h = refl
encs-turned es enc clicks now (suc (suc zero)) h = refl
encs-turned es enc clicks now (suc (suc (suc zero))) h = refl
encs-turned es enc clicks now (suc (suc (suc (suc zero)))) h = refl
encs-turned es enc clicks now (suc (suc (suc (suc (suc zero))))) h = refl
encs-turned es enc clicks now (suc (suc (suc (suc (suc (suc zero)))))) h = refl
encs-turned es enc clicks now (suc (suc (suc (suc (suc (suc (suc i))))))) h = absurd (omega arith)

module _ (now hz : ℕ) (c : now ≤ clock_max) (g : hz < 2 ^ 32) where
  pub enc-at-kept : (e : Enc) → EncOk e → EncOk (enc_at e now hz)
  unfolding enc_at
  enc-at-kept e w = go (eqb e.pending 0 || ltb now e.next)
    where
      go : (rests : Bool) → EncOk
          (cond rests e (record { next = now + hz / 500; pending = towards_zero e.pending; state = state_on e }))
      go true = w
      go false = record { next = inl (omega arith); state = state-small e }

  enc-quiet : (e : Enc) → now < enc_next e → enc_at e now hz ≡ e
  unfolding enc_at
  enc-quiet e h = go (eqb e.pending 0) h
    where
      go : (rests : Bool) → now < cond rests never e.next
          → cond (rests || ltb now e.next) e
          (record { next = now + hz / 500; pending = towards_zero e.pending; state = state_on e }) ≡ e
      go true h = refl
      go false h = rw (lt-ltb now e.next h)

  module _ (es : List Enc) (eight : length es ≡ 8) where
    pub encs-at : (i : ℕ) → i < 8 → enc_of (encs_at es now hz) i ≡ enc_at (enc_of es i) now hz
    unfolding encs_at
    encs-at i h = get_or-map (λ e. enc_at e now hz) enc_new enc_new es i (omega arith)

    pub encs-kept : ((i : ℕ) → i < 8 → EncOk (enc_of es i)) → (i : ℕ) → i < 8 → EncOk (enc_of (encs_at es now hz) i)
    encs-kept w i h = rw (encs-at i h) (enc-at-kept (enc_of es i) (w i h))

    -- before the earliest deadline nothing moves
    pub encs-quiet : now < encs_next es → encs_at es now hz ≡ es
    unfolding encs_at
    encs-quiet h =
        map_same (λ e. enc_at e now hz) enc_new es
        (λ i g. let k : i < 8 = omega arith in enc-quiet (enc_of es i) (lt_of_lt_of_le h (next-least es i k)))
