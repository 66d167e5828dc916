-- The encoders: a pending count of quadrature states (an i32's bits), the state, and when the next one comes.
use Rattle.std.specs.Prelude.{ℕ, ◌+◌, ◌*◌, ◌/◌, ◌%◌, min, Bool, cond, ◌&&◌, ◌||◌, List, [], ◌∷◌, map, eqb, ltb, get_or}
use Rattle.base.specs.AllTo.{all_to}
use Rattle.base.specs.Moments.{never, is_deadline}
use Rattle.base.specs.Signed.{is_negative, towards_zero}
use Rattle.base.specs.Wrap.{minus32, times32}
use Rattle.encoders.specs.declared.Enc.{Enc}

abbrev pub enc_new : Enc
enc_new = record { next = 0; pending = 0; state = 0 }

-- the state one on (`(s + pending.signum()) & 3`)
abbrev pub state_on : Enc → ℕ
state_on e = cond (is_negative e.pending) ((e.state % 4 + 3) % 4) ((e.state % 4 + 1) % 4)

-- at its time, while states are to go: one of them, and the next a five hundredth of a second on
unfoldable pub enc_at : Enc → ℕ → ℕ → Enc
enc_at e now hz =
    cond (eqb e.pending 0 || ltb now e.next) e
    (record { next = now + hz / 500; pending = towards_zero e.pending; state = state_on e })

-- its deadline while it moves
abbrev pub enc_next : Enc → ℕ
enc_next e = cond (eqb e.pending 0) never e.next

-- turned by clicks: four states each, taken away, from the next step on; "sums wrap"
abbrev pub enc_turned : Enc → ℕ → ℕ → Enc
enc_turned e clicks now = record { next = now; pending = minus32 e.pending (times32 clicks 4); state = e.state }

abbrev pub turned_if : Bool → Enc → ℕ → ℕ → Enc
turned_if this e clicks now = cond this (enc_turned e clicks now) e

-- "Quadrature states in turning order: (A, B)": (0, 0), (1, 0), (1, 1), (0, 1); A is worth 1, B 2
abbrev pub closed_bits : ℕ → ℕ
closed_bits s = cond (eqb s 1) 1 (cond (eqb s 2) 3 (cond (eqb s 3) 2 0))

-- its part of a whole record: "encoder states are 0 to 3"
abbrev pub enc_whole : Enc → Bool
enc_whole e = is_deadline e.next && ltb e.state 4

abbrev pub enc_of : List Enc → ℕ → Enc
enc_of es i = get_or es i enc_new

-- the eight: each after the moment, the earliest deadline, each one's part of a whole record
unfoldable pub encs_at : List Enc → ℕ → ℕ → List Enc
encs_at es now hz = map (λ e. enc_at e now hz) es

abbrev pub encs_next : List Enc → ℕ
encs_next es =
    min
    (min (min (enc_next (enc_of es 0)) (enc_next (enc_of es 1))) (min (enc_next (enc_of es 2)) (enc_next (enc_of es 3))))
    (min (min (enc_next (enc_of es 4)) (enc_next (enc_of es 5))) (min (enc_next (enc_of es 6)) (enc_next (enc_of es 7))))

unfoldable pub encs_whole : List Enc → Bool
encs_whole es = all_to (λ i. enc_whole (enc_of es i)) 8

-- one of the seven turned, the others as they were
unfoldable pub encs_turned : List Enc → ℕ → ℕ → ℕ → List Enc
encs_turned es enc clicks now =
    turned_if (eqb enc 0) (enc_of es 0) clicks now
    ∷ turned_if (eqb enc 1) (enc_of es 1) clicks now
    ∷ turned_if (eqb enc 2) (enc_of es 2) clicks now
    ∷ turned_if (eqb enc 3) (enc_of es 3) clicks now
    ∷ turned_if (eqb enc 4) (enc_of es 4) clicks now
    ∷ turned_if (eqb enc 5) (enc_of es 5) clicks now
    ∷ turned_if (eqb enc 6) (enc_of es 6) clicks now
    ∷ enc_of es 7
    ∷ []

-- the seven's closed contacts as bits: A of encoder i is bit 2 i, B the next (`contact-bit` of proofs/)
abbrev pub contact_bits : List Enc → ℕ → ℕ
contact_bits es i = closed_bits (enc_of es i).state

unfoldable pub encs_closed : List Enc → ℕ
encs_closed es =
    contact_bits es 0 + contact_bits es 1 * 4 + contact_bits es 2 * 16 + contact_bits es 3 * 64 + contact_bits es 4 * 256
    + contact_bits es 5 * 1024
    + contact_bits es 6 * 4096
