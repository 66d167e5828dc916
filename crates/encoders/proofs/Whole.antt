-- The computed test of the encoders' share of a whole record gives the facts, and the facts pass the test.
use Prim.Native.Nat.{ℕ, ◌<◌}
use mathlib.Core.Path.{◌≡◌}
use mathlib.Core.Bool.{true}
use mathlib.Core.List.{List}
use lib.Dec.{ltb}
use borrow.Author.Tests.{ltb-true, lt-ltb}
use Rattle.base.specs.Moments.{is_deadline}
use Rattle.base.proofs.All.{all-at, all_of}
use Rattle.base.proofs.Deadlines.{deadline-fact, deadline-test}
use Rattle.base.proofs.Flags.{both}
use Rattle.encoders.specs.Encoder.{enc_whole, enc_of, encs_whole}
use Rattle.encoders.specs.Facts.{EncOk}
use Rattle.encoders.specs.declared.Enc.{Enc}

pub enc-facts : (e : Enc) → enc_whole e ≡ true → EncOk e
enc-facts e t =
    let p = both (is_deadline e.next) (ltb e.state 4) t in
    record { next = deadline-fact e.next p.0; state = ltb-true _ _ p.1 }

pub enc-test : (e : Enc) → EncOk e → enc_whole e ≡ true
enc-test e w = rw (deadline-test e.next w.next, lt-ltb e.state 4 w.state)

pub encs-facts : (es : List Enc) → encs_whole es ≡ true → (i : ℕ) → i < 8 → EncOk (enc_of es i)
unfolding encs_whole
encs-facts es t i h = enc-facts (enc_of es i) (all-at (λ j. enc_whole (enc_of es j)) 8 i t h)

pub encs-test : (es : List Enc) → ((i : ℕ) → i < 8 → EncOk (enc_of es i)) → encs_whole es ≡ true
unfolding encs_whole
encs-test es w = all_of (λ j. enc_whole (enc_of es j)) 8 (λ i h. enc-test (enc_of es i) (w i h))
