use Rattle.std.proofs.Common.{◌≡◌, Bool, true, false, refl}
use mir.Val.{bool_byte}
use Rattle.records.specs.Layout.{flag_of}
use Rattle.records.specs.Layout.{length_of}
use Rattle.records.proofs.body_of.Goals as goal

flag_is : (down : Bool) → bool_byte down ≡ flag_of down
flag_is true = refl
flag_is false = refl

pub returns-in-Key : goal.returns-in-Key
unfolding length_of
returns-in-Key c = rw c.in-Key.is (rw (c.from.ensures, flag_is c.in-Key.down) at (c.byte_and.ensures 1))

pub returns-in-Enc : goal.returns-in-Enc
unfolding length_of
returns-in-Enc c = rw c.in-Enc.is (c.byte_and-in-Enc.ensures 4)

pub returns-in-Adc : goal.returns-in-Adc
unfolding length_of
returns-in-Adc c = rw c.in-Adc.is (c.byte_and-in-Adc.ensures 2)

pub returns-in-Midi : goal.returns-in-Midi
unfolding length_of
returns-in-Midi c = rw c.in-Midi.is

pub returns-in-KeyVel : goal.returns-in-KeyVel
unfolding length_of
returns-in-KeyVel c = rw c.in-KeyVel.is

pub returns-in-Pressure : goal.returns-in-Pressure
unfolding length_of
returns-in-Pressure c = rw c.in-Pressure.is (c.byte_and-in-Pressure.ensures 1)
