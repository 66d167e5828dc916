use Rattle.std.proofs.Common.{arith}
use Rattle.records.specs.Layout.{length_of, action_in}
use Rattle.records.proofs.Numbers.{number-byte}
use Rattle.records.proofs.body_in.Goals as goal

pub returns-in-Key : goal.returns-in-Key
unfolding length_of action_in
returns-in-Key c =
    let s = c.args.s.now in
    let long = rw c.in-Key.is at c.requires in
    rw (c.in-Key.is, c.at_time.ensures, number-byte 12 s (omega arith), number-byte 13 s (omega arith))

pub returns-in-Enc : goal.returns-in-Enc
unfolding length_of action_in
returns-in-Enc c =
    let s = c.args.s.now in
    let long = rw c.in-Enc.is at c.requires in
    rw (c.in-Enc.is, c.at_time-in-Enc.ensures, number-byte 12 s (omega arith), c.u32_at.ensures)

pub returns-in-Adc : goal.returns-in-Adc
unfolding length_of action_in
returns-in-Adc c =
    let s = c.args.s.now in
    let long = rw c.in-Adc.is at c.requires in
    rw (c.in-Adc.is, c.at_time-in-Adc.ensures, number-byte 12 s (omega arith), c.u16_at.ensures)

pub returns-in-Midi : goal.returns-in-Midi
unfolding length_of action_in
returns-in-Midi c =
    let s = c.args.s.now in
    let long = rw c.in-Midi.is at c.requires in
    rw (c.in-Midi.is, c.at_time-in-Midi.ensures, number-byte 12 s (omega arith))

pub returns-in-KeyVel : goal.returns-in-KeyVel
unfolding length_of action_in
returns-in-KeyVel c =
    let s = c.args.s.now in
    let long = rw c.in-KeyVel.is at c.requires in
    rw (c.in-KeyVel.is, c.at_time-in-KeyVel.ensures, number-byte 12 s (omega arith))

pub returns-in-Pressure : goal.returns-in-Pressure
unfolding length_of action_in
returns-in-Pressure c =
    let s = c.args.s.now in
    let long = rw c.in-Pressure.is at c.requires in
    rw (c.in-Pressure.is, c.at_time-in-Pressure.ensures, number-byte 12 s (omega arith), number-byte 13 s (omega arith))
