use Rattle.step.specs.Apply.{apply_of, acted_on, apply_in}
use Rattle.step.proofs.actions.act.Goals as goal

pub returns-in-Key : goal.returns-in-Key
unfolding apply_of acted_on apply_in
returns-in-Key c =
    record {
      value = rw (c.in-Key.is, c.key-keys.ensures.0, c.key-keys.ensures.1);
      memory = rw c.in-Key.is;
    }

pub returns-in-Enc : goal.returns-in-Enc
unfolding apply_of acted_on apply_in
returns-in-Enc c =
    record {
      value = rw (c.in-Enc.is, c.encs_turned-turned.ensures);
      memory = rw c.in-Enc.is;
    }

pub returns-in-Adc : goal.returns-in-Adc
unfolding apply_of acted_on apply_in
returns-in-Adc c =
    record {
      value = rw (c.in-Adc.is, c.set_value.ensures);
      memory = rw c.in-Adc.is;
    }

pub returns-in-Midi : goal.returns-in-Midi
unfolding apply_of acted_on apply_in
returns-in-Midi c =
    record {
      value = rw (c.in-Midi.is, c.offer-uart.ensures.value);
      memory = rw (c.in-Midi.is) c.offer-uart.ensures.memory;
    }

pub returns-in-KeyVel : goal.returns-in-KeyVel
unfolding apply_of acted_on apply_in
returns-in-KeyVel c =
    record {
      value = rw (c.in-KeyVel.is, c.key_vel-keys.ensures);
      memory = rw c.in-KeyVel.is;
    }

pub returns-in-Pressure : goal.returns-in-Pressure
unfolding apply_of acted_on apply_in
returns-in-Pressure c =
    record {
      value = rw (c.in-Pressure.is, c.pressure.ensures);
      memory = rw c.in-Pressure.is;
    }
