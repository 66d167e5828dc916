-- What an action makes of the board, and of the bytes behind the jack. `next_due` becomes 0: the next step looks at everything.
use Rattle.std.specs.Prelude.{ℕ, List}
use Rattle.adc.specs.Adc.{value_set}
use Rattle.encoders.specs.Encoder.{encs_turned}
use Rattle.keys.specs.Keys.{key_of, pressure_of, vel_written}
use Rattle.keys.specs.declared.Ramps.{Ramps}
use Rattle.records.specs.declared.Action.{Action}
use Rattle.records.specs.declared.Action.TheVariants.{Key, Enc, Adc, Midi, KeyVel, Pressure}
use Rattle.state.specs.With.{with_keys, with_enc, with_uart, due_now}
use Rattle.state.specs.declared.Board.{Board}
use Rattle.state.specs.declared.Chip.{Chip}
use Rattle.state.specs.declared.Panel.{Panel}
use Rattle.uart.specs.Uart.{offer_of, offer_in}
use Rattle.step.specs.Stages.{now_of, hz_of}

abbrev pub with_ramps : Panel → Ramps → Panel
with_ramps p ramps = record { acc = p.acc; ramps = ramps; values = p.values }

abbrev pub with_values : Panel → List ℕ → Panel
with_values p values = record { acc = p.acc; ramps = p.ramps; values = values }

abbrev pub board_of : Chip → Panel → Board
board_of c p = record { chip = c; panel = p }

unfoldable pub acted_on : Chip → Panel → Action → Board
acted_on c p (Key id down) = board_of (with_keys c (key_of c.keys p.ramps id down (now_of c) (hz_of c)).keys) (with_ramps p (key_of c.keys p.ramps id down (now_of c) (hz_of c)).ramps)
acted_on c p (Enc enc clicks) = board_of (with_enc c (encs_turned c.enc enc clicks (now_of c))) p
acted_on c p (Adc ch value) = board_of c (with_values p (value_set p.values ch value))
acted_on c p (Midi b) = board_of (with_uart c (offer_of c.uart (now_of c) (hz_of c))) p
acted_on c p (KeyVel vel) = board_of (with_keys c (vel_written c.keys vel)) p
acted_on c p (Pressure id vel) = board_of c (with_ramps p (pressure_of c.keys p.ramps id vel (now_of c) (hz_of c)))

unfoldable pub apply_of : Board → Action → Board
apply_of b a = acted_on (due_now b.chip) b.panel a

-- only a byte for the jack touches the queue
unfoldable pub apply_in : Board → Action → List ℕ → List ℕ
apply_in b (Key id down) queue = queue
apply_in b (Enc enc clicks) queue = queue
apply_in b (Adc ch value) queue = queue
apply_in b (Midi x) queue = offer_in b.chip.uart queue x
apply_in b (KeyVel vel) queue = queue
apply_in b (Pressure id vel) queue = queue
