-- What a line asks, by the page of calls: its name, then a number for each of its types, and no word more.
use Rattle.std.specs.Prelude.{ℕ, Bool, true, false, cond, List, [], ◌∷◌, ltb, replicate, Option, Some, None, unwrap_or}
use Rattle.std.specs.Bool.{then_some}
use Rattle.std.specs.Option.{option_map, option_and_then}
use Prim.Native.String.{String}
use Rattle.names.specs.Names.{key_id_of, enc_id_of}
use Rattle.records.specs.declared.Action.{Action}
use Rattle.records.specs.declared.Action.TheVariants as action
use Rattle.text.specs.HexBytes.{unhexed_answer, unhexed_bytes}
use Rattle.text.specs.Numerals.{decimal_in}
use Rattle.text.specs.Putting.{first_of}
use Rattle.text.specs.Spans.{bytes_in, is_passed_over, word_at}
use Rattle.text.specs.declared.Span.{Span}
use Rattle.line_ask.specs.Numbers.{u32_of, u16_of, u8_of, flag_of, hex_of, signed_of, one_in, two_in, three_in}
use Rattle.text.specs.Tables.{named}
use Rattle.line_ask.specs.WordsIn.{behind, is_none}
use Rattle.line_ask.specs.declared.Ask.{Ask}
use Rattle.line_ask.specs.declared.Ask.TheVariants as ask
use Rattle.line_ask.specs.declared.PortAsk.{PortAsk}
use Rattle.line_ask.specs.declared.PortAsk.TheVariants as port
use Rattle.line_ask.specs.declared.Setting.{Setting}
use Rattle.line_ask.specs.declared.Setting.TheVariants as setting
use Rattle.line_ask.specs.declared.calls.Act.{Act}
use Rattle.line_ask.specs.declared.calls.Act.TheVariants as act
use Rattle.line_ask.specs.declared.calls.Call.{Call}
use Rattle.line_ask.specs.declared.calls.Call.TheVariants as call
use Rattle.line_ask.specs.declared.calls.PortCall.{PortCall}
use Rattle.line_ask.specs.declared.calls.PortCall.TheVariants as port_call
use Rattle.line_ask.specs.declared.calls.Set.{Set}
use Rattle.line_ask.specs.declared.calls.Set.TheVariants as set

-- ---- the names

abbrev pub call_names : List (String × Call)
call_names =
    ("step", call.Step) ∷ ("read", call.Read) ∷ ("write", call.Write) ∷ ("tick", call.Tick) ∷ ("led", call.Led)
    ∷ ("state", call.State) ∷ ("room", call.Room) ∷ ("ms", call.Ms) ∷ ("nexttick", call.NextTick)
    ∷ ("pending", call.Pending) ∷ ("cycles_of", call.CyclesOf) ∷ ("irq", call.Irq) ∷ ("enabled", call.Enabled)
    ∷ ("idle", call.Idle) ∷ ("spi1off", call.Spi1Off) ∷ ("srbyte", call.Shift) ∷ ("usb", call.Usb) ∷ ("wdt", call.Wdt)
    ∷ ("spi1", call.Spi1) ∷ ("spi2", call.Spi2) ∷ ("new", call.New) ∷ ("reset", call.Reset) ∷ ("push", call.Push)
    ∷ ("apply", call.Apply) ∷ ("set", call.Set) ∷ ("p33", call.Port) ∷ ("keyid", call.KeyId) ∷ ("encid", call.EncId) ∷ []

unfoldable pub call_named : List ℕ → Option Call
call_named = named call_names

abbrev pub action_names : List (String × Act)
action_names =
    ("midi", act.Midi) ∷ ("key", act.Key) ∷ ("enc", act.Enc) ∷ ("adc", act.Adc) ∷ ("vel", act.KeyVel)
    ∷ ("pressure", act.Pressure) ∷ []

unfoldable pub act_named : List ℕ → Option Act
act_named = named action_names

abbrev pub setting_names : List (String × Set)
setting_names =
    ("cycle_ticks", set.CycleTicks) ∷ ("room_cap", set.RoomCap) ∷ ("skip_idle", set.SkipIdle)
    ∷ ("in_isr", set.InIsr) ∷ ("exc", set.Exc) ∷ ("spi2", set.Spi2Pending) ∷ []

unfoldable pub set_named : List ℕ → Option Set
set_named = named setting_names

abbrev pub port_names : List (String × PortCall)
port_names =
    ("write", port_call.Write) ∷ ("read", port_call.Read) ∷ ("event", port_call.Event) ∷ ("reg", port_call.Reg)
    ∷ ("same", port_call.Same) ∷ ("snap", port_call.Snap) ∷ ("sum", port_call.Sum) ∷ ("keep", port_call.Keep)
    ∷ ("ms", port_call.Ms) ∷ ("new", port_call.New) ∷ ("reset", port_call.Reset) ∷ []

unfoldable pub port_named : List ℕ → Option PortCall
port_named = named port_names

-- what takes no number
abbrev pub alone : {A : Type 0} → A → Span → Option A
alone a w = then_some (is_none w) a

-- ---- actions

-- the numbers of an action
unfoldable pub acted : Act → List ℕ → Span → Option Action
acted act.Midi line w = option_map action.Midi (one_in u8_of line w)
acted act.Key line w = option_map (λ p. action.Key p.0 p.1) (two_in u8_of flag_of line w)
acted act.Enc line w = option_map (λ p. action.Enc p.0 p.1.0) (two_in u8_of signed_of line w)
acted act.Adc line w = option_map (λ p. action.Adc p.0 p.1) (two_in u8_of u16_of line w)
acted act.KeyVel line w = option_map action.KeyVel (one_in u8_of line w)
acted act.Pressure line w = option_map (λ p. action.Pressure p.0 p.1) (two_in u8_of u8_of line w)

unfoldable pub action_in : List ℕ → Span → Option Action
action_in line w = option_and_then (λ a. acted a line (behind line w)) (act_named (bytes_in line w))

-- an action with its time
unfoldable pub push_in : List ℕ → Span → Option Ask
push_in line w =
    option_and_then (λ time. option_map (ask.Push time) (action_in line (behind line w))) (decimal_in (bytes_in line w))

-- ---- `set` and the port's calls

unfoldable pub set_as : Set → List ℕ → Span → Option Setting
set_as set.CycleTicks line w = option_map setting.CycleTicks (one_in decimal_in line w)
set_as set.RoomCap line w = option_map setting.RoomCap (one_in decimal_in line w)
set_as set.SkipIdle line w = option_map setting.SkipIdle (one_in flag_of line w)
set_as set.InIsr line w = option_map setting.InIsr (one_in flag_of line w)
set_as set.Exc line w = option_map setting.Exc (one_in flag_of line w)
set_as set.Spi2Pending line w = option_map setting.Spi2Pending (one_in flag_of line w)

unfoldable pub setting_in : List ℕ → Span → Option Setting
setting_in line w = option_and_then (λ s. set_as s line (behind line w)) (set_named (bytes_in line w))

unfoldable pub port_as : PortCall → List ℕ → Span → Option PortAsk
port_as port_call.Write line w = option_map (λ p. port.Write p.0.0 p.1.0) (two_in hex_of hex_of line w)
port_as port_call.Read line w = option_map (λ a. port.Read a.0) (one_in hex_of line w)
port_as port_call.Event line w = alone port.Event w
port_as port_call.Reg line w = option_map (λ p. port.Reg p.0 p.1) (two_in u16_of flag_of line w)
port_as port_call.Same line w = alone port.Same w
port_as port_call.Snap line w = alone port.Snap w
port_as port_call.Sum line w = alone port.Sum w
port_as port_call.Keep line w = alone port.Keep w
port_as port_call.Ms line w = option_map port.Ms (one_in u8_of line w)
port_as port_call.New line w = alone port.New w
port_as port_call.Reset line w = option_map port.Reset (one_in u8_of line w)

unfoldable pub port_in : List ℕ → Span → Option PortAsk
port_in line w = option_and_then (λ p. port_as p line (behind line w)) (port_named (bytes_in line w))

-- ---- names

unfoldable pub id_of : List ℕ → Bool → Option ℕ
id_of name key = cond key (key_id_of name) (enc_id_of name)

-- a name as pairs of hex digits
unfoldable pub id_named : List ℕ → Bool → Option (Option ℕ)
id_named word key =
    option_map (λ n. id_of (first_of (unhexed_bytes word (replicate 2048 0)) n) key) (unhexed_answer word (replicate 2048 0))

-- one word, and no word more
unfoldable pub id_in : List ℕ → Span → Bool → Option (Option ℕ)
id_in line w key = cond (is_none (behind line w)) (id_named (bytes_in line w) key) None

-- ---- a line

-- a call's numbers
unfoldable pub called : Call → List ℕ → Span → Option Ask
called call.Step line w = option_map ask.Step (one_in decimal_in line w)
called call.Read line w = option_map (λ a. ask.Read a.0) (one_in hex_of line w)
called call.Write line w = option_map (λ p. ask.Write p.0.0 p.1.0) (two_in hex_of hex_of line w)
called call.Tick line w = alone ask.Tick w
called call.Led line w = alone ask.Led w
called call.State line w = alone ask.State w
called call.Room line w = alone ask.Room w
called call.Ms line w = alone ask.Ms w
called call.NextTick line w = alone ask.NextTick w
called call.Pending line w = alone ask.Pending w
called call.CyclesOf line w = option_map ask.CyclesOf (one_in decimal_in line w)
called call.Irq line w = option_map ask.Irq (one_in u32_of line w)
called call.Enabled line w = option_map (λ p. ask.Enabled p.0 p.1) (two_in u32_of u8_of line w)
called call.Idle line w = alone ask.Idle w
called call.Spi1Off line w = alone ask.Spi1Off w
called call.Shift line w = option_map ask.Shift (one_in u8_of line w)
called call.Usb line w = option_map (λ p. ask.Usb p.0 p.1) (two_in decimal_in decimal_in line w)
called call.Wdt line w = option_map ask.Wdt (one_in decimal_in line w)
called call.Spi1 line w = option_map (λ p. ask.Spi1 p.0 p.1 p.2) (three_in u32_of u32_of flag_of line w)
called call.Spi2 line w = option_map (λ p. ask.Spi2 p.0 p.1 p.2) (three_in u32_of u32_of flag_of line w)
called call.New line w = option_map ask.New (one_in decimal_in line w)
called call.Reset line w = alone ask.Reset w
called call.Push line w = push_in line w
called call.Apply line w = option_map ask.Apply (action_in line w)
called call.Set line w = option_map ask.Set (setting_in line w)
called call.Port line w = option_map ask.Port (port_in line w)
called call.KeyId line w = option_map ask.Name (id_in line w true)
called call.EncId line w = option_map ask.Name (id_in line w false)

unfoldable pub call_in : List ℕ → Span → Option Ask
call_in line w = option_and_then (λ c. called c line (behind line w)) (call_named (bytes_in line w))

-- a remark or an empty line asks nothing
unfoldable pub ask_of : List ℕ → Ask
ask_of line = cond (is_passed_over line) ask.Nothing (unwrap_or (call_in line (word_at line 0)) ask.Unknown)

-- "A line is at most 4,096 bytes"
unfoldable pub ask_in : List ℕ → ℕ → Ask
ask_in room n = cond (ltb n 4097) (ask_of (first_of room n)) ask.TooLong
