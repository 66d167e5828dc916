-- A run: one port and its memory, handed on from call to call.
use Rattle.std.specs.Prelude.{ℕ, ◌≡◌, Bool, List, [], ◌∷◌}
use Rattle.base.specs.Told.{Told}
use Rattle.p33.specs.declared.P33.{P33}
use Rattle.base.specs.Refusals.{refused_of}
use Rattle.p33.specs.P33.{port_after, eventless, reset_of, reset_in, reg_of, value_read, read_of, write_of, write_in}
use Rattle.p33.specs.Told.{told_event}

pub record Held : Type 0 where
  pub port : P33
  pub regs : List ℕ

-- the calls that are made on a port; `snap` and `same` only look at it
pub data Call : Type 0 where
  read : ℕ → Call
  write : ℕ → ℕ → Call
  reset : ℕ → Call
  take : Call
  reg : ℕ → Bool → Call

-- what a call leaves
unfoldable pub after : Call → Held → Held
after (read addr) h = h
after (write addr value) h =
    record { port = port_after (write_of h.port h.regs addr value) h.port; regs = write_in h.port h.regs addr value }
after (reset cause) h = record { port = port_after (reset_of h.port h.regs) h.port; regs = reset_in h.port h.regs cause }
after take h = record { port = eventless h.port; regs = h.regs }
after (reg addr rtc) h = h

-- the calls of a list, the first first
unfoldable pub run : List Call → Held → Held
run [] h = h
run (c ∷ cs) h = run cs (after c h)

-- what a call answers, beside the port: a value, a refusal's number, an event, a register by its refusal's number and its value
pub data Said : Type 0 where
  value : ℕ → Said
  refused : ℕ → Said
  event : Told → Said
  register : ℕ → ℕ → Said

unfoldable pub said : Call → Held → Said
said (read addr) h = value (read_of h.port addr)
said (write addr v) h = refused (refused_of (write_of h.port h.regs addr v))
said (reset cause) h = refused (refused_of (reset_of h.port h.regs))
said take h = event (told_event h.port.event)
said (reg addr rtc) h = register (refused_of (reg_of h.regs addr rtc)) (value_read (reg_of h.regs addr rtc))

-- what the calls of a list answer, in their order
unfoldable pub answers : List Call → Held → List Said
answers [] h = []
answers (c ∷ cs) h = said c h ∷ answers cs (after c h)

-- a call's outcome by its contract is the run's, what it leaves and what it answers
abbrev pub Tied : Call → Held → Held → Said → Type 0
Tied c h left answer = (left ≡ after c h) × (answer ≡ said c h)

-- the port but for the count: what two ports have in common that differ in `changed` only
abbrev pub uncounted : P33 → P33
uncounted p =
    record { con = p.con; dat = p.dat; step = p.step; cmd = p.cmd; addr = p.addr; changed = 0; event = p.event }
