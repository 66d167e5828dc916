-- A line that asks nothing of the port.
use mathlib.Core.Path.{◌≡◌, refl}
use mathlib.Core.List.{List}
use Prim.Native.Nat.{ℕ}
use Rattle.calls_port.specs.Ports.{aside_after, looked_of, ported_of, regs_after}
use Rattle.calls_port.specs.declared.Ports.{Ports}
use Rattle.line_answer.specs.declared.Answer.{Answer}
use Rattle.line_ask.specs.declared.Ask.{Ask}
use Rattle.line_ask.specs.declared.Ask.TheVariants.{Port}
use Rattle.line_ask.specs.declared.PortAsk.{PortAsk}

pub record PassedBy (p : Ports) (ask : Ask) (a : Answer) (regs aside : List ℕ) : Type 0 where
  pub value : ported_of p ask a regs aside ≡ looked_of p a
  pub memory : regs_after p ask regs ≡ regs
  pub kept : aside_after ask regs aside ≡ aside

pub passed_by :
    (p : Ports) (ask : Ask) (a : Answer) (regs aside : List ℕ) →
    ((call : PortAsk) → ask ≡ Port call → ⊥) →
    PassedBy p ask a regs aside
unfolding ported_of regs_after aside_after
passed_by p (Port call) a regs aside h = absurd (h call refl)
passed_by p ask a regs aside h = record { value = refl; memory = refl; kept = refl }
