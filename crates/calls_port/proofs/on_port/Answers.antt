use mathlib.Core.Path.{◌∙◌, sym}
use Rattle.calls_port.proofs.Others.{passed_by}
use Rattle.calls_port.proofs.on_port.Goals as goal

pub returns-in_default : goal.returns-in_default
returns-in_default c =
    let by = passed_by c.args.p c.args.ask c.args.a c.args.regs.now c.args.aside.now c.in_default.not-Port in
    record { value = c.looked.ensures ∙ sym by.value; memory = sym by.memory; kept = sym by.kept }
