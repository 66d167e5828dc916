use mathlib.Core.Path.{◌∙◌}
use Rattle.adc.proofs.Channels.{of_row, of-store}
use Rattle.adc.proofs.channel_reads.Goals as goal

pub returns-then-ch-lt2 : goal.returns-then-ch-lt2
returns-then-ch-lt2 c = c.row_reads.ensures ∙ of_row c.args.map c.args.pins c.args.ramps.now c.args.stored c.args.now c.args.noise c.args.ch c.if-ch-lt2.true

pub returns : goal.returns
returns c = of-store c.args.map c.args.pins c.args.ramps.now c.args.stored c.args.now c.args.noise c.args.ch c.if-ch-lt2.false
