use Rattle.std.proofs.Common.{sym, ◌∙◌}
use Rattle.board.proofs.Polls.{read-turned, read_plain, read-polled}
use Rattle.board_guard.proofs.Known.{lent}
use Rattle.state.proofs.Held.{typed}
use Rattle.state.proofs.Facts.{whole-facts}
use Rattle.board.proofs.read.Goals as goal

pub returns-then-n-ne0 : goal.returns-then-n-ne0
returns-then-n-ne0 c = c.no_read.ensures ∙ sym (read-turned _ _ _ _ _ c.banks-n.ensures c.if-n-ne0.true)

pub counted-requires : goal.counted-requires
counted-requires c = let l = lent c.args.b _ _ _ c.banks-n.ensures c.if-n-ne0.false in (whole-facts c.args.b (typed c.args.b _ c.well_formed.0) l.whole)

pub returns-then-polls : goal.returns-then-polls
returns-then-polls c = c.counted.ensures ∙ sym (read-polled _ _ _ _ _ c.banks-n.ensures c.if-n-ne0.false (sym c.polls.ensures ∙ c.if-polls.true))

pub read-requires : goal.read-requires
read-requires c = let l = lent c.args.b _ _ _ c.banks-n.ensures c.if-n-ne0.false in ((whole-facts c.args.b (typed c.args.b _ c.well_formed.0) l.whole).sound.chip, l.sizes.0, l.sizes.1)

pub returns : goal.returns
returns c = rw c.read.ensures (sym (read_plain _ _ _ _ _ c.banks-n.ensures c.if-n-ne0.false (sym c.polls.ensures ∙ c.if-polls.false)))
