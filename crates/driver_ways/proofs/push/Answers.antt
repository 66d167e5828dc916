use mathlib.Core.Path.{refl}
use Rattle.driver_ways.specs.Told.{push_out}
use Rattle.driver_ways.proofs.push.Goals as goal

pub returns-then-full : goal.returns-then-full
unfolding push_out
returns-then-full c = rw (← c.full.ensures, c.if-full.true) (c.told.ensures, refl)

pub returns : goal.returns
unfolding push_out
returns c =
    rw (← c.full.ensures, c.if-full.false) (rw (c.told-2.ensures, c.pushed-more.ensures), rw (c.spot-at.ensures, c.word_of.ensures))
