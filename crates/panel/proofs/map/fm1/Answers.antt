use Rattle.std.proofs.Common.{refl}
use Rattle.panel.specs.Map.{fm1_map}
use Rattle.panel.proofs.map.fm1.Goals as goal

pub returns : goal.returns
unfolding fm1_map
returns c = refl
