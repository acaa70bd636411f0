use Rattle.std.proofs.Common.{refl, ◌∙◌}
use Rattle.state.specs.Crosses.{none_crossed, one_more}
use Rattle.switch.proofs.running.Running.cross_all.Goals as goal

pub loop-i-init : goal.loop-i-init
loop-i-init g c = (none_crossed, refl)

pub loop-i-preserved : goal.loop-i-preserved
loop-i-preserved g c = (one_more c.loop-i.invariant.0 c.cross.ensures.turn, c.cross.ensures.size ∙ c.loop-i.invariant.1)
