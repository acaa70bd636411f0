use Rattle.std.proofs.Common.{refl, ◌∙◌}
use Rattle.state.specs.Sends.{none_sent, one_more_sent}
use Rattle.switch.proofs.running.Running.send_all.Goals as goal

pub loop-j-init : goal.loop-j-init
loop-j-init g c = (none_sent, refl)

pub loop-j-preserved : goal.loop-j-preserved
loop-j-preserved g c = (one_more_sent c.loop-j.invariant.0 c.send.ensures.turn, c.send.ensures.store ∙ c.loop-j.invariant.1)
