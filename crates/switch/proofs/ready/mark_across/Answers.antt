use Rattle.std.proofs.Common.{ap, ◌∙◌}
use Rattle.state.specs.Ready.{mark_from}
use Rattle.state.proofs.ReadyTick.{ready_across}
use Rattle.switch.proofs.ready.mark_across.Goals as goal

pub returns : goal.returns
returns c = c.mark_from.ensures ∙ ap (mark_from c.args.tick c.args.packet) c.across_from.ensures ∙ ready_across c.args.tick c.args.packet
