use Rattle.std.proofs.Common.{ap, ◌∙◌}
use Rattle.state.specs.Ready.{mark_from}
use Rattle.state.proofs.ReadyTick.{ready_out}
use Rattle.switch.proofs.ready.mark_out.Goals as goal

pub returns : goal.returns
returns c = c.mark_from.ensures ∙ ap (mark_from c.args.tick c.args.packet) c.out_from.ensures ∙ ready_out c.args.longest c.args.tick c.args.packet
