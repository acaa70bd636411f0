use Rattle.std.proofs.Common.{rules}
use Rattle.switch.specs.Calls.{state_of}
use Rattle.state.specs.Sends.{mark_out, next_out, marks_out}
use Rattle.switch.proofs.running.Running.marks_out.Goals as goal

pub returns : goal.returns
unfolding marks_out
returns g c =
    let s = c.args.self.now in
    c.by_port.ensures (λ i. mark_out s.plan.size.longest s.clock (next_out (state_of g.S.Store.lists s) i c.args.output.index)) (λ port x k. search rules)
