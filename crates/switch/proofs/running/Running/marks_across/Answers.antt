use Rattle.std.proofs.Common.{rules}
use Rattle.switch.specs.Calls.{state_of}
use Rattle.state.specs.Crosses.{mark_across, next_across, marks_across}
use Rattle.switch.proofs.running.Running.marks_across.Goals as goal

pub returns : goal.returns
unfolding marks_across
returns g c =
    let s = c.args.self.now in
    c.by_port.ensures (λ j. mark_across s.clock (next_across (state_of g.S.Store.lists s) c.args.input.index j)) (λ port x k. search rules)
