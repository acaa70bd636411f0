use Rattle.std.proofs.Common.{◌-◌, rules}
use Rattle.switch.specs.Calls.{state_of}
use Rattle.state.specs.Crosses.{waits_across}
use Rattle.switch.proofs.running.Running.waits_across.Goals as goal

pub returns : goal.returns
unfolding waits_across
returns g c =
    let st = state_of g.S.Store.lists c.args.self.now in
    c.by_port.ensures (λ j. (st.ledgers c.args.input.index j).accepted - (st.ledgers c.args.input.index j).started) (λ port x k. search rules)
