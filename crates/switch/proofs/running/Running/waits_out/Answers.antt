use Rattle.std.proofs.Common.{◌-◌, rules}
use Rattle.switch.specs.Calls.{state_of}
use Rattle.state.specs.Sends.{crossing_bytes, waits_out}
use Rattle.switch.proofs.running.Running.waits_out.Goals as goal

pub returns : goal.returns
unfolding waits_out
returns g c =
    let st = state_of g.S.Store.lists c.args.self.now in
    let j = c.args.output.index in
    c.by_port.ensures (λ i. (st.ledgers i j).started - (st.ledgers i j).departed - crossing_bytes st i j) (λ port x k. search rules)
