use Rattle.std.proofs.Common.{ℕ, ◌∙◌, rules}
use Rattle.switch.specs.Calls.{state_of}
use Rattle.state.specs.Quiet.{output_next, outputs_next}
use Rattle.state.proofs.NextEvent.{outputs_more}
use Rattle.switch.proofs.Counted.{counted}
use Rattle.switch.proofs.running.Running.next_at_outputs.Goals as goal

pub returns : goal.returns
unfolding outputs_next
returns g c =
    let st = state_of g.S.Store.lists c.args.self.now in
    let h : ℕ → ℕ → ℕ = λ next j. output_next st j next in
    c.fold_ports.ensures h (λ next port r k. search rules)
    ∙ counted h (λ k. outputs_next st k c.args.best) (λ k. outputs_more st k c.args.best) c.args.self.now.plan.size.ports
