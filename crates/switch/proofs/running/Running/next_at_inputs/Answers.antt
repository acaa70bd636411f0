use Rattle.std.proofs.Common.{ℕ, ◌∙◌, rules}
use Rattle.switch.specs.Calls.{state_of}
use Rattle.state.specs.Quiet.{input_next, inputs_next}
use Rattle.state.proofs.NextEvent.{inputs_more}
use Rattle.switch.proofs.Counted.{counted}
use Rattle.switch.proofs.running.Running.next_at_inputs.Goals as goal

pub returns : goal.returns
unfolding inputs_next
returns g c =
    let st = state_of g.S.Store.lists c.args.self.now in
    let h : ℕ → ℕ → ℕ = λ next i. input_next st i next in
    c.fold_ports.ensures h (λ next port r k. search rules)
    ∙ counted h (λ k. inputs_next st k c.args.best) (λ k. inputs_more st k c.args.best) c.args.self.now.plan.size.ports
