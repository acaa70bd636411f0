use Rattle.std.proofs.Common.{◌<◌, sym, ◌∙◌, subst, rules}
use Rattle.state.proofs.StillStep.{sends_early}
use Rattle.state.specs.Sends.{question_out}
use Rattle.switch.specs.Calls.{state_of}
use Rattle.switch.proofs.Chosen.{asked_below}
use Rattle.switch.proofs.running.Running.send.Goals as goal

pub invariant_of-start_out : goal.invariant_of-start_out
invariant_of-start_out g c =
    let st = state_of g.S.Store.lists c.args.self.now in
    record {
      from_inside = asked_below (g.met.R.TieRule.picks_tied c.args.self.now.rule) _ _ _ _ (sym (c.choose.ensures (question_out st c.args.port.index) (λ x k. search rules)) ∙ c.in-Some.is);
      to_inside = c.args.port.inside;
    }

pub returns-then-self-output-clause-turn : goal.returns-then-self-output-clause-turn
returns-then-self-output-clause-turn g c =
    let s = c.args.self.now in
    let early = subst (λ t. s.clock < t) (s.outputs_due c.args.port.index c.args.port.inside) c.if-self-output.true in
    sends_early g.R.TieRule.answer g.R.TieRule.told g.met.R.TieRule.picks_tied (state_of g.S.Store.lists s) s.rule c.args.port.index early
