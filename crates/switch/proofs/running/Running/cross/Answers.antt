use Rattle.std.proofs.Common.{◌<◌, sym, ◌∙◌, subst, rules}
use Rattle.state.proofs.StillStep.{crosses_early}
use Rattle.state.specs.Crosses.{question_across}
use Rattle.switch.specs.Calls.{state_of}
use Rattle.switch.proofs.Chosen.{asked_below}
use Rattle.switch.proofs.running.Running.cross.Goals as goal

pub invariant_of-start_across : goal.invariant_of-start_across
invariant_of-start_across g c =
    let st = state_of g.S.Store.lists c.args.self.now in
    record {
      from_inside = c.args.port.inside;
      to_inside = asked_below (g.met.R.TieRule.picks_tied c.args.self.now.rule) _ _ _ _ (sym (c.choose.ensures (question_across st c.args.port.index) (λ x k. search rules)) ∙ c.in-Some.is);
    }

pub returns-then-self-input-clause-turn : goal.returns-then-self-input-clause-turn
returns-then-self-input-clause-turn g c =
    let s = c.args.self.now in
    let early = subst (λ t. s.clock < t) (s.inputs_due c.args.port.index c.args.port.inside) c.if-self-input.true in
    crosses_early g.R.TieRule.answer g.R.TieRule.told g.met.R.TieRule.picks_tied (state_of g.S.Store.lists s) s.rule c.args.port.index early
