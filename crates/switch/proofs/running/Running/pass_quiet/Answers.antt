use Rattle.std.proofs.Common.{◌≡◌, ◌-◌, max, refl, ap, ◌∙◌}
use Rattle.switch.specs.Shown.{shown}
use Rattle.state.specs.Quiet.{inputs_next, outputs_next, next_event, at_tick}
use Rattle.state.proofs.NextEvent.{still_for}
use Rattle.state.proofs.QuietCarries.{passes}
use Rattle.state.proofs.StillStep.{quiet_steps}
use Rattle.switch.proofs.running.Running.pass_quiet.Goals as goal

pub returns : goal.returns
returns g c =
    let s = c.args.self.now in
    let st = shown (g.S.Store.lists s.store.store) s in
    let N = s.plan.size.ports in
    let end : c.next_at_outputs-end.result ≡ next_event st c.args.limit = c.next_at_outputs-end.ensures ∙ ap (outputs_next st N) (c.next_at_inputs.ensures ∙ ap (inputs_next st N) c.min.ensures) in
    let answer = c.saturating_sub-ticks.ensures ∙ ap (λ e. e - s.clock) end in
    let state = ap (λ t. at_tick t st) (c.max-self.ensures ∙ ap (max s.clock) end) in
    let still = still_for st c.args.limit c.saturating_sub-ticks.result answer in
    record {
      ticks = answer;
      still = still;
      state = state;
      beside = (refl, refl);
      steps = quiet_steps g.R.TieRule.answer g.R.TieRule.told g.met.R.TieRule.picks_tied st s.rule c.saturating_sub-ticks.result still.still;
      law = passes g.R.TieRule.answer g.R.TieRule.told g.met.R.TieRule.picks_tied s.rule (g.S.Store.size s.store.store) st _ c.args.limit c.saturating_sub-ticks.result answer still state;
    }
