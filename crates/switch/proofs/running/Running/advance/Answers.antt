use Rattle.std.proofs.Common.{◌≤◌, length, sym, ap, ◌∙◌, subst, arith}
use Rattle.plan.specs.declared.table.Plan as kit
use Rattle.plan.specs.declared.fault.TheConstants.{LAST_TICK}
use Rattle.plan.proofs.Refused.{step_grants}
use Rattle.switch.specs.Shown.{shown}
use Rattle.state.specs.Sends.{Sendings}
use Rattle.state.specs.Finishes.{finish_to, listed_to}
use Rattle.state.proofs.StepKeeps.{crossings_keep, sendings_keep, timed, wrapped}
use Rattle.switch.proofs.running.Running.advance.Goals as goal

pub finish_all-requires : goal.finish_all-requires
finish_all-requires g c =
    let mid = c.cross_all.new.self in
    let sent = c.send_all.new.self in
    let a = crossings_keep g.R.TieRule.answer g.R.TieRule.told c.cross_all.ensures.turns in
    let b = sendings_keep g.R.TieRule.answer g.R.TieRule.told c.send_all.ensures.turns in
    subst (λ (p : kit.Plan). p.size.ports ≤ length c.args.out.now) (sym (b.0 ∙ a.0)) (omega arith)

pub returns-clause-step : goal.returns-clause-step
returns-clause-step g c =
    let s = c.args.self.now in
    let mid = c.cross_all.new.self in
    let sent = c.send_all.new.self in
    let st = shown (g.S.Store.lists s.store.store) s in
    let sent-st = shown (g.S.Store.lists sent.store.store) sent in
    let a = crossings_keep g.R.TieRule.answer g.R.TieRule.told c.cross_all.ensures.turns in
    let b = sendings_keep g.R.TieRule.answer g.R.TieRule.told c.send_all.ensures.turns in
    let early : sent.clock ≤ LAST_TICK = omega (arith, b.1 ∙ a.1) in
    let f = c.finish_all.ensures in
    let N = sent.plan.size.ports in
    let tick = timed sent-st early in (
      step_grants s.plan.size.ports (length c.args.out.now) s.clock (omega arith) (omega arith),
      (
        listed_to N (wrapped sent-st),
        record {
          crossed = shown (g.S.Store.lists mid.store.store) mid;
          between = mid.rule;
          sent = sent-st;
          inputs = c.cross_all.ensures.turns;
          outputs = subst (Sendings g.R.TieRule.answer g.R.TieRule.told (shown (g.S.Store.lists mid.store.store) mid) mid.rule mid.plan.size.ports sent-st) (sym f.kept.rule_kept) c.send_all.ensures.turns;
          state = f.state ∙ ap (finish_to N) tick;
          leaves = ap (listed_to N) tick;
        },
        f.answer,
        f.list,
      ),
    )
