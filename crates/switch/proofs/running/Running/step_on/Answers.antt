use Rattle.std.proofs.Common.{◌≡◌, ℕ, ◌≤◌, length, Err, IfOk, Result, sym, ap, ◌∙◌, subst, rules}
use Rattle.std.proofs.lemmas.List.{take-append-le}
use Rattle.law.specs.Runs as law
use Rattle.plan.specs.declared.fault.StepFault.{StepFault}
use Rattle.state.specs.declared.call.Answer.TheVariants as answer
use Rattle.state.specs.Performs.{answer_of}
use Rattle.state.specs.Steps.{step_told}
use Rattle.switch.specs.Calls.{state_of}
use Rattle.switch.proofs.Stepped.{step_obeys}
use Rattle.switch.proofs.running.Running.step_on.Goals as goal

pub returns-in_err-count-clause-law : goal.returns-in_err-count-clause-law
returns-in_err-count-clause-law g c =
    let s = c.args.self.now in
    let e = c.step.new.self in
    let new = c.step.new.out in
    let is : c.from_residual.result ≡ Err c.in_err-count.field-0.0 = search rules in
    let told : step_told c.step.result new ≡ answer_of (answer.Step c.from_residual.result) = ap (λ (r : Result ℕ StepFault). step_told r new) c.in_err-count.was ∙ ap (λ r. answer_of (answer.Step r)) (sym is) in
    step_obeys g.R.TieRule.answer g.R.TieRule.told g.met.R.TieRule.picks_tied (g.S.Store.size s.store.store) (state_of g.S.Store.lists s) s.rule (state_of g.S.Store.lists e) e.rule
    c.min.result c.args.room c.default-departures.result new c.step.result _ c.min.ensures s.plan.size.few_ports c.step.ensures.exact told

pub returns-clause-law : goal.returns-clause-law
returns-clause-law g c =
    let s = c.args.self.now in
    let e = c.step.new.self in
    let new = c.step.new.out in
    let few : c.in_ok-count.count ≤ length new = subst (λ (r : Result ℕ StepFault). IfOk r (λ n. n ≤ length new)) c.in_ok-count.was (subst (λ n. IfOk c.step.result (λ k. k ≤ n)) (sym c.step.ensures.entries) c.step.ensures.few) in
    let told = ap (λ (r : Result ℕ StepFault). step_told r new) c.in_ok-count.was ∙ ap law.listed (sym (take-append-le c.in_ok-count.count new _ few)) in
    step_obeys g.R.TieRule.answer g.R.TieRule.told g.met.R.TieRule.picks_tied (g.S.Store.size s.store.store) (state_of g.S.Store.lists s) s.rule (state_of g.S.Store.lists e) e.rule
    c.min.result c.args.room c.default-departures.result new c.step.result _ c.min.ensures s.plan.size.few_ports c.step.ensures.exact told
