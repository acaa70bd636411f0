use Rattle.std.proofs.Common.{sym, subst}
use Rattle.law.specs.Runs as runs
use Rattle.state.specs.State.{State}
use Rattle.switch.specs.Shown.{shown}
use Rattle.law.specs.Plans.{plan_of}
use Rattle.state.specs.Arrives.{ArriveLeads}
use Rattle.state.specs.Shows.{CarriesOn, arrive_told}
use Rattle.state.proofs.ArrivalCarries.{arrive_carries}
use Rattle.switch.proofs.running.Running.arrive.Goals as goal

pub returns : goal.returns
returns g c =
    let s = c.args.self.now in
    let i = c.args.input in
    let j = c.args.output in
    let b = c.args.bytes in
    let st = shown (g.S.Store.lists s.store.store) s in
    let M = g.S.Store.size s.store.store in
    let full = g.S.Store.full s.store.store in
    let done = c.accept.ensures in
    record {
      answer = done.answer;
      state = done.state;
      refused = done.refused;
      stated_size = done.kept.size_kept;
      rule = done.kept.rule_kept;
      law = subst (λ (after : State). CarriesOn (ArriveLeads M (full i j) (plan_of s.plan) i j b c.accept.result) M st after (runs.arrive i j b) (arrive_told c.accept.result)) (sym done.state)
          (arrive_carries M full st i j b (λ few. g.met.S.Store.room s.store.store few i j) (λ many. g.met.S.Store.full_at_most s.store.store many i j) c.accept.result done.answer);
    }
