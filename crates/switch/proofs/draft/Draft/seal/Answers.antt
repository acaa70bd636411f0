use Rattle.std.proofs.Common.{◌≡◌, get_or, sym, refl, subst, ap, ◌∙◌, replicate}
use Rattle.grid.proofs.Flows.{flows_same}
use Rattle.state.specs.declared.line.Ledger.{Ledger}
use Rattle.state.specs.State.{fresh, ledger_in}
use Rattle.state.specs.Seals.{Opens}
use Rattle.state.proofs.SealCarries.{sealed_is, seal_opens}
use Rattle.state.proofs.DueKept.{none_across, none_out}
use Rattle.switch.proofs.draft.Draft.seal.Goals as goal

pub invariant_of-result-clause-inputs_due : goal.invariant_of-result-clause-inputs_due
invariant_of-result-clause-inputs_due g c i hi = ap (λ row. get_or row i 0) c.new.ensures.0 ∙ none_across (g.S.Store.lists c.clear.new.self.store) (ledger_in (replicate 256 c.default.result)) c.clear.ensures.lists i hi

pub invariant_of-result-clause-outputs_due : goal.invariant_of-result-clause-outputs_due
invariant_of-result-clause-outputs_due g c j hj = ap (λ row. get_or row j 0) c.new.ensures.1 ∙ none_out c.args.self.plan.size.longest (g.S.Store.lists c.clear.new.self.store) c.clear.ensures.lists j hj

pub returns : goal.returns
returns g c =
    let d = c.default.ensures in
    let one : c.default.result ≡ fresh = λ k. record { last = d.0 k; accepted = d.1.0 k; started = d.1.1.0 k; departed = d.1.1.1.0 k; peak = d.1.1.1.1.0 k; under_way = d.1.1.1.1.1 k } in
    let all = ap (λ (l : Ledger). ledger_in (replicate 256 l)) one ∙ flows_same fresh in
    let state = sealed_is c.args.self.plan _ _ _ all c.clear.ensures.lists c.clear.ensures.counts in
    record {
      state = state;
      stated_size = c.clear.ensures.size;
      rule = refl;
      law = subst (Opens (g.S.Store.size c.args.self.store.store)) (sym state) (seal_opens _ c.args.self.plan);
    }
