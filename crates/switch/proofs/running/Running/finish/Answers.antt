use Rattle.std.proofs.Common.{◌≡◌, ◌+◌, ◌-◌, ◌%◌, ◌^◌, ◌<◌, ltb, length, get_or, Some, None, ap, ◌∙◌, arith, rules}
use Rattle.grid.specs.Flows.{with_flow}
use Rattle.switch.specs.Calls.{state_of}
use Rattle.state.specs.Finishes.{leaving}
use Rattle.state.proofs.FinishInCode.{finished_is}
use Rattle.state.proofs.Lists.{lines_set}
use Rattle.state.specs.State.{ledger_in}
use Rattle.state.specs.declared.line.Ledger.{Ledger}
use Rattle.state.proofs.DueKept.{out_kept}
use Rattle.state.proofs.DueMoved.{across_left}
use Rattle.switch.proofs.running.Running.finish.Goals as goal

pub invariant_of-self-clause-inputs_due : goal.invariant_of-self-clause-inputs_due
invariant_of-self-clause-inputs_due g c i hi =
    let s = c.args.self.now in
    let j = c.args.port.index in
    let l = c.ledger_at-ledger.result.now in
    let from = c.in_ok-load.load.input in
    let inside : from < 16 = search rules in
    let crossed : ltb 0 l.under_way ≡ ltb 0 (ledger_in s.ledgers from j).under_way = ap (λ (x : Ledger). ltb 0 x.under_way) c.ledger_at-ledger.ensures in
    let fewer : c.saturating_sub.result ≡ l.under_way - 1 = search rules in
    ap (λ row. get_or row i 0) c.left.ensures.across
    ∙ across_left c.remove.result (g.S.Store.lists s.store.store) (g.S.Store.lists c.remove.new.self.store) from j s.due.across s.due.inputs _
    (ledger_in s.ledgers) (ledger_in c.set_ledger.new.ledgers) _ crossed c.set_ledger.ensures (fewer ∙ ap (λ (x : Ledger). x.under_way - 1) c.ledger_at-ledger.ensures)
    c.remove.ensures.granted c.remove.ensures.lists inside s.inputs_due i hi

pub invariant_of-self-clause-outputs_due : goal.invariant_of-self-clause-outputs_due
invariant_of-self-clause-outputs_due g c j hj =
    let s = c.args.self.now in
    ap (λ row. get_or row j 0) c.left.ensures.out
    ∙ out_kept c.remove.result (g.S.Store.lists s.store.store) (g.S.Store.lists c.remove.new.self.store) c.in_ok-load.load.input c.args.port.index _ c.remove.ensures.lists s.due.out s.due.outputs
    s.plan.size.longest c.args.port.inside s.outputs_due j hj

pub returns-clause-state : goal.returns-clause-state
returns-clause-state g c =
    let s = c.args.self.now in
    let st = state_of g.S.Store.lists s in
    let j = c.args.port.index in
    let d = c.in_ok-load.load in
    let l = c.ledger_at-ledger.result.now in
    let bytes : c.from.result ≡ d.bytes = search rules in
    let less : c.saturating_sub.result ≡ l.under_way - 1 = search rules in
    let leaves : leaving st j ≡ Some d = search rules in
    let long : length s.sending ≡ 16 = search rules in
    let r = c.remove.ensures in
    finished_is st j d l c.saturating_sub.result c.remove.result _ _ _ _ leaves c.ledger_at-ledger.ensures less (lines_set None s.sending j None (omega (arith, long, c.args.port.inside)))
    (c.set_ledger.ensures ∙ ap (λ b. with_flow st.ledgers d.input j record l { departed = (l.departed + b) % 2 ^ 64; under_way = c.saturating_sub.result }) bytes) r.granted r.lists r.counts
