use Rattle.std.proofs.Common.{◌≡◌, ◌+◌, ◌%◌, ◌^◌, length, get_or, Some, None, sym, ap, subst, ◌∙◌, arith, rules}
use Rattle.switch.specs.Calls.{state_of}
use Rattle.grid.specs.Flows.{with_flow}
use Rattle.state.specs.Lines.{with_line, busy}
use Rattle.state.proofs.StartInCode.{crossed_is}
use Rattle.state.proofs.Lists.{lines_set}
use Rattle.state.proofs.DueKept.{across_kept}
use Rattle.state.proofs.DueMoved.{out_started}
use Rattle.state.specs.State.{ledger_in}
use Rattle.state.specs.Due.{TellsOut}
use Rattle.std.specs.List.{slice_get}
use Rattle.state.specs.declared.line.Ledger.{Ledger}
use Rattle.switch.proofs.running.Running.start_across.Goals as goal

pub invariant_of-self-clause-inputs_due : goal.invariant_of-self-clause-inputs_due
invariant_of-self-clause-inputs_due g c i hi =
    let s = c.args.self.now in
    let f = c.args.flow in
    ap (λ row. get_or row i 0) (c.started.ensures.across ∙ c.renew_input.ensures.across)
    ∙ across_kept c.note.result (g.S.Store.lists s.store.store) (g.S.Store.lists c.note.new.self.store) f.input f.output _ c.note.ensures.lists s.due.across s.due.inputs
    (ledger_in s.ledgers) (ledger_in c.set_ledger.new.ledgers) _ c.set_ledger.ensures f.from_inside s.inputs_due i hi

pub invariant_of-self-clause-outputs_due : goal.invariant_of-self-clause-outputs_due
invariant_of-self-clause-outputs_due g c j hj =
    let s = c.args.self.now in
    let f = c.args.flow in
    let l = c.ledger_at-ledger.result.now in
    let p = c.in-Some.packet in
    let there : slice_get (g.S.Store.lists s.store.store f.input f.output) l.under_way ≡ Some p = ap (λ (x : Ledger). slice_get (g.S.Store.lists s.store.store f.input f.output) x.under_way) c.ledger_at-ledger.ensures ∙ sym c.next_across.ensures ∙ c.in-Some.is in
    let lists = g.S.Store.lists s.store.store in
    let due = c.renew_input.new.self in
    ap (λ row. get_or row j 0) c.started.ensures.out
    ∙ out_started c.note.result lists (g.S.Store.lists c.note.new.self.store) f.input f.output due.out due.outputs
    l.under_way s.clock s.plan.size.longest p _ _ (search rules) (search rules) there c.note.ensures.granted c.note.ensures.lists f.from_inside f.to_inside
    (subst (λ row. TellsOut s.plan.size.longest lists row) (sym c.renew_input.ensures.out) s.outputs_due) j hj

pub returns-clause-state : goal.returns-clause-state
returns-clause-state g c =
    let s = c.args.self.now in
    let st = state_of g.S.Store.lists s in
    let f = c.args.flow in
    let l = c.ledger_at-ledger.result.now in
    let n = c.note.ensures in
    let bytes : c.from-bytes.result ≡ c.in-Some.packet.bytes = search rules in
    let long : length s.crossing ≡ 16 = search rules in
    crossed_is st f.input f.output l c.in-Some.packet c.max.result c.note.result _ _ _ _
    (lines_set None s.crossing f.input _ (omega arith) ∙ ap (λ b. with_line st.crossing f.input (busy f.output ((s.clock + b) % 2 ^ 64))) bytes)
    (c.set_ledger.ensures ∙ ap (λ b. with_flow st.ledgers f.input f.output record l { started = (l.started + b) % 2 ^ 64; peak = c.max.result; under_way = (l.under_way + 1) % 2 ^ 64 }) bytes)
    c.ledger_at-ledger.ensures (sym c.next_across.ensures ∙ c.in-Some.is) (search rules) n.granted n.lists n.counts
