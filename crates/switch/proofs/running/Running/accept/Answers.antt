use Rattle.std.proofs.Common.{◌≡◌, ◌<◌, true, get_or, ap, ◌∙◌, rules}
use Rattle.std.proofs.Math.Path.{to_path_p}
use Rattle.std.proofs.Props.{props}
use Rattle.state.specs.Due.{TellsAcross, TellsOut}
use Rattle.store.specs.declared.numbered.Numbered.{Numbered}
use Rattle.switch.specs.declared.running.Running.{Running}
use Rattle.state.specs.State.{ledger_in}
use Rattle.state.specs.declared.line.Ledger.{Ledger}
use Rattle.state.proofs.DueMoved.{across_arrived, out_arrived}
use Rattle.switch.proofs.running.Running.accept.Goals as goal

pub invariant_of-self-2-clause-inputs_due : goal.invariant_of-self-2-clause-inputs_due
invariant_of-self-2-clause-inputs_due g c i hi =
    let s = c.args.self.now in
    let l = c.ledger_at-ledger.result.now in
    let inside : c.args.input < 16 = search rules in
    let within : c.args.output < 16 = search rules in
    let granted : c.put.result ≡ true = search rules in
    let under_way : l.under_way ≡ (ledger_in s.ledgers c.args.input c.args.output).under_way = ap (λ (x : Ledger). x.under_way) c.ledger_at-ledger.ensures in
    ap (λ row. get_or row i 0) c.arrived.ensures.across
    ∙ across_arrived c.put.result (g.S.Store.lists s.store.store) (g.S.Store.lists c.put.new.self.store) c.args.input c.args.output s.due.across s.due.inputs _ c.in_ok-incoming.incoming c.put.ensures.lists granted
    (ledger_in s.ledgers) (ledger_in c.set_ledger.new.ledgers) _ c.set_ledger.ensures under_way c.then_some.result (search rules) inside within s.inputs_due i hi

pub invariant_of-self-2-clause-outputs_due : goal.invariant_of-self-2-clause-outputs_due
invariant_of-self-2-clause-outputs_due g c j hj =
    let s = c.args.self.now in
    let granted : c.put.result ≡ true = search rules in
    ap (λ row. get_or row j 0) c.arrived.ensures.out
    ∙ out_arrived c.put.result (g.S.Store.lists s.store.store) (g.S.Store.lists c.put.new.self.store) c.args.input c.args.output s.due.out s.due.outputs _ c.in_ok-incoming.incoming c.put.ensures.lists granted
    s.plan.size.longest s.outputs_due j hj

-- a switch whose store is as it was is as it was: of a fact about it there is one proof
same_store : {S R : Type 0} {g : _} (r : Running S R g) (store : Numbered S) → store ≡ r.store → (across : TellsAcross (g.lists store.store) (ledger_in r.ledgers) r.due.across) (out : TellsOut r.plan.size.longest (g.lists store.store) r.due.out) →
    record r { store = store; inputs_due = across; outputs_due = out } ≡ r
same_store {g = g} r store same across out =
    let Across : 𝕀 → Type 0 = λ k. TellsAcross (g.lists (same k).store) (ledger_in r.ledgers) r.due.across in
    let Out : 𝕀 → Type 0 = λ k. TellsOut r.plan.size.longest (g.lists (same k).store) r.due.out in
    let one : IsProp (Across 1) = hlevel props in
    let also : IsProp (Out 1) = hlevel props in
    λ k. record r { store = same k; inputs_due = to_path_p Across {a = across} {b = r.inputs_due} (one _ _) k; outputs_due = to_path_p Out {a = out} {b = r.outputs_due} (also _ _) k }

pub returns-then-not-put-clause-refused : goal.returns-then-not-put-clause-refused
returns-then-not-put-clause-refused g c = same_store c.args.self.now c.put.new.self (search rules) _ _
