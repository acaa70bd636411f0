-- A report on a flow.
use Rattle.std.specs.Prelude.{◌≡◌, ℕ, ◌+◌, cond, List, [], ◌∷◌, Ok, Err, Result, ◌==◌}
use Rattle.timing.specs.Fluid.{accepted_bytes}
use Rattle.plan.specs.Weights.{has_flow}
use Rattle.store.specs.declared.packet.Packet.{Packet}
use Rattle.law.specs.Journeys.{departed_bytes}
use Rattle.law.specs.Plans.{plan_of}
use Rattle.law.specs.Step.{Switch}
use Rattle.law.specs.Runs.{Call, Answer, Run}
use Rattle.state.specs.declared.numbers.Report.{Report}
use Rattle.state.specs.declared.fault.ReportFault.{ReportFault}
use Rattle.state.specs.declared.fault.ReportFault.TheVariants as fault
use Rattle.state.specs.State.{State}
use Rattle.state.specs.Shows.{Shows}

-- the number of a refusal
abbrev pub report_number : ReportFault → ℕ
report_number fault.Port = 4
report_number fault.Unbalanced = 13

-- the lengths of packets added up
unfoldable pub lengths : List Packet → ℕ
lengths [] = 0
lengths (p ∷ ps) = p.bytes + lengths ps

-- what a report answers: it is refused for a flow whose accepted bytes are not those departed and those stored
abbrev pub report_answer : State → ℕ → ℕ → Result Report ReportFault
report_answer st i j =
    let l = st.ledgers i j in
    cond (has_flow st.plan i j)
    (cond (l.accepted == l.departed + lengths (st.lists i j)) (Ok record { peak = l.peak; accepted = l.accepted; departed = l.departed }) (Err fault.Unbalanced))
    (Err fault.Port)

-- whether a report on flow (i, j) is right of a switch of the law: it has its numbers, and is not refused for its bytes
abbrev pub Right : Switch → ℕ → ℕ → Result Report ReportFault → Type 0
Right s i j (Ok r) = (r.peak ≡ s.peak i j) × (r.accepted ≡ accepted_bytes (s.flow i j).accepted) × (r.departed ≡ departed_bytes s.clock (s.flow i j))
Right s i j (Err fault.Port) = Unit {0}
Right s i j (Err fault.Unbalanced) = ⊥

-- a report is right in every run that comes to a switch for which the state stands, over a store of any stated size
abbrev pub Reports : State → ℕ → ℕ → Result Report ReportFault → Type 0
Reports st i j r = (M : ℕ) (log : List (Call × Answer)) (s : Switch) → Run (plan_of st.plan) M log s → Shows st s → Right s i j r
