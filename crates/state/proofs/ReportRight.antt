-- A report is right in every run: a flow's bytes accepted are those that have left and those stored.
use Rattle.std.proofs.Common.{◌≡◌, ℕ, zero, suc, ◌+◌, true, false, cond, eqb, List, [], ◌∷◌, take, drop, Ok, Err, Result, sym, refl, ap, ◌∙◌, subst, ⊎_elim, arith}
use Rattle.std.proofs.lemmas.Bool.{cases_Bool, eq-eqb}
use Rattle.std.specs.List.{slice_get}
use Rattle.plan.specs.Weights.{weight_of, has_flow}
use Rattle.store.specs.declared.packet.Packet.{Packet}
use Rattle.timing.specs.Fluid.{Accepted, accepted_bytes}
use Rattle.timing.specs.Stamps.{scaled_start, scaled_finish}
use Rattle.law.specs.Journeys.{departed}
use Rattle.law.specs.Queues.{bytes_of}
use Rattle.state.specs.declared.line.Ledger.{Ledger}
use Rattle.state.specs.declared.numbers.Report.{Report}
use Rattle.state.specs.declared.fault.ReportFault.{ReportFault}
use Rattle.state.specs.declared.fault.ReportFault.TheVariants as fault
use Rattle.state.specs.State.{State, bytes_in}
use Rattle.state.specs.Shows.{packets, Moment}
use Rattle.state.specs.Reports.{lengths, report_answer, Right, Reports}
use Rattle.state.proofs.ExactTotals.{accepted_exact, departed_exact}
use Rattle.state.proofs.ShownFlows.{accepted_fits}

lengths_next : (ps : List Packet) (k : ℕ) → lengths (take (suc k) ps) ≡ lengths (take k ps) + bytes_in (slice_get ps k)
unfolding lengths
lengths_next [] zero = refl
lengths_next [] (suc k) = refl
lengths_next (p ∷ ps) zero = omega arith
lengths_next (p ∷ ps) (suc k) = omega (arith, lengths_next ps k)

pub lengths_more : (ps : List Packet) (k : ℕ) → lengths (take (k + 1) ps) ≡ lengths (take k ps) + bytes_in (slice_get ps k)
lengths_more ps k = ap (λ n. lengths (take n ps)) e ∙ lengths_next ps k
  where
    e : k + 1 ≡ suc k
    e = omega arith

-- a flow's packets from the d-th on, as they are stored, have the rest of its bytes
lengths_rest : (W w k f : ℕ) (ps : List Accepted) (us : List ℕ) (d : ℕ) → bytes_of ps d + lengths (drop d (packets W w k f ps us)) ≡ accepted_bytes ps
unfolding lengths
lengths_rest W w k f [] us zero = refl
lengths_rest W w k f [] us (suc d) = refl
lengths_rest W w k f (p ∷ ps) us zero = omega (arith, lengths_rest W w (k + 1) (scaled_finish W (scaled_start w p.arrival f) p.bytes) ps (drop 1 us) 0)
lengths_rest W w k f (p ∷ ps) us (suc d) = omega (arith, lengths_rest W w (k + 1) (scaled_finish W (scaled_start w p.arrival f) p.bytes) ps (drop 1 us) d)

-- a report of a ledger and the stored bytes
abbrev pub report_of : Ledger → ℕ → Result Report ReportFault
report_of l inside = cond (eqb l.accepted (l.departed + inside)) (Ok record { peak = l.peak; accepted = l.accepted; departed = l.departed }) (Err fault.Unbalanced)

pub report_even : (l : Ledger) (inside : ℕ) → l.accepted ≡ l.departed + inside → report_of l inside ≡ Ok record { peak = l.peak; accepted = l.accepted; departed = l.departed }
report_even l inside e = rw (eq-eqb l.accepted (l.departed + inside) e)

-- in a run a flow is balanced, and the report is right
right_flow : (st : State) (i j : ℕ) → has_flow st.plan i j ≡ true → Reports st i j (report_of (st.ledgers i j) (lengths (st.lists i j)))
right_flow st i j here M log s run shows =
    let f = s.flow i j in
    let l = st.ledgers i j in
    let flow = shows.flows i j in
    let now : Moment M st log s = record { run = run; shows = shows } in
    let fits = accepted_fits now i j in
    let a = accepted_exact flow fits in
    let d = departed_exact flow fits in
    let even : l.accepted ≡ l.departed + lengths (st.lists i j) = omega (arith, a, d, ap lengths flow.listed, lengths_rest st.plan.size.parts (weight_of st.plan i j) 0 0 f.accepted f.crossings (departed s.clock f)) in
    subst (Right s i j) (sym (report_even l (lengths (st.lists i j)) even)) (flow.peak_is, a, d)

pub report_right : (st : State) (i j : ℕ) (r : Result Report ReportFault) → r ≡ report_answer st i j → Reports st i j r
report_right st i j r e =
    subst (Reports st i j) (sym e)
    (⊎_elim
    (λ (here : has_flow st.plan i j ≡ true). subst (λ v. Reports st i j (cond v (report_of (st.ledgers i j) (lengths (st.lists i j))) (Err fault.Port))) (sym here) (right_flow st i j here))
    (λ (out : has_flow st.plan i j ≡ false). subst (λ v. Reports st i j (cond v (report_of (st.ledgers i j) (lengths (st.lists i j))) (Err fault.Port))) (sym out) (λ M log s run shows. tt))
    (cases_Bool (has_flow st.plan i j)))
