-- What a step leaves as it was: the plan, the clock up to its end, and the length of the list.
use Rattle.std.proofs.Common.{◌≡◌, ℕ, ◌+◌, ◌%◌, ◌^◌, ◌<◌, ◌≤◌, List, length, drop, IfOk, Ok, Err, Result, ap, ◌∙◌, mod-eq_of_lt, arith, length-append}
use Rattle.std.proofs.lemmas.List.{length-drop}
use Rattle.plan.specs.declared.fault.StepFault.{StepFault}
use Rattle.plan.specs.declared.fault.TheConstants.{LAST_TICK}
use Rattle.plan.specs.declared.table.Plan as kit
use Rattle.plan.proofs.Refused.{step_granted}
use Rattle.departure.specs.declared.Departure.{Departure}
use Rattle.law.specs.Rules.{Rule}
use Rattle.state.specs.State.{State}
use Rattle.state.specs.Crosses.{Crossings}
use Rattle.state.specs.Sends.{ticked, Sendings}
use Rattle.state.specs.Steps.{StepsSo}
use Rattle.state.proofs.FinishByFlow.{finish_is}
use Rattle.state.proofs.FinishInCode.{listed_few}
use Rattle.state.proofs.InputTurns.{input_turns}
use Rattle.state.proofs.OutputTurns.{output_turns}

-- the clock of 64 bits
next_tick : (t : ℕ) → t ≤ LAST_TICK → (t + 1) % 2 ^ 64 ≡ t + 1
next_tick t h = let small : t + 1 < 2 ^ 64 = omega (arith, h) in mod-eq_of_lt small

abbrev pub wrapped : State → State
wrapped st = record st { clock = (st.clock + 1) % 2 ^ 64 }

pub timed : (st : State) → st.clock ≤ LAST_TICK → wrapped st ≡ ticked st
timed st h = λ k. record st { clock = next_tick st.clock h k }

module _ {K : Type 0} (answer : K → Rule) (told : K → ℕ → ℕ → K → Type 0) where
  pub crossings_keep : {st : State} {kept : K} {n : ℕ} {mid : State} {k : K} → Crossings answer told st kept n mid k → (mid.plan ≡ st.plan) × (mid.clock ≡ st.clock)
  crossings_keep d = let done = (input_turns answer told d).done in (done.beside.plan_is, done.beside.clock_is)

  pub sendings_keep : {st : State} {kept : K} {n : ℕ} {after : State} {k : K} → Sendings answer told st kept n after k → (after.plan ≡ st.plan) × (after.clock ≡ st.clock)
  sendings_keep d = let done = (output_turns answer told d).done in (ap (λ (x : State). x.plan) done.beside, ap (λ (x : State). x.clock) done.beside)

  module _ (st : State) (kept : K) (after : State) (next : K) (old new : List Departure) where
    pub step_plan : (r : Result ℕ StepFault) → StepsSo answer told st kept after next old new r → after.plan ≡ st.plan
    step_plan (Err f) (_, same, _, _) = ap (λ (y : State). y.plan) same
    step_plan (Ok count) (_, (list, x, _, _)) =
        ap (λ (y : State). y.plan) x.state ∙ (finish_is x.sent.plan.size.ports (ticked x.sent)).plan_is ∙ (sendings_keep x.outputs).0 ∙ (crossings_keep x.inputs).0

    pub step_lengths : (r : Result ℕ StepFault) → StepsSo answer told st kept after next old new r → (length new ≡ length old) × IfOk r (λ n. n ≤ length old)
    step_lengths (Err f) (_, _, _, same) = (ap length same, tt)
    step_lengths (Ok count) (why, (list, x, counted, written)) =
        let long = (step_granted st.plan.size.ports (length old) st.clock why).0 in
        let plan_stays = (sendings_keep x.outputs).0 ∙ (crossings_keep x.inputs).0 in
        let ports : x.sent.plan.size.ports ≡ st.plan.size.ports = ap (λ (p : kit.Plan). p.size.ports) plan_stays in
        let few : length list ≤ st.plan.size.ports = omega (arith, ap length x.leaves, listed_few x.sent.plan.size.ports (ticked x.sent), ports) in
        (omega (arith, ap length written, length-append list (drop count old), length-drop count old, few, counted, long), omega (arith, few, counted, long))
