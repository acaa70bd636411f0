-- A step: its answer, the list that it fills, the state after it, and what it makes of a run.
use Rattle.std.specs.Prelude.{◌≡◌, ℕ, ◌+◌, ◌*◌, List, ◌++◌, length, take, drop, Some, None, Ok, Err, Result}
use Rattle.departure.specs.declared.Departure.{Departure}
use Rattle.plan.specs.Numbers.{step_number}
use Rattle.plan.specs.Refusals.{step_refusal}
use Rattle.plan.specs.declared.fault.StepFault.{StepFault}
use Rattle.state.specs.State.{State}
use Rattle.state.specs.Sends.{Stepped}
use Rattle.law.specs.Rules.{Rule, AsksInOrder, answers_in_order, crossing_choice, sending_choice}
use Rattle.law.specs.Runs.{Answer, refused, listed, leaves}
use Rattle.law.specs.Step.{Plan, Switch, after_tick}

-- the answer of a step, as the law has it: the number of a refusal, or the entries that it filled
abbrev pub step_told : Result ℕ StepFault → List Departure → Answer
step_told (Err f) new = refused (step_number f)
step_told (Ok count) new = listed (take count new)

module _ {K : Type 0} (answer : K → Rule) (told : K → ℕ → ℕ → K → Type 0) where
  -- A step with a list for departures, which is `old` before and `new` after it. A refused step leaves everything as it was. A
  -- granted one takes the state on, writes its departures over the first entries of the list, and answers how many they are.
  abbrev pub StepsSo : State → K → State → K → List Departure → List Departure → Result ℕ StepFault → Type 0
  StepsSo st kept after next old new (Err f) = (step_refusal st.plan.size.ports (length old) st.clock ≡ Some f) × (after ≡ st) × (next ≡ kept) × (new ≡ old)
  StepsSo st kept after next old new (Ok count) =
      (step_refusal st.plan.size.ports (length old) st.clock ≡ None) ×
      ((list : List Departure) × Stepped answer told st kept after next list × (count ≡ length list) × (new ≡ list ++ drop count old))

  -- A step in a run that has come to switch s: `next` is the switch after it. A refused step leads nowhere. A granted one leads a
  -- tick on, with the starts that the rule answers when the law asks it: at each port in order, about the marks and the waiting
  -- bytes of s, and told each winner before it is asked at the next port (`ks` is what it keeps as it goes, at last what it keeps
  -- after the step). The entries that the step filled are the departures of that tick.
  abbrev pub StepLeads : Plan → K → K → Result ℕ StepFault → List Departure → Switch → Switch → Type 0
  StepLeads plan kept after_kept (Err e) new s next = (after_kept ≡ kept) × (next ≡ s)
  StepLeads plan kept after_kept (Ok count) new s next =
      (ks : ℕ → K) × AsksInOrder answer told plan s kept ks × (ks (2 * plan.ports) ≡ after_kept)
      × (next ≡ after_tick plan s (crossing_choice plan s (answers_in_order answer told ks)) (sending_choice plan s (answers_in_order answer told ks)))
      × (take count new ≡ leaves plan next s.clock (s.clock + 1))
