-- What each call answers and leaves, over the switch at entry and exit, and what it means in a run of the law. S is the
-- store and R the tie rule; of the store its lists, signs and stated size.
use Rattle.std.specs.Prelude.{◌≡◌, ℕ, ◌-◌, ◌≤◌, max, Bool, List, [], length, IfOk, OnErr, Some, None, Ok, Err, Result}
use Rattle.departure.specs.declared.Departure.{Departure}
use Rattle.plan.specs.declared.fault.ArriveFault.{ArriveFault}
use Rattle.plan.specs.declared.fault.PortFault.{PortFault}
use Rattle.plan.specs.declared.fault.ShareFault.{ShareFault}
use Rattle.plan.specs.declared.size.Size.{Size}
use Rattle.plan.specs.declared.table.Plan.{Plan}
use Rattle.plan.specs.Weights.{weight_of, refusal_of}
use Rattle.grid.specs.Flows.{with_flow}
use Rattle.store.specs.declared.packet.Packet.{Packet}
use Rattle.law.specs.Plans.{plan_of}
use Rattle.law.specs.Rules.{Rule}
use Rattle.law.specs.Runs.{arrive, step, ask}
use Rattle.plan.specs.declared.fault.StepFault.{StepFault}
use Rattle.state.specs.declared.numbers.Numbers.{Numbers}
use Rattle.state.specs.State.{State}
use Rattle.state.specs.Arrives.{arrive_answer, arrive_state, ArriveLeads}
use Rattle.state.specs.Asks.{ask_answer, ask_told, AskLeads}
use Rattle.state.specs.Quiet.{next_event, at_tick, StillFor, QuietSteps, Passes}
use Rattle.state.specs.Seals.{sealed_state, Opens}
use Rattle.state.specs.Shows.{CarriesOn, arrive_told}
use Rattle.state.specs.Steps.{StepsSo, StepLeads, step_told}
use Rattle.switch.specs.declared.draft.Draft.{Draft}
use Rattle.switch.specs.declared.running.Running.{Running}
use Rattle.switch.specs.Shown.{shown}

-- the state of a running switch
abbrev pub state_of : {S R : Type 0} {g : _} → (S → ℕ → ℕ → List Packet) → Running S R g → State
state_of lists r = shown (lists r.store.store) r

-- The store's stated size is as it was.
abbrev pub KeepsSize : {S R : Type 0} {g : _} → (S → ℕ) → Running S R g → Running S R g → Type 0
KeepsSize size before after = size after.store.store ≡ size before.store.store

-- The store's stated size and the tie rule are as they were.
pub record Keeps {S R : Type 0} {g : _} (size : S → ℕ) (before after : Running S R g) : Type 0 where
  pub size_kept : KeepsSize size before after
  pub rule_kept : after.rule ≡ before.rule

-- A draft is opened over a store, which is cleared: every flow is closed.
pub record OpenedAs {S R : Type 0} (lists : S → ℕ → ℕ → List Packet) (size : S → ℕ) (plan_size : Size) (store : S) (rule : R) (draft : Draft S R) : Type 0 where
  pub plan : draft.plan.size ≡ plan_size
  pub weights : weight_of draft.plan ≡ (λ _ _. 0)
  pub lists_empty : lists draft.store.store ≡ (λ _ _. [])
  pub stated_size : size draft.store.store ≡ size store
  pub rule_kept : draft.rule ≡ rule

-- A draft is opened over a plan that is booked already.
pub record OpenedOver {S R : Type 0} (lists : S → ℕ → ℕ → List Packet) (size : S → ℕ) (plan : Plan) (store : S) (rule : R) (draft : Draft S R) : Type 0 where
  pub plan_is : draft.plan ≡ plan
  pub lists_empty : lists draft.store.store ≡ (λ _ _. [])
  pub stated_size : size draft.store.store ≡ size store
  pub rule_kept : draft.rule ≡ rule

-- Flow (i, j) of a draft gets the weight w in place of the old one, or the whole draft stays as it was.
abbrev pub Shares : {S R : Type 0} → Draft S R → Draft S R → ℕ → ℕ → ℕ → Result Unit ShareFault → Type 0
Shares before after i j w (Ok x) =
    (refusal_of before.plan i j w ≡ None) × (after.plan.size ≡ before.plan.size) × (weight_of after.plan ≡ with_flow (weight_of before.plan) i j w)
    × (after.store ≡ before.store) × (after.rule ≡ before.rule)
Shares before after i j w (Err f) = (refusal_of before.plan i j w ≡ Some f) × (after ≡ before)

-- A draft is sealed: the clock at 0, nothing inside, every line idle, the rule as it was. It is at the start of a run.
pub record SealedAs {S R : Type 0} {g : _} (lists : S → ℕ → ℕ → List Packet) (size : S → ℕ) (draft : Draft S R) (after : Running S R g) : Type 0 where
  pub state : state_of lists after ≡ sealed_state draft.plan
  pub stated_size : size after.store.store ≡ size draft.store.store
  pub rule : after.rule ≡ draft.rule
  pub law : Opens (size draft.store.store) (state_of lists after)

-- A packet of b bytes comes to flow (i, j).
pub record Arrives {S R : Type 0} {g : _} (lists : S → ℕ → ℕ → List Packet) (full : S → ℕ → ℕ → Bool) (size : S → ℕ)
    (before after : Running S R g) (i j b : ℕ) (r : Result Unit ArriveFault) : Type 0 where
  pub answer : r ≡ arrive_answer (full before.store.store) (state_of lists before) i j b
  pub state : state_of lists after ≡ arrive_state r (state_of lists before) i j b
  pub refused : OnErr r (after ≡ before)
  pub stated_size : size after.store.store ≡ size before.store.store
  pub rule : after.rule ≡ before.rule
  pub law : CarriesOn (ArriveLeads (size before.store.store) (full before.store.store i j) (plan_of before.plan) i j b r)
      (size before.store.store) (state_of lists before) (state_of lists after) (arrive i j b) (arrive_told r)

-- A step, with the list for departures before and after it; of the rule, its answers from what it keeps and what it may keep
-- once told a winner.
pub record Steps {S R : Type 0} {g : _} (lists : S → ℕ → ℕ → List Packet) (size : S → ℕ) (answer : R → Rule) (told : R → ℕ → ℕ → R → Type 0)
    (before after : Running S R g) (old new : List Departure) (r : Result ℕ StepFault) : Type 0 where
  pub exact : StepsSo answer told (state_of lists before) before.rule (state_of lists after) after.rule old new r
  pub refused : OnErr r ((after ≡ before) × (new ≡ old))
  pub entries : length new ≡ length old
  pub few : IfOk r (λ count. count ≤ length old)
  pub stated_size : size after.store.store ≡ size before.store.store
  pub law : CarriesOn (StepLeads answer told (plan_of before.plan) before.rule after.rule r new)
      (size before.store.store) (state_of lists before) (state_of lists after) (step (length old)) (step_told r new)

-- A question about flow (i, j).
pub record Asks {S R : Type 0} {g : _} (lists : S → ℕ → ℕ → List Packet) (size : S → ℕ) (running : Running S R g) (i j : ℕ) (r : Result Numbers PortFault) : Type 0 where
  pub answer : r ≡ ask_answer (state_of lists running) i j
  pub law : CarriesOn (AskLeads (plan_of running.plan) i j r)
      (size running.store.store) (state_of lists running) (state_of lists running) (ask i j) (ask_told r)

-- Ticks are passed in one go, none beyond the limit: only the clock moves, each tick passed is still and the next is not, and
-- it is the same as that many steps that list nothing.
pub record PassesQuiet {S R : Type 0} {g : _} (lists : S → ℕ → ℕ → List Packet) (size : S → ℕ) (answer : R → Rule) (told : R → ℕ → ℕ → R → Type 0)
    (before after : Running S R g) (limit k : ℕ) : Type 0 where
  pub ticks : k ≡ next_event (state_of lists before) limit - before.clock
  pub still : StillFor (state_of lists before) limit k
  pub state : state_of lists after ≡ at_tick (max before.clock (next_event (state_of lists before) limit)) (state_of lists before)
  pub beside : (after.store ≡ before.store) × (after.rule ≡ before.rule)
  pub steps : QuietSteps answer told (state_of lists before) before.rule k
  pub law : Passes (size before.store.store) (state_of lists before) (state_of lists after) k
