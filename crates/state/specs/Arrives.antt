-- An arrival.
use Rattle.std.specs.Prelude.{◌≡◌, ℕ, ◌≤◌, true, ◌↔◌, ◌+◌, ◌%◌, ◌^◌, Bool, cond, not, ◌&&◌, [], ◌∷◌, ◌++◌, Some, None, Ok, Err, Result}
use Rattle.std.specs.Option.{option_or}
use Rattle.timing.specs.Stamps.{stamp_at}
use Rattle.plan.specs.Refusals.{arrive_refusal, unless}
use Rattle.plan.specs.Weights.{weight_of}
use Rattle.plan.specs.declared.fault.ArriveFault.{ArriveFault}
use Rattle.plan.specs.declared.fault.ArriveFault.TheVariants.{Full}
use Rattle.grid.specs.Flows.{with_flow}
use Rattle.store.specs.Stored.{numbered}
use Rattle.law.specs.Step.{Plan, Switch}
use Rattle.law.specs.Runs.{arrived, all_inside}
use Rattle.state.specs.declared.line.Ledger.{Ledger}
use Rattle.state.specs.State.{State}
use Rattle.state.specs.Stamping.{incoming, stampable, finish_of}

-- what an arrival of b bytes at flow (i, j) answers: one that the plan does not refuse is refused if its virtual times fit no
-- stamp, or its flow's sign is up
abbrev pub arrive_answer : (ℕ → ℕ → Bool) → State → ℕ → ℕ → ℕ → Result Unit ArriveFault
arrive_answer full st i j b =
    unless
    (option_or (arrive_refusal st.plan.size.ports st.plan.size.longest (weight_of st.plan) i j b)
    (cond (stampable (st.ledgers i j).last (weight_of st.plan i j) st.clock b st.plan.size.parts && not (full i j)) None (Some Full)))
    tt

-- the ledger of a flow of weight w once it has taken a packet of b bytes at tick t
abbrev pub accepting : Ledger → ℕ → ℕ → ℕ → ℕ → Ledger
accepting l w t b W = record l { last = Some (stamp_at w (finish_of l.last w t b W)); accepted = (l.accepted + b) % 2 ^ 64 }

-- the state once flow (i, j) has taken it: in the list, with the next serial, and in the ledger
abbrev pub accepted_state : State → ℕ → ℕ → ℕ → State
accepted_state st i j b =
    let w = weight_of st.plan i j in
    let l = st.ledgers i j in
    record st {
      ledgers = with_flow st.ledgers i j (accepting l w st.clock b st.plan.size.parts);
      lists = with_flow st.lists i j (st.lists i j ++ numbered (st.counts i j) (incoming l.last w st.clock b st.plan.size.parts) ∷ []);
      counts = with_flow st.counts i j ((st.counts i j + 1) % 2 ^ 64);
    }

-- the state after the answer
abbrev pub arrive_state : {X : Type 0} → Result X ArriveFault → State → ℕ → ℕ → ℕ → State
arrive_state (Ok x) st i j b = accepted_state st i j b
arrive_state (Err e) st i j b = st

-- the switch of the law after the answer
abbrev pub arrived_as : {X : Type 0} → Result X ArriveFault → Switch → ℕ → ℕ → ℕ → Switch
arrived_as (Ok x) s i j b = arrived s i j b
arrived_as (Err e) s i j b = s

-- The answer of an arrival in a run that has come to switch s: `next` is the switch after it, and one that the plan does not
-- refuse is refused just where its flow's sign is up. Then at least so many packets are inside as the store's stated size M.
pub record ArriveLeads (M : ℕ) (sign : Bool) (plan : Plan) (i j b : ℕ) (r : Result Unit ArriveFault) (s next : Switch) : Type 0 where
  pub leads : next ≡ arrived_as r s i j b
  pub signed : arrive_refusal plan.ports plan.longest plan.weight i j b ≡ None → (r ≡ Err Full) ↔ (sign ≡ true)
  pub filled : arrive_refusal plan.ports plan.longest plan.weight i j b ≡ None → sign ≡ true → M ≤ all_inside plan s
