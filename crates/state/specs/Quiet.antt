-- Quiet ticks, in which nothing starts and nothing leaves, and how many of them follow.
use Rattle.std.specs.Prelude.{◌≡◌, ℕ, zero, suc, ◌+◌, ◌-◌, ◌<◌, ◌≤◌, min, max, false, cond, List, [], ◌∷◌, None, ◌≢◌}
use Rattle.plan.specs.declared.fault.TheConstants.{LAST_TICK}
use Rattle.law.specs.Plans.{plan_of}
use Rattle.law.specs.Rules.{Rule}
use Rattle.law.specs.Step.{Switch}
use Rattle.law.specs.Runs.{Call, step, Answer, listed, Run}
use Rattle.state.specs.State.{State}
use Rattle.state.specs.Due.{across_due, out_due}
use Rattle.state.specs.Lines.{until_of, busy_at}
use Rattle.state.specs.Shows.{Moment, AllPromises}
use Rattle.state.specs.Crosses.{mark_across, next_across}
use Rattle.state.specs.Sends.{mark_out, next_out, Stepped}

-- the first tick, up to `best`, at which input i may start something
abbrev pub input_next : State → ℕ → ℕ → ℕ
input_next st i best = min best (max (across_due st.lists st.ledgers i) (until_of (st.crossing i)))

-- the same of the first n inputs
unfoldable pub inputs_next : State → ℕ → ℕ → ℕ
inputs_next st zero best = best
inputs_next st (suc n) best = input_next st n (inputs_next st n best)

-- the first tick, up to `best`, at which output j may start something, or while it is busy, whose step lets its packet leave
abbrev pub output_next : State → ℕ → ℕ → ℕ
output_next st j best = min best (cond (busy_at st.clock (st.sending j)) (until_of (st.sending j) - 1) (out_due st.plan.size.longest st.lists j))

-- the same of the first n outputs
unfoldable pub outputs_next : State → ℕ → ℕ → ℕ
outputs_next st zero best = best
outputs_next st (suc n) best = output_next st n (outputs_next st n best)

-- the first tick, up to the limit, whose step starts something, lets something leave or is refused
abbrev pub next_event : State → ℕ → ℕ
next_event st limit = outputs_next st st.plan.size.ports (inputs_next st st.plan.size.ports (min limit LAST_TICK))

-- the state at another tick
abbrev pub at_tick : ℕ → State → State
at_tick t st = record st { clock = t }

-- a state whose next step is granted, starts nothing and lets nothing leave
pub record Still (st : State) : Type 0 where
  pub soon : st.clock < LAST_TICK
  pub inputs : (i j : ℕ) → i < st.plan.size.ports → j < 16 → busy_at st.clock (st.crossing i) ≡ false → mark_across st.clock (next_across st i j) ≡ None
  pub outputs : (i j : ℕ) → i < 16 → j < st.plan.size.ports → busy_at st.clock (st.sending j) ≡ false → mark_out st.plan.size.longest st.clock (next_out st i j) ≡ None
  pub stays : (j : ℕ) → j < st.plan.size.ports → until_of (st.sending j) ≢ st.clock + 1

-- the k ticks from now on are such, none is beyond the limit, and the tick after them is at the limit or is not such
pub record StillFor (st : State) (limit k : ℕ) : Type 0 where
  pub still : (t : ℕ) → st.clock ≤ t → t < st.clock + k → Still (at_tick t st)
  pub bounded : st.clock + k ≤ max st.clock (min limit LAST_TICK)
  pub no_more : st.clock + k < limit → Still (at_tick (st.clock + k) st) → ⊥

-- k steps, one after another, each of which starts nothing, lists nothing and tells the rule nothing: only the clock moves
module _ {K : Type 0} (answer : K → Rule) (told : K → ℕ → ℕ → K → Type 0) where
  abbrev pub QuietSteps : State → K → ℕ → Type 0
  QuietSteps st kept k = (m : ℕ) → m < k → Stepped answer told (at_tick (st.clock + m) st) kept (at_tick (st.clock + m + 1) st) kept []

-- the log with k steps more, each with room for n departures, that list nothing
abbrev pub quiet_log : ℕ → ℕ → List (Call × Answer) → List (Call × Answer)
quiet_log n zero log = log
quiet_log n (suc k) log = (step n, listed []) ∷ quiet_log n k log

-- k steps that list nothing carry every run on: whatever moment of a run the state before is at, the state after is at the moment
-- after these steps, and the promises held after each of them
abbrev pub Passes : ℕ → State → State → ℕ → Type 0
Passes M before after k =
    (log : List (Call × Answer)) (s : Switch) → Moment M before log s →
    (next : Switch) × Moment M after (quiet_log before.plan.size.ports k log) next
    × ((m : ℕ) → m ≤ k → (mid : Switch) × Run (plan_of before.plan) M (quiet_log before.plan.size.ports m log) mid × AllPromises (plan_of before.plan) M (quiet_log before.plan.size.ports m log) mid)
