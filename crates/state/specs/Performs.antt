-- Calls made one after another on a switch from its seal on.
use Rattle.std.specs.Prelude.{◌≡◌, ℕ, List, [], ◌∷◌, ◌++◌, length, take, Ok, Err}
use Rattle.plan.specs.declared.table.Plan as kit
use Rattle.law.specs.Plans.{plan_of}
use Rattle.law.specs.Step.{Plan, Switch}
use Rattle.law.specs.Runs.{Run, refused, listed}
use Rattle.law.specs.Runs as law
use Rattle.state.specs.declared.call.Call.{Call}
use Rattle.state.specs.declared.call.Call.TheVariants as call
use Rattle.state.specs.declared.call.Answer.{Answer}
use Rattle.state.specs.declared.call.Answer.TheVariants as answer
use Rattle.plan.specs.Numbers.{step_number}
use Rattle.state.specs.State.{State}
use Rattle.state.specs.Asks.{ask_told}
use Rattle.state.specs.Shows.{Moment, AllPromises, arrive_told}

-- a call and its answer, as the law has them
abbrev pub call_of : Call → law.Call
call_of (call.Arrive i j b) = law.arrive i j b
call_of (call.Step room) = law.step room
call_of (call.Ask i j) = law.ask i j

abbrev pub answer_of : Answer → law.Answer
answer_of (answer.Arrive r) = arrive_told r
answer_of (answer.Step (Ok l)) = listed (take l.count l.departures)
answer_of (answer.Step (Err e)) = refused (step_number e)
answer_of (answer.Ask r) = ask_told r

-- the log of these calls, each with its answer, the newest first
abbrev pub log_of : List Call → List Answer → List (law.Call × law.Answer)
log_of [] answers = []
log_of (c ∷ calls) [] = []
log_of (c ∷ calls) (a ∷ answers) = log_of calls answers ++ (call_of c, answer_of a) ∷ []

-- at every moment of this log, from the seal on and after each call, the part of it so far leads to a switch, and the promises to
-- every flow hold
abbrev pub EveryMoment : Plan → ℕ → List (law.Call × law.Answer) → Type 0
EveryMoment plan M [] = (s : Switch) × Run plan M [] s × AllPromises plan M [] s
EveryMoment plan M (entry ∷ log) = ((s : Switch) × Run plan M (entry ∷ log) s × AllPromises plan M (entry ∷ log) s) × EveryMoment plan M log

-- These calls, made on a switch sealed with this plan, got these answers and led to the state st: each call has its answer, the
-- state is at the moment of a run of the law that the log of both tells, and the promises held at every moment of it.
pub record Performs (M : ℕ) (plan : kit.Plan) (st : State) (calls : List Call) (answers : List Answer) : Type 0 where
  pub each : length answers ≡ length calls
  pub same_plan : st.plan ≡ plan
  pub switch : Switch
  pub moment : Moment M st (log_of calls answers) switch
  pub promises : EveryMoment (plan_of plan) M (log_of calls answers)

-- one call carries every run on: whatever moment of a run the state before is at, the state after is at the moment after it
abbrev pub Obeys : ℕ → State → State → Call → Answer → Type 0
Obeys M before after c a =
    (after.plan ≡ before.plan)
    × ((log : List (law.Call × law.Answer)) (s : Switch) → Moment M before log s → (next : Switch) × Moment M after ((call_of c, answer_of a) ∷ log) next)
