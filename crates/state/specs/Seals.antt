-- The seal of a draft.
use Rattle.std.specs.Prelude.{ℕ, [], None}
use Rattle.plan.specs.declared.table.Plan as kit
use Rattle.law.specs.Plans.{plan_of}
use Rattle.law.specs.Step.{sealed}
use Rattle.state.specs.State.{State, fresh}
use Rattle.state.specs.Shows.{Moment, AllPromises}

-- the state of a switch that is sealed with this plan: nothing has come yet
abbrev pub sealed_state : kit.Plan → State
sealed_state plan = record {
  plan = plan;
  clock = 0;
  crossing = λ _. None;
  sending = λ _. None;
  ledgers = λ _ _. fresh;
  lists = λ _ _. [];
  counts = λ _ _. 0;
}

-- a run begins there: the empty log leads to the sealed switch of the law, the state stands for it, and the promises hold
abbrev pub Opens : ℕ → State → Type 0
Opens M st = Moment M st [] sealed × AllPromises (plan_of st.plan) M [] sealed
