-- Quiet ticks carry every run on: each is a step that starts nothing and lists nothing.
use Rattle.std.proofs.Common.{◌≡◌, ℕ, zero, suc, ◌+◌, ◌-◌, ◌<◌, ◌≤◌, max, List, [], sym, refl, ap, ◌∙◌, subst, add-zero, arith}
use Rattle.plan.proofs.Refused.{step_grants}
use Rattle.tie.specs.PicksTied.{PicksTied}
use Rattle.law.specs.Rules.{Rule}
use Rattle.law.specs.Runs.{Call, Answer}
use Rattle.law.specs.Step.{Switch}
use Rattle.state.specs.State.{State}
use Rattle.state.specs.Sends.{ticked}
use Rattle.state.specs.Shows.{Moment}
use Rattle.state.specs.Quiet.{next_event, at_tick, Still, StillFor, quiet_log, Passes}
use Rattle.state.proofs.ShownFlows.{keeps}
use Rattle.state.proofs.StepCarries.{granted_step}
use Rattle.state.proofs.StillStep.{still_step}

module _ {K : Type 0} (answer : K → Rule) (told : K → ℕ → ℕ → K → Type 0) (picks-tied : (k : K) → PicksTied (answer k)) (kept : K) (M : ℕ) (st : State) where
  still_steps_carry : (k : ℕ) → ((t : ℕ) → st.clock ≤ t → t < st.clock + k → Still (at_tick t st)) → (log : List (Call × Answer)) (s : Switch) → Moment M st log s →
      (next : Switch) × Moment M (at_tick (st.clock + k) st) (quiet_log st.plan.size.ports k log) next
  still_steps_carry zero still log s now = (s, subst (λ t. Moment M (at_tick t st) log s) (sym (add-zero st.clock)) now)
  still_steps_carry (suc k) still log s now =
      let n = st.plan.size.ports in
      let there = at_tick (st.clock + k) st in
      let before = still_steps_carry k (λ t from below. still t from (omega (arith, below))) log s now in
      let here : Still there = still (st.clock + k) (omega arith) (omega arith) in
      let granted = step_grants n n there.clock (omega arith) here.soon in
      let on = granted_step answer told picks-tied M there kept (ticked there) kept [] [] n 0 refl refl granted (still_step answer told picks-tied there kept here) (quiet_log n k log) before.0 before.1 in
      let at : st.clock + k + 1 ≡ st.clock + suc k = omega arith in
      (on.0, subst (λ t. Moment M (at_tick t st) (quiet_log n (suc k) log) on.0) at on.2)

  -- the ticks that are passed in one go
  pub passes : (after : State) (limit k : ℕ) → k ≡ next_event st limit - st.clock → StillFor st limit k → after ≡ at_tick (max st.clock (next_event st limit)) st → Passes M st after k
  passes after limit k e quiet is = λ log s now.
      let n = st.plan.size.ports in
      let end = still_steps_carry k quiet.still log s now in
      let at : st.clock + k ≡ max st.clock (next_event st limit) = omega (arith, e) in (
        end.0,
        subst (λ (x : State). Moment M x (quiet_log n k log) end.0) (ap (λ t. at_tick t st) at ∙ sym is) end.1,
        (λ m below.
            let mid = still_steps_carry m (λ t from until. quiet.still t from (omega (arith, until, below))) log s now in
            (mid.0, mid.1.run, keeps mid.1)),
      )
