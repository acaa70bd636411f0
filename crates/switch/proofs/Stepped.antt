-- A step on a list of 16 entries, or of fewer where there is room for fewer, obeys the law of a step with that room.
use Rattle.std.proofs.Common.{◌≡◌, ℕ, ◌≤◌, min, List, ◌∷◌, length, take, replicate, Result, subst, arith}
use Rattle.std.proofs.lemmas.List.{length-take-le, length-replicate}
use Rattle.departure.specs.declared.Departure.{Departure}
use Rattle.law.specs.Rules.{Rule}
use Rattle.law.specs.Runs as law
use Rattle.law.specs.Step.{Switch}
use Rattle.plan.specs.declared.fault.StepFault.{StepFault}
use Rattle.tie.specs.PicksTied.{PicksTied}
use Rattle.state.specs.State.{State}
use Rattle.state.specs.Shows.{Moment}
use Rattle.state.specs.Steps.{StepsSo, step_told}
use Rattle.state.proofs.StepCarries.{step_carries_room}
use Rattle.state.proofs.StepKeeps.{step_plan}

module _ {K : Type 0} (answer : K → Rule) (told : K → ℕ → ℕ → K → Type 0) (picks-tied : (k : K) → PicksTied (answer k)) where
  pub step_obeys : (M : ℕ) (st : State) (kept : K) (after : State) (next : K) (n room : ℕ) (d : Departure) (new : List Departure) (r : Result ℕ StepFault) (a : law.Answer) → n ≡ min room 16 →
      st.plan.size.ports ≤ 16 → StepsSo answer told st kept after next (take n (replicate 16 d)) new r → step_told r new ≡ a →
      (after.plan ≡ st.plan) × ((log : List (law.Call × law.Answer)) (s : Switch) → Moment M st log s → (next : Switch) × Moment M after ((law.step room, a) ∷ log) next)
  step_obeys M st kept after next n room d new r a most few so is =
      let old = take n (replicate 16 d) in
      let long : length old ≡ n = length-take-le n (replicate 16 d) (omega (arith, most, length-replicate 16 d)) in (
        step_plan answer told st kept after next old new r so,
        (λ log s m.
            let on = step_carries_room answer told picks-tied M st kept after next old new r room (λ l. omega (arith, long, most, l, few)) (λ l. omega (arith, long, most, l)) so log s m in
            (on.0, subst (λ (x : law.Answer). Moment M after ((law.step room, x) ∷ log) on.0) is on.2)),
      )
