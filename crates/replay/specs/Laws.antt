-- What is proved of the named signs, and of a rule that is asked in order.
use Rattle.std.specs.Prelude.{◌≡◌, ℕ, ◌*◌}
use Rattle.law.specs.Step.{Plan, after_tick}
use Rattle.tie.specs.PicksTied.{PicksTied}
use Rattle.law.specs.Rules.{Rule, AsksInOrder, answers_in_order, crossing_choice, sending_choice}
use Rattle.law.specs.Promises.{Bookable}
use Rattle.replay.specs.Kinds.{Kind, KeepsNext, SignFits, rings_sign, pool_sign}
use Rattle.replay.specs.Replay.{Replayed, run_tick}

-- the signs of rings and of a pool fit stores of the sizes that these state
abbrev pub SignsFit : Type 0
SignsFit = (plan : Plan) → Bookable plan → SignFits plan 2 2 rings_sign × SignFits plan 512 512 pool_sign

-- A rule of the kit, by its answers and by what it may keep once told a winner, is the rule of a kind.
pub record IsRuleOf {K : Type 0} (answer : K → Rule) (told : K → ℕ → ℕ → K → Type 0) (kind : Kind K) : Type 0 where
  pub answers : kind.answer ≡ answer
  pub keeps : KeepsNext told kind.next
  pub picks : (kept : K) → PicksTied (kind.answer kept)

-- A tie rule whose `told` leaves it no choice of what it keeps next: asked in order in a tick, it keeps, and starts, what the
-- replay says.
abbrev pub AskingIsReplay : {K : Type 0} → (K → ℕ → ℕ → K → Type 0) → Type 0
AskingIsReplay {K} told =
    (plan : Plan) (kind : Kind K) → KeepsNext told kind.next → (x : Replayed K) (kept : ℕ → K) → AsksInOrder kind.answer told plan x.switch x.kept kept →
    (kept (2 * plan.ports) ≡ (run_tick plan kind x).kept)
    × (after_tick plan x.switch (crossing_choice plan x.switch (answers_in_order kind.answer told kept)) (sending_choice plan x.switch (answers_in_order kind.answer told kept)) ≡ (run_tick plan kind x).switch)
