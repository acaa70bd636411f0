-- A tie rule asked in order in a tick keeps what the replay says it keeps. Assumes nothing.
use Rattle.std.proofs.Common.{◌≡◌, ℕ, zero, suc, ◌+◌, ◌*◌, ◌<◌, ◌≤◌, Bool, true, false, cond, ltb, Some, None, Option, sym, refl, ap, ◌∙◌, ⊎_elim, add-one, arith}
use mathlib.Core.Path.{fun_ext}
use Rattle.std.proofs.lemmas.Bool.{cases_lt, le-ltb, cond-false}
use Rattle.tie.specs.declared.question.Question.{Question}
use Rattle.law.specs.Step.{Plan, Switch, after_tick}
use Rattle.law.specs.Rules.{Rule, asked, AsksInOrder, KeptAfter, answers_in_order, crossing_choice, sending_choice}
use Rattle.replay.specs.Kinds.{Kind, KeepsNext, kept_after, IsNext}
use Rattle.replay.specs.Replay.{kept_next, kept_at, next_switch}
use Rattle.replay.specs.Laws.{AskingIsReplay}

-- a rule is asked at its line's code alone
line_alike : (rule other : Rule) (code : ℕ) → rule code ≡ other code → (below busy : Bool) (question : Question) →
    cond below (asked rule code busy question) None ≡ cond below (asked other code busy question) None
line_alike rule other code same below true question = refl
line_alike rule other code same below false question = ap (λ f. cond below (asked (λ _. f) code false question) None) same

module _ (plan : Plan) (s : Switch) (rule other : Rule) (same : (code : ℕ) → code < 2 * plan.ports → rule code ≡ other code) where
  crossing_alike : crossing_choice plan s rule ≡ crossing_choice plan s other
  crossing_alike =
      fun_ext (λ i.
      ⊎_elim
      (λ (l : i < plan.ports). line_alike rule other i (same i (omega arith)) _ _ _)
      (λ (l : plan.ports ≤ i). cond-false (ltb i plan.ports) _ None (le-ltb i plan.ports l) ∙ sym (cond-false (ltb i plan.ports) _ None (le-ltb i plan.ports l)))
      (cases_lt i plan.ports))

  sending_alike : sending_choice plan s rule ≡ sending_choice plan s other
  sending_alike =
      fun_ext (λ j.
      ⊎_elim
      (λ (l : j < plan.ports). line_alike rule other (plan.ports + j) (same (plan.ports + j) (omega arith)) _ _ _)
      (λ (l : plan.ports ≤ j). cond-false (ltb j plan.ports) _ None (le-ltb j plan.ports l) ∙ sym (cond-false (ltb j plan.ports) _ None (le-ltb j plan.ports l)))
      (cases_lt j plan.ports))

  starts_alike : after_tick plan s (crossing_choice plan s rule) (sending_choice plan s rule) ≡ after_tick plan s (crossing_choice plan s other) (sending_choice plan s other)
  starts_alike = λ k. after_tick plan s (crossing_alike k) (sending_alike k)

module _ {K : Type 0} (plan : Plan) (kind : Kind K) where
  pub kept_more : (s : Switch) (kept : K) (code : ℕ) → kept_at plan kind s kept (code + 1) ≡ kept_next plan kind s code (kept_at plan kind s kept code)
  unfolding kept_at
  kept_more s kept code = ap (kept_at plan kind s kept) (add-one code)

  -- the law's order of questions holds of it
  kept_by : (kept : K) (code : ℕ) (o : Option ℕ) (next : K) → next ≡ kept_after kind code kept o → KeptAfter kind.answer (IsNext kind) kept code o next
  kept_by kept code None next e = e
  kept_by kept code (Some winner) next e = e

  pub asks_in_order : (s : Switch) (kept : K) → AsksInOrder kind.answer (IsNext kind) plan s kept (kept_at plan kind s kept)
  unfolding kept_at
  asks_in_order s kept = record { begins = refl; goes_on = λ code _. kept_by _ code _ _ (kept_more s kept code) }

  -- and of nothing else
  module _ (told : K → ℕ → ℕ → K → Type 0) (only : KeepsNext told kind.next)
      (s : Switch) (first : K) (kept : ℕ → K) (order : AsksInOrder kind.answer told plan s first kept) where
    by_kept : (now : K) (code : ℕ) (o : Option ℕ) (next : K) → KeptAfter kind.answer told now code o next → next ≡ kept_after kind code now o
    by_kept now code None next h = h
    by_kept now code (Some winner) next h = only now code winner next h

    pub kept_same : (code : ℕ) → code ≤ 2 * plan.ports → kept code ≡ kept_at plan kind s first code
    unfolding kept_at
    kept_same zero h = order.begins
    kept_same (suc code) h =
        let before = kept_same code (omega arith) in
        let next : kept (suc code) ≡ kept_next plan kind s code (kept code) = ap kept (sym (add-one code)) ∙ by_kept (kept code) code _ _ (order.goes_on code (omega arith)) in
        next ∙ ap (kept_next plan kind s code) before

    answers_same : (code : ℕ) → code < 2 * plan.ports → answers_in_order kind.answer told kept code ≡ answers_in_order kind.answer (IsNext kind) (kept_at plan kind s first) code
    answers_same code h = ap (λ k. kind.answer k code) (kept_same code (omega arith))

    pub switch_same : after_tick plan s (crossing_choice plan s (answers_in_order kind.answer told kept)) (sending_choice plan s (answers_in_order kind.answer told kept)) ≡ next_switch plan kind s first
    switch_same = starts_alike plan s (answers_in_order kind.answer told kept) (answers_in_order kind.answer (IsNext kind) (kept_at plan kind s first)) answers_same

pub asking_is_replay : {K : Type 0} (told : K → ℕ → ℕ → K → Type 0) → AskingIsReplay told
asking_is_replay told plan kind only x kept order =
    (kept_same plan kind told only x.switch x.kept kept order (2 * plan.ports) (omega arith), switch_same plan kind told only x.switch x.kept kept order)
