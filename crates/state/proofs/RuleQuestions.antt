-- What a step asks its rule is what the law has it asked: the same marks are tied, and the same bytes wait.
use Rattle.std.proofs.Common.{◌≡◌, ℕ, ◌+◌, ◌-◌, ◌<◌, ◌≤◌, Bool, true, false, ltb, List, map, length, None, Option, sym, refl, ap, ◌∙◌, ⊎_elim}
use mathlib.Core.Path.{fun_ext}
use Rattle.std.specs.List.{range_with_len}
use Rattle.std.proofs.lemmas.Bool.{cases_lt, lt-ltb, le-ltb, ltb-false, cond-true, cond-false}
use Rattle.std.proofs.lemmas.Simd.{map-map}
use Rattle.timing.specs.Marks.{tied}
use Rattle.timing.specs.declared.Stamp.{Stamp}
use Rattle.law.specs.Plans.{plan_of}
use Rattle.law.specs.Rules.{Rule, bytes_at_input, bytes_at_output, asked, of_16, input_question, output_question}
use Rattle.law.specs.Runs.{Call, Answer}
use Rattle.law.specs.Step.{Switch, sooner, input_mark, output_mark}
use Rattle.state.specs.State.{State}
use Rattle.state.specs.Lines.{busy_at}
use Rattle.state.specs.Crosses.{mark_across, next_across, marks_across, waits_across, question_across, choice_across}
use Rattle.state.specs.Sends.{mark_out, next_out, crossing_bytes, marks_out, waits_out, question_out, choice_out}
use Rattle.state.specs.Shows.{Moment}
use Rattle.state.proofs.AfterInputStarts.{InputsStart}
use Rattle.state.proofs.InputMarks.{as_finish, tied_same, no_mark, input_mark_same}
use Rattle.state.proofs.OutputMarks.{output_mark_same, output_mark_none}
use Rattle.state.proofs.ShownFlows.{not_column, input_busy, output_busy}
use Rattle.state.proofs.WaitingBytes.{wait_at_input, wait_at_output, no_wait_at_output, empty_at_input}

-- a function that is d from n on
from_16 : {X : Type 0} (d : X) (n : ℕ) (f g : ℕ → X) → ((k : ℕ) → k < n → f k ≡ g k) → ((k : ℕ) → n ≤ k → f k ≡ d) → map f (range_with_len 0 16) ≡ of_16 d n g
from_16 d n f g low high =
    ap (λ (q : ℕ → _). map q (range_with_len 0 16))
    (fun_ext (λ k.
    ⊎_elim (λ (l : k < n). low k l ∙ sym (cond-true (ltb k n) (g k) d (lt-ltb k n l))) (λ (l : n ≤ k). high k l ∙ sym (cond-false (ltb k n) (g k) d (le-ltb k n l))) (cases_lt k n)))

module _ {M : ℕ} {st : State} {log : List (Call × Answer)} {s : Switch} (now : Moment M st log s) where
  marks_in : (i : ℕ) → map as_finish (marks_across st i) ≡ of_16 None st.plan.size.ports (input_mark (plan_of st.plan) s i)
  unfolding marks_across
  marks_in i =
      let g : ℕ → Option Stamp = λ j. mark_across st.clock (next_across st i j) in
      map-map as_finish g (range_with_len 0 16)
      ∙ from_16 None st.plan.size.ports (λ j. as_finish (g j)) (input_mark (plan_of st.plan) s i)
      (λ j _. input_mark_same now i j)
      (λ j out. input_mark_same now i j ∙ no_mark _ _ _ (s.flow i j).accepted (length (s.flow i j).crossings) (now.shows.outside i j (not_column st.plan i j out)))

  waits_in : (i : ℕ) → waits_across st i ≡ of_16 0 st.plan.size.ports (λ j. bytes_at_input (s.flow i j))
  unfolding waits_across
  waits_in i =
      from_16 0 st.plan.size.ports (λ j. (st.ledgers i j).accepted - (st.ledgers i j).started) (λ j. bytes_at_input (s.flow i j))
      (λ j _. wait_at_input now i j)
      (λ j out. wait_at_input now i j ∙ empty_at_input now i j (now.shows.outside i j (not_column st.plan i j out)))

  question_in : (i : ℕ) → question_across st i ≡ input_question (plan_of st.plan) s i
  question_in i = λ x. record { tied = (sym (tied_same (marks_across st i)) ∙ ap (tied sooner) (marks_in i)) x; waiting = waits_in i x }

  -- at an input
  pub asks_in : {K : Type 0} (answer : K → Rule) (told : K → ℕ → ℕ → K → Type 0) (k : K) (i : ℕ) → i < st.plan.size.ports →
      choice_across answer told st k i ≡ asked (answer k) i (ltb s.clock (s.crossing_until i)) (input_question (plan_of st.plan) s i)
  asks_in answer told k i hi = λ x. asked (answer k) i (input_busy now.shows i hi x) (question_in i x)

  module _ {cross : ℕ → Option ℕ} {mid : State} (ins : InputsStart st s cross mid) where
    marks_at : (j : ℕ) → j < st.plan.size.ports → s.sending_until j ≤ s.clock → map as_finish (marks_out mid j) ≡ of_16 None st.plan.size.ports (output_mark (plan_of st.plan) s j)
    unfolding marks_out
    marks_at j hj free =
        let g : ℕ → Option Stamp = λ i. mark_out mid.plan.size.longest mid.clock (next_out mid i j) in
        map-map as_finish g (range_with_len 0 16)
        ∙ from_16 None st.plan.size.ports (λ i. as_finish (g i)) (output_mark (plan_of st.plan) s j) (λ i hi. output_mark_same now ins i j hi hj free) (λ i out. output_mark_none now ins i j out)

    waits_at : (j : ℕ) → j < st.plan.size.ports → s.sending_until j ≤ s.clock → waits_out mid j ≡ of_16 0 st.plan.size.ports (λ i. bytes_at_output s.clock (s.flow i j))
    unfolding waits_out
    waits_at j hj free =
        from_16 0 st.plan.size.ports (λ i. (mid.ledgers i j).started - (mid.ledgers i j).departed - crossing_bytes mid i j) (λ i. bytes_at_output s.clock (s.flow i j))
        (λ i hi. wait_at_output now ins i j hi hj free) (λ i out. no_wait_at_output now ins i j out)

    question_at : (j : ℕ) → j < st.plan.size.ports → s.sending_until j ≤ s.clock → question_out mid j ≡ output_question (plan_of st.plan) s j
    question_at j hj free = λ x. record { tied = (sym (tied_same (marks_out mid j)) ∙ ap (tied sooner) (marks_at j hj free)) x; waiting = waits_at j hj free x }

    -- at an output
    pub asks_out : {K : Type 0} (answer : K → Rule) (told : K → ℕ → ℕ → K → Type 0) (k : K) (j : ℕ) → j < st.plan.size.ports →
        choice_out answer told mid k j ≡ asked (answer k) (st.plan.size.ports + j) (ltb s.clock (s.sending_until j)) (output_question (plan_of st.plan) s j)
    asks_out answer told k j hj =
        let busy : busy_at mid.clock (mid.sending j) ≡ ltb s.clock (s.sending_until j) = (λ x. busy_at (ins.done.beside.clock_is x) (ins.done.beside.sending_is x j)) ∙ output_busy now.shows j hj in
        (λ x. asked (answer k) ((ins.done.beside.plan_is x).size.ports + j) (busy x) (question_out mid j)) ∙ by (ltb s.clock (s.sending_until j)) refl
      where
        by : (b : Bool) → ltb s.clock (s.sending_until j) ≡ b → asked (answer k) (st.plan.size.ports + j) b (question_out mid j)
            ≡ asked (answer k) (st.plan.size.ports + j) b (output_question (plan_of st.plan) s j)
        by true e = refl
        by false e = ap (answer k (st.plan.size.ports + j)) (question_at j hj (ltb-false s.clock (s.sending_until j) e))
