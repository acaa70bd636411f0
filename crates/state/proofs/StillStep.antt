-- A step in a still state (`Still`) starts nothing and lists nothing: it changes the clock only, and tells the rule nothing.
use Rattle.std.proofs.Common.{◌≡◌, ℕ, zero, suc, ◌+◌, ◌<◌, ◌≤◌, Bool, true, false, List, [], ◌++◌, map, length, get_or, None, Option, sym, refl, ap, ◌∙◌, subst, ⊎_elim, add-one, arith, Some}
use Rattle.std.proofs.lemmas.List.{get_or-map, get_or_past, length-map}
use Rattle.std.proofs.lemmas.Bool.{cases_lt, ne_eqb}
use Rattle.timing.specs.Marks.{tied, stands_first}
use Rattle.timing.specs.Stamps.{earlier}
use Rattle.timing.specs.declared.Stamp.{Stamp}
use Rattle.tie.specs.PicksTied.{PicksTied}
use Rattle.tie.specs.Positions.{Untied}
use Rattle.law.specs.Rules.{Rule, KeptAfter, asked}
use Rattle.departure.specs.declared.Departure.{Departure}
use Rattle.state.specs.State.{State}
use Rattle.state.specs.Crosses.{marks_across, question_across, mark_across, next_across, choice_across, crossed_by, Crosses, Crossings, none_crossed, one_more}
use Rattle.state.specs.Sends.{marks_out, question_out, mark_out, next_out, choice_out, sent_by, Sends, Sendings, none_sent, one_more_sent, ticked, Stepped}
use Rattle.state.specs.Finishes.{ends_at, leaving, finished, finished_with, listed_with, finish_to, listed_to}
use Rattle.state.proofs.Lists.{row_none}
use Rattle.state.proofs.NextEvent.{across_not, out_not, first_at}
use Rattle.state.specs.Ready.{across_from, out_from}
use Rattle.state.specs.Due.{across_due, out_due}
use Rattle.state.specs.Quiet.{at_tick, Still, QuietSteps}
use Rattle.state.specs.Lines.{until_of, busy_at, Line}

-- a row without marks has no ties
untied_row : (row : List (Option Stamp)) → ((k : ℕ) → get_or row k None ≡ None) → Untied (tied earlier row)
untied_row row h k l =
    ⊎_elim
    (λ (here : k < length row). get_or-map (stands_first earlier row) row k None false here ∙ ap (stands_first earlier row) (h k))
    (λ (past : length row ≤ k). get_or_past (map (stands_first earlier row) row) k false (omega (arith, length-map row (stands_first earlier row), past)))
    (cases_lt k (length row))

-- a line that falls free at another tick
none_ends : (t : ℕ) (line : Line Departure) → (until_of line ≡ t → ⊥) → ends_at t line ≡ None
none_ends t None h = refl
none_ends t (Some b) h = rw (ne_eqb b.until t h)

module _ {K : Type 0} (answer : K → Rule) (told : K → ℕ → ℕ → K → Type 0)
    (picks-tied : (k : K) → PicksTied (answer k)) where
  module _ (st : State) (kept : K) where
    -- an input at which no packet is ready while it is free, and an output
    none_across : (i : ℕ) → ((j : ℕ) → j < 16 → busy_at st.clock (st.crossing i) ≡ false → mark_across st.clock (next_across st i j) ≡ None) → choice_across answer told st kept i ≡ None
    unfolding marks_across
    none_across i none = go (busy_at st.clock (st.crossing i)) refl
      where
        go : (b : Bool) → busy_at st.clock (st.crossing i) ≡ b → asked (answer kept) i b (question_across st i) ≡ None
        go true e = refl
        go false e = ((picks-tied kept).none i (question_across st i)).1 (untied_row (marks_across st i) (row_none (λ j. mark_across st.clock (next_across st i j)) 16 (λ j hj. none j hj e)))

    none_out : (j : ℕ) → ((i : ℕ) → i < 16 → busy_at st.clock (st.sending j) ≡ false → mark_out st.plan.size.longest st.clock (next_out st i j) ≡ None) → choice_out answer told st kept j ≡ None
    unfolding marks_out
    none_out j none = go (busy_at st.clock (st.sending j)) refl
      where
        go : (b : Bool) → busy_at st.clock (st.sending j) ≡ b → asked (answer kept) (st.plan.size.ports + j) b (question_out st j) ≡ None
        go true e = refl
        go false e = ((picks-tied kept).none (st.plan.size.ports + j) (question_out st j)).1 (untied_row (marks_out st j) (row_none (λ i. mark_out st.plan.size.longest st.clock (next_out st i j)) 16 (λ i hi. none i hi e)))

    -- it starts nothing
    crosses_none : (i : ℕ) → choice_across answer told st kept i ≡ None → Crosses answer told i st kept st kept
    crosses_none i none = record { state = ap (λ (o : Option ℕ). crossed_by o st i) (sym none); rule = subst (λ (o : Option ℕ). KeptAfter answer told kept i o kept) (sym none) refl }

    sends_none : (j : ℕ) → choice_out answer told st kept j ≡ None → Sends answer told j st kept st kept
    sends_none j none = record { state = ap (λ (o : Option ℕ). sent_by o st j) (sym none); rule = subst (λ (o : Option ℕ). KeptAfter answer told kept (st.plan.size.ports + j) o kept) (sym none) refl }

    -- as before the tick from which on it may start something
    pub crosses_early : (i : ℕ) → st.clock < across_due st.lists st.ledgers i → Crosses answer told i st kept st kept
    crosses_early i early = crosses_none i (none_across i (λ j hj free. across_not st.clock (next_across st i j) (λ x e. omega (arith, early, first_at (λ k. across_from (next_across st i k)) 16 j x hj e))))

    pub sends_early : (j : ℕ) → st.clock < out_due st.plan.size.longest st.lists j → Sends answer told j st kept st kept
    sends_early j early =
        let L = st.plan.size.longest in
        sends_none j (none_out j (λ i hi free. out_not L st.clock (next_out st i j) (λ x e. omega (arith, early, first_at (λ k. out_from L (next_out st k j)) 16 i x hi e))))

  module _ (st : State) (kept : K) (still : Still st) where
    crossings_none : (n : ℕ) → n ≤ st.plan.size.ports → Crossings answer told st kept n st kept
    crossings_none zero l = none_crossed
    crossings_none (suc n) l =
        subst (λ m. Crossings answer told st kept m st kept) (add-one n)
        (one_more (crossings_none n (omega (arith, l))) (crosses_none st kept n (none_across st kept n (λ j hj. still.inputs n j (omega (arith, l)) hj))))

    sendings_none : (n : ℕ) → n ≤ st.plan.size.ports → Sendings answer told st kept n st kept
    sendings_none zero l = none_sent
    sendings_none (suc n) l =
        subst (λ m. Sendings answer told st kept m st kept) (add-one n)
        (one_more_sent (sendings_none n (omega (arith, l))) (sends_none st kept n (none_out st kept n (λ i hi. still.outputs i n hi (omega (arith, l))))))

    finish_none : (n : ℕ) → n ≤ st.plan.size.ports → (finish_to n (ticked st) ≡ ticked st) × (listed_to n (ticked st) ≡ [])
    unfolding finish_to listed_to
    finish_none zero l = (refl, refl)
    finish_none (suc n) l =
        let before = finish_none n (omega (arith, l)) in
        let none : leaving (ticked st) n ≡ None = none_ends (st.clock + 1) (st.sending n) (still.stays n (omega (arith, l))) in
        let left : leaving (finish_to n (ticked st)) n ≡ None = ap (λ (x : State). leaving x n) before.0 ∙ none in (
          ap (λ (x : State). finished x n) before.0 ∙ ap (λ (o : Option Departure). finished_with o (ticked st) n) none,
          (λ k. before.1 k ++ listed_with (left k)),
        )

    pub still_step : Stepped answer told st kept (ticked st) kept []
    still_step =
        let done = finish_none st.plan.size.ports (omega arith) in
        record {
          crossed = st;
          between = kept;
          sent = st;
          inputs = crossings_none st.plan.size.ports (omega arith);
          outputs = sendings_none st.plan.size.ports (omega arith);
          state = sym done.0;
          leaves = sym done.1;
        }

  pub quiet_steps : (st : State) (kept : K) (k : ℕ) → ((t : ℕ) → st.clock ≤ t → t < st.clock + k → Still (at_tick t st)) → QuietSteps answer told st kept k
  quiet_steps st kept k still m l = still_step (at_tick (st.clock + m) st) kept (still (st.clock + m) (omega arith) (omega (arith, l)))
