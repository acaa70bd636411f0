-- A step asks its rule as the law has it asked, port after port, so what starts is what the law lets start.
use Rattle.std.proofs.Common.{◌≡◌, ℕ, ◌+◌, ◌-◌, ◌*◌, ◌<◌, ◌≤◌, Bool, true, false, cond, ltb, List, None, Option, sym, refl, ap, ◌∙◌, subst, ⊎_elim, arith}
use mathlib.Core.Path.{fun_ext}
use native.Mathlib.Nat.{le_dest}
use Rattle.std.proofs.lemmas.Bool.{cases_lt, lt-ltb, le-ltb, cond-true, cond-false}
use Rattle.plan.specs.declared.table.Plan as kit
use Rattle.tie.specs.PicksTied.{PicksTied}
use Rattle.tie.specs.declared.question.Question.{Question}
use Rattle.departure.specs.declared.Departure.{Departure}
use Rattle.law.specs.Plans.{plan_of}
use Rattle.law.specs.Rules.{Rule, asked, choice, KeptAfter, AsksInOrder, answers_in_order, crossing_choice, sending_choice}
use Rattle.law.specs.Runs.{Call, Answer}
use Rattle.law.specs.Step.{Switch, Starts}
use Rattle.law.proofs.RuleAnswers.{rules_make_steps}
use Rattle.state.specs.State.{State}
use Rattle.state.specs.Crosses.{choice_across}
use Rattle.state.specs.Sends.{choice_out, Stepped}
use Rattle.state.specs.Shows.{Moment}
use Rattle.state.proofs.AfterInputStarts.{InputsStart}
use Rattle.state.proofs.AfterOutputStarts.{AllStart}
use Rattle.state.proofs.InputTurns.{input_turns}
use Rattle.state.proofs.OutputTurns.{output_turns}
use Rattle.state.proofs.RuleInTurn.{InTurn, kept_as}
use Rattle.state.proofs.RuleQuestions.{asks_in, asks_out}
use Rattle.state.proofs.ShownFlows.{plan_bookable}

-- first n of one function, then the other
joins : {X : Type 0} → ℕ → (ℕ → X) → (ℕ → X) → ℕ → X
joins n f g code = cond (ltb code n) (f code) (g (code - n))

joins_in : {X : Type 0} (n : ℕ) (f g : ℕ → X) (code : ℕ) → code < n → joins n f g code ≡ f code
unfolding joins
joins_in n f g code l = cond-true (ltb code n) (f code) (g (code - n)) (lt-ltb code n l)

joins_out : {X : Type 0} (n : ℕ) (f g : ℕ → X) (j : ℕ) → joins n f g (n + j) ≡ g j
unfolding joins
joins_out n f g j =
    let z : n + j - n ≡ j = omega arith in
    cond-false (ltb (n + j) n) (f (n + j)) (g (n + j - n)) (le-ltb (n + j) n (omega arith)) ∙ ap g z

joins_next : {X : Type 0} (n : ℕ) (f g : ℕ → X) → f n ≡ g 0 → (code : ℕ) → code < n → joins n f g (code + 1) ≡ f (code + 1)
joins_next n f g e code l =
    ⊎_elim
    (λ (m : code + 1 < n). joins_in n f g (code + 1) m)
    (λ (m : n ≤ code + 1).
    let z : code + 1 ≡ n + 0 = omega (arith, m, l) in
    let y : n ≡ code + 1 = omega (arith, m, l) in
    ap (joins n f g) z ∙ joins_out n f g 0 ∙ sym e ∙ ap f y)
    (cases_lt (code + 1) n)

module _ {K : Type 0} (answer : K → Rule) (told : K → ℕ → ℕ → K → Type 0) (picks-tied : (k : K) → PicksTied (answer k)) where
  asked_at : (ks : ℕ → K) (code : ℕ) (b : Bool) (question : Question) → asked (answer (ks code)) code b question ≡ asked (answers_in_order answer told ks) code b question
  asked_at ks code true question = refl
  asked_at ks code false question = refl

  module _ {M : ℕ} {st : State} {log : List (Call × Answer)} {s : Switch} (now : Moment M st log s) where
    -- the answers are starts of the law
    make_starts : (ks : ℕ → K) → Starts (plan_of st.plan) s (crossing_choice (plan_of st.plan) s (answers_in_order answer told ks)) (sending_choice (plan_of st.plan) s (answers_in_order answer told ks))
    make_starts ks =
        rules_make_steps (plan_of st.plan) M (plan_bookable st.plan) log s now.run (answers_in_order answer told ks)
        record { picks = λ code question k e. ((picks-tied (ks code)).picks code question k e).1; none = λ code question e. ((picks-tied (ks code)).none code question).0 e }

    -- what the inputs choose, by what the rule keeps at each
    crossings_are : (ks : ℕ → K) (cross : ℕ → Option ℕ) → ((i : ℕ) → i < st.plan.size.ports → cross i ≡ choice_across answer told st (ks i) i) → ((i : ℕ) → st.plan.size.ports ≤ i → cross i ≡ None) →
        cross ≡ crossing_choice (plan_of st.plan) s (answers_in_order answer told ks)
    crossings_are ks cross asks none =
        fun_ext (λ i.
        ⊎_elim
        (λ (l : i < st.plan.size.ports). asks i l ∙ asks_in now answer told (ks i) i l ∙ asked_at ks i _ _ ∙ sym (cond-true (ltb i st.plan.size.ports) _ None (lt-ltb i st.plan.size.ports l)))
        (λ (l : st.plan.size.ports ≤ i). none i l ∙ sym (cond-false (ltb i st.plan.size.ports) _ None (le-ltb i st.plan.size.ports l)))
        (cases_lt i st.plan.size.ports))

    -- and the outputs
    sendings_are : {cross : ℕ → Option ℕ} {mid : State} (ins : InputsStart st s cross mid) (ks : ℕ → K) (send : ℕ → Option ℕ) → ((j : ℕ) → j < st.plan.size.ports → send j ≡ choice_out answer told mid (ks (st.plan.size.ports + j)) j) → ((j : ℕ) → st.plan.size.ports ≤ j → send j ≡ None) →
        send ≡ sending_choice (plan_of st.plan) s (answers_in_order answer told ks)
    sendings_are ins ks send asks none =
        let n = st.plan.size.ports in
        fun_ext (λ j.
        ⊎_elim
        (λ (l : j < n). asks j l ∙ asks_out now ins answer told (ks (n + j)) j l ∙ asked_at ks (n + j) _ _ ∙ sym (cond-true (ltb j n) _ None (lt-ltb j n l)))
        (λ (l : n ≤ j). none j l ∙ sym (cond-false (ltb j n) _ None (le-ltb j n l)))
        (cases_lt j n))

    -- what starts in a step, and what the rule keeps as it is asked
    pub record StepAsked (kept next : K) (mid sent : State) : Type 0 where
      pub cross : ℕ → Option ℕ
      pub send : ℕ → Option ℕ
      pub all : AllStart st s cross send mid sent
      pub ks : ℕ → K
      pub order : AsksInOrder answer told (plan_of st.plan) s kept ks
      pub last : ks (2 * st.plan.size.ports) ≡ next
      pub cross_is : cross ≡ crossing_choice (plan_of st.plan) s (answers_in_order answer told ks)
      pub send_is : send ≡ sending_choice (plan_of st.plan) s (answers_in_order answer told ks)

    pub step_asked : (kept : K) (after : State) (next : K) (list : List Departure) (x : Stepped answer told st kept after next list) → StepAsked kept next x.crossed x.sent
    step_asked kept after next list x =
        let plan = plan_of st.plan in
        let n = st.plan.size.ports in
        let mid = x.crossed in
        let i = input_turns answer told x.inputs in
        let o = output_turns answer told x.outputs in
        let qin = i.in_turn in
        let ports : mid.plan.size.ports ≡ n = ap (λ (p : kit.Plan). p.size.ports) i.done.beside.plan_is in
        let qout = subst (λ p. InTurn answer told (choice_out answer told mid) (λ j. p + j) x.between p next o.send o.ks) ports o.in_turn in
        let ks = joins n i.ks o.ks in
        let R = answers_in_order answer told ks in
        let inputs-so = crossings_are i.ks i.cross qin.asks qin.none in
        let ins : InputsStart st s i.cross mid = record {
          lawful = (subst (λ (c : ℕ → Option ℕ). Starts plan s c (sending_choice plan s (answers_in_order answer told i.ks))) (sym inputs-so) (make_starts i.ks)).inputs;
          none = qin.none;
          done = i.done;
        } in
        let cross-so : i.cross ≡ crossing_choice plan s R = crossings_are ks i.cross (λ a l. qin.asks a l ∙ ap (λ (k : K). choice_across answer told st k a) (sym (joins_in n i.ks o.ks a l))) qin.none in
        let send-so : o.send ≡ sending_choice plan s R = sendings_are ins ks o.send (λ j l. qout.asks j l ∙ ap (λ (k : K). choice_out answer told mid k j) (sym (joins_out n i.ks o.ks j))) qout.none in
        let meet : i.ks n ≡ o.ks 0 = qin.ends ∙ sym qout.begins in
        let some : 1 ≤ n = st.plan.size.some_ports in
        let twice : 2 * n ≡ n + n = omega arith in
        record {
          cross = i.cross;
          send = o.send;
          all = record { lawful = subst (λ (c : ℕ → Option ℕ). Starts plan s c o.send) (sym cross-so) (subst (Starts plan s (crossing_choice plan s R)) (sym send-so) (make_starts ks)); inputs = i.done; outputs = o.done };
          ks = ks;
          order = record {
            begins = joins_in n i.ks o.ks 0 (omega (arith, some)) ∙ qin.begins;
            goes_on = λ code below.
                ⊎_elim
                (λ (l : code < n).
                kept_as answer told code (sym (joins_in n i.ks o.ks code l))
                (ap (λ (c : ℕ → Option ℕ). c code) cross-so ∙ ap (λ (v : Option ℕ). cond (ltb code n) v None) (sym (asked_at ks code _ _)) ∙ sym (cond-true (ltb code n) (crossing_choice plan s (answer (ks code)) code) _ (lt-ltb code n l)))
                (sym (joins_next n i.ks o.ks meet code l)) (qin.tells code l))
                (λ (l : n ≤ code).
                let d = le_dest l in
                let j = d.0 in
                let lj : j < n = omega (arith, d.1, below) in
                let back : n + j - n ≡ j = omega arith in
                let up : n + (j + 1) ≡ n + j + 1 = omega arith in
                subst (λ c. KeptAfter answer told (ks c) c (choice plan s (answer (ks c)) c) (ks (c + 1))) d.1
                (kept_as answer told (n + j) (sym (joins_out n i.ks o.ks j))
                (ap (λ (c : ℕ → Option ℕ). c j) send-so ∙ ap (λ (v : Option ℕ). cond (ltb j n) v None) (sym (asked_at ks (n + j) _ _))
                ∙ ap (λ c. sending_choice plan s (answer (ks (n + j))) c) (sym back) ∙ sym (cond-false (ltb (n + j) n) _ (sending_choice plan s (answer (ks (n + j))) (n + j - n)) (le-ltb (n + j) n (omega arith))))
                (sym (ap ks (sym up) ∙ joins_out n i.ks o.ks (j + 1)))
                (qout.tells j lj)))
                (cases_lt code n);
          };
          last = ap ks twice ∙ joins_out n i.ks o.ks n ∙ qout.ends;
          cross_is = cross-so;
          send_is = send-so;
        }
