-- The turns of the outputs, taken together. An output's turn changes its own line only, so each chooses as it would have chosen before
-- the first turn.
use Rattle.std.proofs.Common.{◌≡◌, ℕ, ◌+◌, ◌%◌, ◌^◌, ◌≤◌, cond, eqb, Some, None, Option, sym, refl, ap, ◌∙◌, subst, ⊎_elim, arith}
use Rattle.std.proofs.lemmas.Bool.{cases_eq, eq-eqb, ne_eqb}
use Rattle.store.specs.declared.packet.Packet.{Packet}
use Rattle.departure.specs.declared.Departure.{Departure}
use Rattle.law.specs.Rules.{Rule, asked, KeptAfter}
use Rattle.state.specs.State.{State}
use Rattle.state.specs.Lines.{busy_at, Line, busy}
use Rattle.state.specs.Sends.{marks_out, waits_out, question_out, next_out, departure_of, sent_with, sent_by, choice_out, Sendings, none_sent, one_more_sent}
use Rattle.state.proofs.Lists.{cond_both}
use Rattle.state.proofs.RuleInTurn.{InTurn, no_turn, more_turn}

-- a state with other lines at its outputs
abbrev pub with_sending : State → (ℕ → Line Departure) → State
with_sending st lines = record st { sending = lines }

-- the line of output j once it has started this packet
abbrev pub line_with : Option Packet → State → ℕ → ℕ → Line Departure → Line Departure
line_with None st i j old = old
line_with (Some p) st i j old = busy (departure_of st.clock i j p) ((st.clock + p.bytes) % 2 ^ 64)

abbrev pub line_by : Option ℕ → State → ℕ → Line Departure → Line Departure
line_by None st j old = old
line_by (Some i) st j old = line_with (next_out st i j) st i j old

started_alone : (o : Option Packet) (st : State) (lines : ℕ → Line Departure) (i j : ℕ) → (a : ℕ) →
    (sent_with o (with_sending st lines) i j ≡ with_sending st (sent_with o (with_sending st lines) i j).sending) × ((sent_with o (with_sending st lines) i j).sending a ≡ cond (eqb a j) (line_with o st i j (lines a)) (lines a))
started_alone None st lines i j a = (refl, sym (cond_both (eqb a j) (lines a)))
started_alone (Some p) st lines i j a = (refl, refl)

-- a turn changes one line
turn_alone : (o : Option ℕ) (st : State) (lines : ℕ → Line Departure) (j a : ℕ) →
    (sent_by o (with_sending st lines) j ≡ with_sending st (sent_by o (with_sending st lines) j).sending) × ((sent_by o (with_sending st lines) j).sending a ≡ cond (eqb a j) (line_by o st j (lines a)) (lines a))
turn_alone None st lines j a = (refl, sym (cond_both (eqb a j) (lines a)))
turn_alone (Some i) st lines j a = started_alone (next_out st i j) st lines i j a

-- the state after each output has started what is chosen there, of the state before
pub record OutputsDone (st : State) (send : ℕ → Option ℕ) (after : State) : Type 0 where
  pub beside : after ≡ with_sending st after.sending
  pub lines : (j : ℕ) → after.sending j ≡ line_by (send j) st j (st.sending j)

module _ {K : Type 0} (answer : K → Rule) (told : K → ℕ → ℕ → K → Type 0) where
  abbrev line_choice : State → Line Departure → K → ℕ → Option ℕ
  line_choice st line kept j = asked (answer kept) (st.plan.size.ports + j) (busy_at st.clock line) (question_out st j)

  choice_line : (st : State) (lines : ℕ → Line Departure) (kept : K) (j : ℕ) → choice_out answer told (with_sending st lines) kept j ≡ line_choice st (lines j) kept j
  unfolding marks_out waits_out
  choice_line st lines kept j = refl

  choice_same : (st : State) (lines : ℕ → Line Departure) (k : K) (n : ℕ) → lines n ≡ st.sending n → choice_out answer told (with_sending st lines) k n ≡ choice_out answer told st k n
  choice_same st lines k n e = choice_line st lines k n ∙ ap (λ (x : Line Departure). line_choice st x k n) e ∙ sym (choice_line st st.sending k n)

  more_done : (n : ℕ) (st : State) (lines : ℕ → Line Departure) (k : K) (send : ℕ → Option ℕ) → ((j : ℕ) → n ≤ j → send j ≡ None) → OutputsDone st send (with_sending st lines) →
      OutputsDone st (λ j. cond (eqb j n) (choice_out answer told st k n) (send j)) (sent_by (choice_out answer told (with_sending st lines) k n) (with_sending st lines) n)
  more_done n st lines k send none m =
      let o = choice_out answer told st k n in
      let o' = choice_out answer told (with_sending st lines) k n in
      let here : lines n ≡ st.sending n = m.lines n ∙ ap (λ (x : Option ℕ). line_by x st n (st.sending n)) (none n (omega arith)) in
      let same : o' ≡ o = choice_same st lines k n here in
      record {
        beside = (turn_alone o' st lines n n).0;
        lines = λ j.
            (turn_alone o' st lines n j).1
            ∙ ⊎_elim
            (λ (e : j ≡ n).
            subst (λ a. cond (eqb a n) (line_by o' st n (lines a)) (lines a) ≡ line_by (cond (eqb a n) o (send a)) st a (st.sending a)) (sym e)
            (ap (λ v. cond v (line_by o' st n (lines n)) (lines n)) (eq-eqb n n refl) ∙ (λ x. line_by (same x) st n (here x)) ∙ ap (λ v. line_by (cond v o (send n)) st n (st.sending n)) (sym (eq-eqb n n refl))))
            (λ (ne : j ≡ n → ⊥).
            ap (λ v. cond v (line_by o' st n (lines j)) (lines j)) (ne_eqb j n ne) ∙ m.lines j ∙ ap (λ v. line_by (cond v o (send j)) st j (st.sending j)) (sym (ne_eqb j n ne)))
            (cases_eq j n);
      }

  -- what the first n outputs choose, one after another, and what the rule keeps on the way
  pub record OutputsTurned (st : State) (kept : K) (n : ℕ) (after : State) (k : K) : Type 0 where
    pub send : ℕ → Option ℕ
    pub done : OutputsDone st send after
    pub ks : ℕ → K
    pub in_turn : InTurn answer told (choice_out answer told st) (λ j. st.plan.size.ports + j) kept n k send ks

  pub output_turns : {st : State} {kept : K} {n : ℕ} {after : State} {k : K} → Sendings answer told st kept n after k → OutputsTurned st kept n after k
  output_turns {st} {kept} none_sent =
      record {
        send = λ _. None;
        done = record { beside = refl; lines = λ j. refl };
        ks = λ _. kept;
        in_turn = no_turn answer told (choice_out answer told st) (λ j. st.plan.size.ports + j) kept;
      }
  output_turns {st} {kept} (one_more_sent {n = n} {mid = mid} {after = after} {k = k} {next = next} d c) =
      let before = output_turns d in
      let lines = mid.sending in
      let at : mid ≡ with_sending st lines = before.done.beside in
      let none = before.in_turn.none in
      let so : OutputsDone st before.send (with_sending st lines) = subst (OutputsDone st before.send) at before.done in
      let here : lines n ≡ st.sending n = before.done.lines n ∙ ap (λ (x : Option ℕ). line_by x st n (st.sending n)) (none n (omega arith)) in
      let state : after ≡ sent_by (choice_out answer told (with_sending st lines) k n) (with_sending st lines) n = c.state ∙ ap (λ (x : State). sent_by (choice_out answer told x k n) x n) at in
      let told-there : KeptAfter answer told k (st.plan.size.ports + n) (choice_out answer told (with_sending st lines) k n) next = subst (λ (x : State). KeptAfter answer told k (x.plan.size.ports + n) (choice_out answer told x k n) next) at c.rule in
      let rule = subst (λ (o : Option ℕ). KeptAfter answer told k (st.plan.size.ports + n) o next) (choice_same st lines k n here) told-there in
      record {
        send = λ j. cond (eqb j n) (choice_out answer told st k n) (before.send j);
        done = subst (OutputsDone st (λ j. cond (eqb j n) (choice_out answer told st k n) (before.send j))) (sym state) (more_done n st lines k before.send none so);
        ks = λ j. cond (eqb j (n + 1)) next (before.ks j);
        in_turn = more_turn answer told (choice_out answer told st) (λ j. st.plan.size.ports + j) kept n k next before.send before.ks before.in_turn rule;
      }
