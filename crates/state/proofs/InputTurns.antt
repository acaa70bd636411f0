-- The turns of the inputs, taken together. An input's turn leaves what the other inputs see, so each chooses as it would have chosen
-- before the first turn.
use Rattle.std.proofs.Common.{◌≡◌, ℕ, ◌+◌, ◌-◌, ◌%◌, ◌^◌, ◌≤◌, false, cond, ◌&&◌, eqb, List, map, Some, None, Option, sym, refl, ap, ◌∙◌, subst, ⊎_elim, arith}
use Rattle.std.specs.List.{slice_get, range_with_len}
use Rattle.std.proofs.lemmas.Bool.{cases_eq, eq-eqb, ne_eqb}
use Rattle.timing.specs.Marks.{tied}
use Rattle.timing.specs.Stamps.{earlier}
use Rattle.store.specs.Stored.{noted}
use Rattle.store.specs.declared.packet.Packet.{Packet}
use Rattle.tie.specs.declared.question.Question.{Question}
use Rattle.law.specs.Rules.{Rule, asked, KeptAfter}
use Rattle.state.specs.declared.line.Ledger.{Ledger}
use Rattle.state.specs.State.{State}
use Rattle.state.specs.Lines.{busy_at, Line, busy}
use Rattle.state.specs.Crosses.{mark_across, next_across, marks_across, waits_across, choice_across, starting, crossed_with, crossed_by, Crossings, none_crossed, one_more}
use Rattle.state.proofs.RuleInTurn.{InTurn, no_turn, more_turn}

-- what an input sees of a state: its line, and its flows
pub record Row : Type 0 where
  pub line : Line ℕ
  pub ledgers : ℕ → Ledger
  pub lists : ℕ → List Packet

abbrev pub row : State → ℕ → Row
row st i = record { line = st.crossing i; ledgers = st.ledgers i; lists = st.lists i }

abbrev next_in_row : Row → ℕ → Option Packet
next_in_row r j = slice_get (r.lists j) (r.ledgers j).under_way

-- a row after its input has started a packet
abbrev started_with : Option Packet → ℕ → Row → ℕ → ℕ → Row
started_with None t r i j = r
started_with (Some p) t r i j = record {
  line = cond (eqb i i) (busy j ((t + p.bytes) % 2 ^ 64)) r.line;
  ledgers = λ b. cond (eqb i i && eqb b j) (starting p.bytes (r.ledgers j)) (r.ledgers b);
  lists = λ b. cond (eqb i i && eqb b j) (noted (r.ledgers j).under_way t (r.lists j)) (r.lists b);
}

abbrev row_started : Option ℕ → ℕ → Row → ℕ → Row
row_started None t r i = r
row_started (Some j) t r i = started_with (next_in_row r j) t r i j

with_same : (o : Option Packet) (st : State) (i j : ℕ) → row (crossed_with o st i j) i ≡ started_with o st.clock (row st i) i j
with_same None st i j = refl
with_same (Some p) st i j = refl

row_same : (o : Option ℕ) (st : State) (i : ℕ) → row (crossed_by o st i) i ≡ row_started o st.clock (row st i) i
row_same None st i = refl
row_same (Some j) st i = with_same (next_across st i j) st i j

with_other : (o : Option Packet) (st : State) (i j a : ℕ) → eqb a i ≡ false → row (crossed_with o st i j) a ≡ row st a
with_other None st i j a e = refl
with_other (Some p) st i j a e =
    λ k. record {
      line = cond (e k) (busy j ((st.clock + p.bytes) % 2 ^ 64)) (st.crossing a);
      ledgers = λ b. cond (e k && eqb b j) (starting p.bytes (st.ledgers i j)) (st.ledgers a b);
      lists = λ b. cond (e k && eqb b j) (noted (st.ledgers i j).under_way st.clock (st.lists i j)) (st.lists a b);
    }

row_other : (o : Option ℕ) (st : State) (i a : ℕ) → eqb a i ≡ false → row (crossed_by o st i) a ≡ row st a
row_other None st i a e = refl
row_other (Some j) st i a e = with_other (next_across st i j) st i j a e

-- what a start across leaves as it was
pub record Beside (st mid : State) : Type 0 where
  pub plan_is : mid.plan ≡ st.plan
  pub clock_is : mid.clock ≡ st.clock
  pub sending_is : mid.sending ≡ st.sending
  pub counts_is : mid.counts ≡ st.counts

with_beside : (o : Option Packet) (st : State) (i j : ℕ) → Beside st (crossed_with o st i j)
with_beside None st i j = record { plan_is = refl; clock_is = refl; sending_is = refl; counts_is = refl }
with_beside (Some p) st i j = record { plan_is = refl; clock_is = refl; sending_is = refl; counts_is = refl }

by_beside : (o : Option ℕ) (st : State) (i : ℕ) → Beside st (crossed_by o st i)
by_beside None st i = record { plan_is = refl; clock_is = refl; sending_is = refl; counts_is = refl }
by_beside (Some j) st i = with_beside (next_across st i j) st i j

-- the state after each input has started what is chosen there, of the state before
pub record InputsDone (st : State) (cross : ℕ → Option ℕ) (mid : State) : Type 0 where
  pub beside : Beside st mid
  pub rows : (i : ℕ) → row mid i ≡ row (crossed_by (cross i) st i) i

abbrev row_question : ℕ → Row → Question
row_question t r =
    record {
      tied = tied earlier (map (λ j. mark_across t (next_in_row r j)) (range_with_len 0 16));
      waiting = map (λ j. (r.ledgers j).accepted - (r.ledgers j).started) (range_with_len 0 16);
    }

module _ {K : Type 0} (answer : K → Rule) (told : K → ℕ → ℕ → K → Type 0) where
  abbrev row_choice : ℕ → Row → K → ℕ → Option ℕ
  row_choice t r kept i = asked (answer kept) i (busy_at t r.line) (row_question t r)

  choice_row : (st : State) (kept : K) (i : ℕ) → choice_across answer told st kept i ≡ row_choice st.clock (row st i) kept i
  unfolding marks_across waits_across
  choice_row st kept i = refl

  choice_same : (st mid : State) (k : K) (n : ℕ) → Beside st mid → row mid n ≡ row st n → choice_across answer told mid k n ≡ choice_across answer told st k n
  choice_same st mid k n b e = choice_row mid k n ∙ (λ x. row_choice (b.clock_is x) (e x) k n) ∙ sym (choice_row st k n)

  more_done : (n : ℕ) (st mid : State) (k : K) (cross : ℕ → Option ℕ) → ((i : ℕ) → n ≤ i → cross i ≡ None) → InputsDone st cross mid →
      InputsDone st (λ i. cond (eqb i n) (choice_across answer told st k n) (cross i)) (crossed_by (choice_across answer told mid k n) mid n)
  more_done n st mid k cross none m =
      let o = choice_across answer told st k n in
      let o' = choice_across answer told mid k n in
      let b = m.beside in
      let here : row mid n ≡ row st n = m.rows n ∙ ap (λ (x : Option ℕ). row (crossed_by x st n) n) (none n (omega arith)) in
      let same : o' ≡ o = choice_same st mid k n b here in
      let fresh = by_beside o' mid n in
      record {
        beside = record {
          plan_is = fresh.plan_is ∙ b.plan_is;
          clock_is = fresh.clock_is ∙ b.clock_is;
          sending_is = fresh.sending_is ∙ b.sending_is;
          counts_is = fresh.counts_is ∙ b.counts_is;
        };
        rows = λ i.
            ⊎_elim
            (λ (e : i ≡ n).
            let turn : row (crossed_by o' mid n) n ≡ row (crossed_by o st n) n =
            row_same o' mid n ∙ (λ x. row_started (same x) (b.clock_is x) (here x) n) ∙ sym (row_same o st n) in
            subst (λ a. row (crossed_by o' mid n) a ≡ row (crossed_by (cond (eqb a n) o (cross a)) st a) a) (sym e)
            (turn ∙ ap (λ v. row (crossed_by (cond v o (cross n)) st n) n) (sym (eq-eqb n n refl))))
            (λ (ne : i ≡ n → ⊥).
            row_other o' mid n i (ne_eqb i n ne) ∙ m.rows i ∙ ap (λ v. row (crossed_by (cond v o (cross i)) st i) i) (sym (ne_eqb i n ne)))
            (cases_eq i n);
      }

  -- what the first n inputs choose, one after another, and what the rule keeps on the way
  pub record InputsTurned (st : State) (kept : K) (n : ℕ) (mid : State) (k : K) : Type 0 where
    pub cross : ℕ → Option ℕ
    pub done : InputsDone st cross mid
    pub ks : ℕ → K
    pub in_turn : InTurn answer told (choice_across answer told st) (λ i. i) kept n k cross ks

  pub input_turns : {st : State} {kept : K} {n : ℕ} {mid : State} {k : K} → Crossings answer told st kept n mid k → InputsTurned st kept n mid k
  input_turns {st} {kept} none_crossed =
      record {
        cross = λ _. None;
        done = record { beside = record { plan_is = refl; clock_is = refl; sending_is = refl; counts_is = refl }; rows = λ i. refl };
        ks = λ _. kept;
        in_turn = no_turn answer told (choice_across answer told st) (λ i. i) kept;
      }
  input_turns {st} {kept} (one_more {n = n} {mid = mid} {after = after} {k = k} {next = next} d c) =
      let before = input_turns d in
      let none = before.in_turn.none in
      let here = before.done.rows n ∙ ap (λ (x : Option ℕ). row (crossed_by x st n) n) (none n (omega arith)) in
      let rule = subst (λ (o : Option ℕ). KeptAfter answer told k n o next) (choice_same st mid k n before.done.beside here) c.rule in
      record {
        cross = λ i. cond (eqb i n) (choice_across answer told st k n) (before.cross i);
        done = subst (InputsDone st (λ i. cond (eqb i n) (choice_across answer told st k n) (before.cross i))) (sym c.state) (more_done n st mid k before.cross none before.done);
        ks = λ i. cond (eqb i (n + 1)) next (before.ks i);
        in_turn = more_turn answer told (choice_across answer told st) (λ i. i) kept n k next before.cross before.ks before.in_turn rule;
      }
