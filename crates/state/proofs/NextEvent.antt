-- The next tick at which something may happen (`next_event`): all ticks before it are quiet, and it is not.
use Rattle.state.proofs.ShownFlows.{busy_until}
use Rattle.std.proofs.lemmas.Option.{none-some}
use Rattle.std.proofs.Common.{◌≡◌, ℕ, zero, suc, ◌+◌, ◌-◌, ◌<◌, ◌≤◌, min, max, true, false, cond, ◌⊎◌, Some, None, Option, sym, refl, ap, ◌∙◌, subst, inl, inr, ⊎_elim, add-one, arith}
use Rattle.std.proofs.lemmas.Bool.{cases_eq, cases_lt, cases_Bool, le-ltb, ltb-true, ltb-false}
use Rattle.plan.specs.declared.fault.TheConstants.{LAST_TICK}
use Rattle.store.specs.declared.packet.Packet.{Packet}
use Rattle.state.specs.State.{State}
use Rattle.state.specs.Crosses.{mark_across, next_across}
use Rattle.state.specs.Sends.{mark_out, next_out}
use Rattle.state.specs.Ready.{across_from, out_from}
use Rattle.state.proofs.ReadyTick.{ready_across, ready_out, not_ready, is_ready}
use Rattle.state.specs.Due.{sooner_of, first_of, across_due, out_due}
use Rattle.state.specs.Quiet.{input_next, inputs_next, output_next, outputs_next, next_event, at_tick, Still, StillFor}
use Rattle.state.specs.Lines.{until_of, busy_at, Line}

-- one port more
pub first_more : (f : ℕ → Option ℕ) (n : ℕ) → first_of f (n + 1) ≡ sooner_of (first_of f n) (f n)
unfolding first_of
first_more f n = ap (first_of f) (add-one n)

pub inputs_more : (st : State) (n best : ℕ) → inputs_next st (n + 1) best ≡ input_next st n (inputs_next st n best)
unfolding inputs_next
inputs_more st n best = ap (λ m. inputs_next st m best) (add-one n)

pub outputs_more : (st : State) (n best : ℕ) → outputs_next st (n + 1) best ≡ output_next st n (outputs_next st n best)
unfolding outputs_next
outputs_more st n best = ap (λ m. outputs_next st m best) (add-one n)

-- the first of some ticks is at most each of them, and one of them or the clock's last
sooner_le : (best : ℕ) (o : Option ℕ) → sooner_of best o ≤ best
sooner_le best None = omega arith
sooner_le best (Some t) = omega arith

sooner_at : (best t : ℕ) (o : Option ℕ) → o ≡ Some t → sooner_of best o ≤ t
sooner_at best t o e = subst (λ (x : Option ℕ). sooner_of best x ≤ t) (sym e) (omega arith)

sooner_is : (best : ℕ) (o : Option ℕ) → (sooner_of best o ≡ best) ⊎ (o ≡ Some (sooner_of best o))
sooner_is best None = inl refl
sooner_is best (Some t) =
    ⊎_elim
    (λ (l : t < best). let e : t ≡ min best t = omega arith in inr (ap Some e))
    (λ (l : best ≤ t). let e : min best t ≡ best = omega arith in inl e)
    (cases_lt t best)

pub first_at : (f : ℕ → Option ℕ) (n k t : ℕ) → k < n → f k ≡ Some t → first_of f n ≤ t
unfolding first_of
first_at f zero k t l e = absurd (omega arith)
first_at f (suc n) k t l e =
    ⊎_elim
    (λ (here : k ≡ n). sooner_at (first_of f n) t (f n) (ap f (sym here) ∙ e))
    (λ (below : k ≡ n → ⊥).
    let lt : k < n = omega (arith, below, l) in
    omega (arith, first_at f n k t lt e, sooner_le (first_of f n) (f n)))
    (cases_eq k n)

first_is : (f : ℕ → Option ℕ) (n : ℕ) → (first_of f n ≡ LAST_TICK) ⊎ ((k : ℕ) × (k < n) × (f k ≡ Some (first_of f n)))
unfolding first_of
first_is f zero = inl refl
first_is f (suc n) =
    ⊎_elim
    (λ (e : sooner_of (first_of f n) (f n) ≡ first_of f n).
    ⊎_elim
    (λ (last : first_of f n ≡ LAST_TICK). inl (e ∙ last))
    (λ (d : (k : ℕ) × (k < n) × (f k ≡ Some (first_of f n))). let lt : d.0 < suc n = omega (arith, d.1) in inr (d.0, lt, d.2 ∙ ap Some (sym e)))
    (first_is f n))
    (λ (here : f n ≡ Some (sooner_of (first_of f n) (f n))). let lt : n < suc n = omega arith in inr (n, lt, here))
    (sooner_is (first_of f n) (f n))

module _ (st : State) where
  inputs_le : (n best : ℕ) → inputs_next st n best ≤ best
  unfolding inputs_next
  inputs_le zero best = omega arith
  inputs_le (suc n) best = omega (arith, inputs_le n best)

  input_at : (i best k t : ℕ) → k < 16 → across_from (next_across st i k) ≡ Some t → input_next st i best ≤ max t (until_of (st.crossing i))
  input_at i best k t m e = omega (arith, first_at (λ j. across_from (next_across st i j)) 16 k t m e)

  inputs_at : (n best i k t : ℕ) → i < n → k < 16 → across_from (next_across st i k) ≡ Some t → inputs_next st n best ≤ max t (until_of (st.crossing i))
  unfolding inputs_next
  inputs_at zero best i k t l m e = absurd (omega arith)
  inputs_at (suc n) best i k t l m e =
      ⊎_elim
      (λ (here : i ≡ n). subst (λ x. input_next st x (inputs_next st n best) ≤ max t (until_of (st.crossing i))) here (input_at i (inputs_next st n best) k t m e))
      (λ (below : i ≡ n → ⊥).
      let lt : i < n = omega (arith, below, l) in
      omega (arith, inputs_at n best i k t lt m e))
      (cases_eq i n)

  output_busy : (j best : ℕ) → busy_at st.clock (st.sending j) ≡ true → output_next st j best ≤ until_of (st.sending j) - 1
  output_busy j best e = rw e (omega arith)

  output_free : (j best k t : ℕ) → busy_at st.clock (st.sending j) ≡ false → k < 16 → out_from st.plan.size.longest (next_out st k j) ≡ Some t → output_next st j best ≤ t
  output_free j best k t e l o = rw e (omega (arith, first_at (λ i. out_from st.plan.size.longest (next_out st i j)) 16 k t l o))

  -- what holds of each output's tick holds of all
  outputs_at : (n best j x : ℕ) → j < n → ((b : ℕ) → output_next st j b ≤ x) → outputs_next st n best ≤ x
  unfolding outputs_next
  outputs_at zero best j x l h = absurd (omega arith)
  outputs_at (suc n) best j x l h =
      ⊎_elim
      (λ (here : j ≡ n). subst (λ y. output_next st y (outputs_next st n best) ≤ x) here (h (outputs_next st n best)))
      (λ (below : j ≡ n → ⊥).
      let lt : j < n = omega (arith, below, l) in
      omega (arith, outputs_at n best j x lt h))
      (cases_eq j n)

  outputs_le : (n best : ℕ) → outputs_next st n best ≤ best
  unfolding outputs_next
  outputs_le zero best = omega arith
  outputs_le (suc n) best = omega (arith, outputs_le n best)

pub across_not : (t : ℕ) (o : Option Packet) → ((x : ℕ) → across_from o ≡ Some x → t < x) → mark_across t o ≡ None
across_not t o h = sym (ready_across t o) ∙ not_ready t o (across_from o) h

pub out_not : (L t : ℕ) (o : Option Packet) → ((x : ℕ) → out_from L o ≡ Some x → t < x) → mark_out L t o ≡ None
out_not L t o h = sym (ready_out L t o) ∙ not_ready t o (out_from L o) h

busy_from : {X : Type 0} (t : ℕ) (line : Line X) → busy_at t line ≡ false → until_of line ≤ t
busy_from t line e = ltb-false t (until_of line) (sym (busy_until t line) ∙ e)

busy_to : {X : Type 0} (t : ℕ) (line : Line X) → busy_at t line ≡ true → t < until_of line
busy_to t line e = ltb-true t (until_of line) (sym (busy_until t line) ∙ e)

pub still_until : (st : State) (limit t : ℕ) → st.clock ≤ t → t < next_event st limit → Still (at_tick t st)
still_until st limit t from before =
    let N = st.plan.size.ports in
    let ins = inputs_next st N (min limit LAST_TICK) in
    record {
      soon = omega (arith, before, outputs_le st N ins, inputs_le st N (min limit LAST_TICK));
      inputs = λ i j hi hj free. across_not t (next_across st i j) (λ x e. omega (arith, before, outputs_le st N ins, inputs_at st N (min limit LAST_TICK) i j x hi hj e, busy_from t (st.crossing i) free));
      outputs = λ i j hi hj free. out_not st.plan.size.longest t (next_out st i j) (λ x e.
          ⊎_elim
          (λ (b : busy_at st.clock (st.sending j) ≡ true). absurd (omega (arith, before, outputs_at st N ins j (until_of (st.sending j) - 1) hj (λ best. output_busy st j best b), busy_to st.clock (st.sending j) b, busy_from t (st.sending j) free)))
          (λ (b : busy_at st.clock (st.sending j) ≡ false). omega (arith, before, outputs_at st N ins j x hj (λ best. output_free st j best i x b hi e)))
          (cases_Bool (busy_at st.clock (st.sending j))));
      stays = λ j hj e.
          ⊎_elim
          (λ (b : busy_at st.clock (st.sending j) ≡ true). omega (arith, before, e, outputs_at st N ins j (until_of (st.sending j) - 1) hj (λ best. output_busy st j best b)))
          (λ (b : busy_at st.clock (st.sending j) ≡ false). omega (arith, from, e, busy_from st.clock (st.sending j) b))
          (cases_Bool (busy_at st.clock (st.sending j)));
    }

-- input i may start something at x, and output j may start something or lets something leave
record DueAcross (st : State) (x : ℕ) : Type 0 where
  i : ℕ
  j : ℕ
  input_in : i < st.plan.size.ports
  output_in : j < 16
  t : ℕ
  is : across_from (next_across st i j) ≡ Some t
  at : x ≡ max t (until_of (st.crossing i))

data DueOut (st : State) (x : ℕ) : Type 0 where
  leaves : (j : ℕ) → j < st.plan.size.ports → busy_at st.clock (st.sending j) ≡ true → x ≡ until_of (st.sending j) - 1 → DueOut st x
  sends : (i j t : ℕ) → i < 16 → j < st.plan.size.ports → busy_at st.clock (st.sending j) ≡ false → out_from st.plan.size.longest (next_out st i j) ≡ Some t → x ≡ t → DueOut st x

-- the sooner of two ticks is one of them
least_is : (best x : ℕ) → (min best x ≡ best) ⊎ (min best x ≡ x)
least_is best x =
    ⊎_elim
    (λ (l : x < best). let e : min best x ≡ x = omega arith in inr e)
    (λ (l : best ≤ x). let e : min best x ≡ best = omega arith in inl e)
    (cases_lt x best)

module _ (st : State) where
  input_is : (i best : ℕ) → i < st.plan.size.ports → best ≤ LAST_TICK → (input_next st i best ≡ best) ⊎ DueAcross st (input_next st i best)
  input_is i best hi most =
      let due = across_due st.lists st.ledgers i in
      ⊎_elim
      (λ (last : due ≡ LAST_TICK). let e : input_next st i best ≡ best = omega (arith, last, most) in inl e)
      (λ (d : (k : ℕ) × (k < 16) × (across_from (next_across st i k) ≡ Some due)).
      ⊎_elim
      (λ (e : input_next st i best ≡ best). inl e)
      (λ (e : input_next st i best ≡ max due (until_of (st.crossing i))). inr record { i = i; j = d.0; input_in = hi; output_in = d.1; t = due; is = d.2; at = e })
      (least_is best (max due (until_of (st.crossing i)))))
      (first_is (λ j. across_from (next_across st i j)) 16)

  inputs_is : (n best : ℕ) → n ≤ st.plan.size.ports → best ≤ LAST_TICK → (inputs_next st n best ≡ best) ⊎ DueAcross st (inputs_next st n best)
  unfolding inputs_next
  inputs_is zero best l most = inl refl
  inputs_is (suc n) best l most =
      ⊎_elim
      (λ (e : input_next st n (inputs_next st n best) ≡ inputs_next st n best).
      ⊎_elim (λ (d : inputs_next st n best ≡ best). inl (e ∙ d)) (λ (d : DueAcross st (inputs_next st n best)). inr (subst (DueAcross st) (sym e) d)) (inputs_is n best (omega (arith, l)) most))
      (λ (d : DueAcross st (input_next st n (inputs_next st n best))). inr d)
      (input_is n (inputs_next st n best) (omega (arith, l)) (omega (arith, inputs_le st n best, most)))

  output_is : (j best : ℕ) → j < st.plan.size.ports → best ≤ LAST_TICK → (output_next st j best ≡ best) ⊎ DueOut st (output_next st j best)
  output_is j best hj most =
      let x = until_of (st.sending j) - 1 in
      let due = out_due st.plan.size.longest st.lists j in
      ⊎_elim
      (λ (b : busy_at st.clock (st.sending j) ≡ true).
      let is : output_next st j best ≡ min best x = ap (λ v. min best (cond v x due)) b in
      ⊎_elim
      (λ (e : min best x ≡ best). inl (is ∙ e))
      (λ (e : min best x ≡ x). inr (leaves j hj b (is ∙ e)))
      (least_is best x))
      (λ (b : busy_at st.clock (st.sending j) ≡ false).
      let is : output_next st j best ≡ min best due = ap (λ v. min best (cond v x due)) b in
      ⊎_elim
      (λ (last : due ≡ LAST_TICK). let e : min best due ≡ best = omega (arith, last, most) in inl (is ∙ e))
      (λ (d : (k : ℕ) × (k < 16) × (out_from st.plan.size.longest (next_out st k j) ≡ Some due)).
      ⊎_elim
      (λ (e : min best due ≡ best). inl (is ∙ e))
      (λ (e : min best due ≡ due). inr (sends d.0 j due d.1 hj b d.2 (is ∙ e)))
      (least_is best due))
      (first_is (λ i. out_from st.plan.size.longest (next_out st i j)) 16))
      (cases_Bool (busy_at st.clock (st.sending j)))

  outputs_is : (n best : ℕ) → n ≤ st.plan.size.ports → best ≤ LAST_TICK → (outputs_next st n best ≡ best) ⊎ DueOut st (outputs_next st n best)
  unfolding outputs_next
  outputs_is zero best l most = inl refl
  outputs_is (suc n) best l most =
      ⊎_elim
      (λ (e : output_next st n (outputs_next st n best) ≡ outputs_next st n best).
      ⊎_elim (λ (d : outputs_next st n best ≡ best). inl (e ∙ d)) (λ (d : DueOut st (outputs_next st n best)). inr (subst (DueOut st) (sym e) d)) (outputs_is n best (omega (arith, l)) most))
      (λ (d : DueOut st (output_next st n (outputs_next st n best))). inr d)
      (output_is n (outputs_next st n best) (omega (arith, l)) (omega (arith, outputs_le st n best, most)))

across_yes : (t x : ℕ) (o : Option Packet) → across_from o ≡ Some x → x ≤ t → mark_across t o ≡ None → ⊥
across_yes t x None e l m = none-some _ e
across_yes t x (Some p) e l m = none-some _ (sym m ∙ sym (ready_across t (Some p)) ∙ is_ready t x p (across_from (Some p)) e l)

out_yes : (L t x : ℕ) (o : Option Packet) → out_from L o ≡ Some x → x ≤ t → mark_out L t o ≡ None → ⊥
out_yes L t x None e l m = none-some _ e
out_yes L t x (Some p) e l m = none-some _ (sym m ∙ sym (ready_out L t (Some p)) ∙ is_ready t x p (out_from L (Some p)) e l)

busy_not : {X : Type 0} (t : ℕ) (line : Line X) → until_of line ≤ t → busy_at t line ≡ false
busy_not t line l = busy_until t line ∙ le-ltb t (until_of line) l

due_across : (st : State) (x t : ℕ) → DueAcross st x → x ≤ t → Still (at_tick t st) → ⊥
due_across st x t d l still =
    across_yes t d.t (next_across st d.i d.j) d.is (omega (arith, d.at, l)) (still.inputs d.i d.j d.input_in d.output_in (busy_not t (st.crossing d.i) (omega (arith, d.at, l))))

due_out : (st : State) (x t : ℕ) → DueOut st x → t ≡ max st.clock x → Still (at_tick t st) → ⊥
due_out st x t (leaves j hj b e) l still = still.stays j hj (omega (arith, l, e, busy_to st.clock (st.sending j) b))
due_out st x t (sends i j u hi hj b o e) l still =
    out_yes st.plan.size.longest t u (next_out st i j) o (omega (arith, l, e)) (still.outputs i j hi hj (busy_not t (st.sending j) (omega (arith, l, busy_from st.clock (st.sending j) b))))

-- the ticks up to the next event, and no more
pub still_for : (st : State) (limit k : ℕ) → k ≡ next_event st limit - st.clock → StillFor st limit k
still_for st limit k e =
    let N = st.plan.size.ports in
    let best = min limit LAST_TICK in
    let ins = inputs_next st N best in
    let at : st.clock + k ≡ max st.clock (next_event st limit) = omega (arith, e) in
    record {
      still = λ t from before. still_until st limit t from (omega (arith, before, e));
      bounded = omega (arith, e, outputs_le st N ins, inputs_le st N best);
      no_more = λ below still.
          ⊎_elim
          (λ (out : outputs_next st N ins ≡ ins).
          ⊎_elim
          (λ (in-best : ins ≡ best). omega (arith, out, in-best, at, below, still.soon))
          (λ (d : DueAcross st ins). due_across st ins (st.clock + k) d (omega (arith, at, out)) still)
          (inputs_is st N best (omega arith) (omega arith)))
          (λ (d : DueOut st (outputs_next st N ins)). due_out st (outputs_next st N ins) (st.clock + k) d at still)
          (outputs_is st N ins (omega arith) (omega (arith, inputs_le st N best)));
    }
