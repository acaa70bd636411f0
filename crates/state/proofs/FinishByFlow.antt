-- The end of a step, flow by flow: a flow loses its oldest packet just where its output lets that go.
use Rattle.std.proofs.Common.{◌≡◌, ℕ, zero, suc, ◌+◌, ◌<◌, ◌≤◌, Bool, true, false, cond, ◌&&◌, eqb, ltb, List, [], ◌∷◌, length, drop, Some, None, Option, sym, refl, ap, ◌∙◌, subst, ⊎_elim, arith}
use Rattle.std.proofs.lemmas.Bool.{cases_eq, lt-ltb, eq-eqb, ne_eqb, and_right}
use Rattle.store.specs.declared.packet.Packet.{Packet}
use Rattle.state.specs.declared.line.Ledger.{Ledger}
use Rattle.departure.specs.declared.Departure.{Departure}
use Rattle.state.specs.State.{State}
use Rattle.state.specs.Finishes.{leaving, departing, finished, finished_with, finish_to}
use Rattle.state.proofs.Lists.{cond_both}
use Rattle.state.proofs.ListedByOutput.{leaving_kept}
use Rattle.state.specs.Lines.{Line}

-- what flow (a, b) and its output's line are
pub record Cell : Type 0 where
  pub line : Line Departure
  pub list : List Packet
  pub ledger : Ledger

abbrev pub cell : State → ℕ → ℕ → Cell
cell st a b = record { line = st.sending b; list = st.lists a b; ledger = st.ledgers a b }

-- once this has left
abbrev pub left_cell : Option Departure → ℕ → Cell → Cell
left_cell None a c = c
left_cell (Some d) a c = record { line = None; list = cond (eqb a d.input) (drop 1 c.list) c.list; ledger = cond (eqb a d.input) (departing d.bytes c.ledger) c.ledger }

dropped : (v : Bool) (rest others : ℕ → ℕ → List Packet) (a b : ℕ) → cond v rest others a b ≡ cond v (rest a b) (others a b)
dropped true rest others a b = refl
dropped false rest others a b = refl

emptied : (xs : List Packet) → cond (ltb 0 (length xs)) (drop 1 xs) xs ≡ drop 1 xs
emptied [] = refl
emptied (x ∷ xs) = ap (λ v. cond v xs (x ∷ xs)) (lt-ltb 0 (length (x ∷ xs)) (omega arith))

finished_here : (o : Option Departure) (st : State) (a n : ℕ) → cell (finished_with o st n) a n ≡ left_cell o a (cell st a n)
finished_here None st a n = refl
finished_here (Some d) st a n =
    let i = d.input in
    let yes : eqb n n ≡ true = eq-eqb n n refl in
    let some = ltb 0 (length (st.lists i n)) in
    let list : (finished_with (Some d) st n).lists a n ≡ cond (eqb a i) (drop 1 (st.lists a n)) (st.lists a n) =
    dropped some (λ x y. cond (eqb x i && eqb y n) (drop 1 (st.lists i n)) (st.lists x y)) st.lists a n
    ∙ ⊎_elim
    (λ (e : a ≡ i).
    subst (λ x. cond some (cond (eqb x i && eqb n n) (drop 1 (st.lists i n)) (st.lists x n)) (st.lists x n) ≡ cond (eqb x i) (drop 1 (st.lists x n)) (st.lists x n)) (sym e)
    ((λ k. cond some (cond (eq-eqb i i refl k && yes k) (drop 1 (st.lists i n)) (st.lists i n)) (st.lists i n)) ∙ emptied (st.lists i n) ∙ ap (λ v. cond v (drop 1 (st.lists i n)) (st.lists i n)) (sym (eq-eqb i i refl))))
    (λ (ne : a ≡ i → ⊥).
    ap (λ v. cond some (cond (v && eqb n n) (drop 1 (st.lists i n)) (st.lists a n)) (st.lists a n)) (ne_eqb a i ne) ∙ cond_both some (st.lists a n) ∙ ap (λ v. cond v (drop 1 (st.lists a n)) (st.lists a n)) (sym (ne_eqb a i ne)))
    (cases_eq a i) in
    let ledger : (finished_with (Some d) st n).ledgers a n ≡ cond (eqb a i) (departing d.bytes (st.ledgers a n)) (st.ledgers a n) =
    ⊎_elim
    (λ (e : a ≡ i).
    subst (λ x. cond (eqb x i && eqb n n) (departing d.bytes (st.ledgers i n)) (st.ledgers x n) ≡ cond (eqb x i) (departing d.bytes (st.ledgers x n)) (st.ledgers x n)) (sym e)
    ((λ k. cond (eq-eqb i i refl k && yes k) (departing d.bytes (st.ledgers i n)) (st.ledgers i n)) ∙ ap (λ v. cond v (departing d.bytes (st.ledgers i n)) (st.ledgers i n)) (sym (eq-eqb i i refl))))
    (λ (ne : a ≡ i → ⊥). ap (λ v. cond (v && eqb n n) (departing d.bytes (st.ledgers i n)) (st.ledgers a n)) (ne_eqb a i ne) ∙ ap (λ v. cond v (departing d.bytes (st.ledgers a n)) (st.ledgers a n)) (sym (ne_eqb a i ne)))
    (cases_eq a i) in
    λ k. record { line = cond (yes k) None (st.sending n); list = list k; ledger = ledger k }

finished_there : (o : Option Departure) (st : State) (a b n : ℕ) → eqb b n ≡ false → cell (finished_with o st n) a b ≡ cell st a b
finished_there None st a b n e = refl
finished_there (Some d) st a b n e =
    let i = d.input in
    let some = ltb 0 (length (st.lists i n)) in
    let off : (eqb a i && eqb b n) ≡ false = and_right (eqb a i) (eqb b n) e in
    let list : (finished_with (Some d) st n).lists a b ≡ st.lists a b =
    dropped some (λ x y. cond (eqb x i && eqb y n) (drop 1 (st.lists i n)) (st.lists x y)) st.lists a b
    ∙ ap (λ v. cond some (cond v (drop 1 (st.lists i n)) (st.lists a b)) (st.lists a b)) off ∙ cond_both some (st.lists a b) in
    λ k. record { line = cond (e k) None (st.sending b); list = list k; ledger = cond (off k) (departing d.bytes (st.ledgers i n)) (st.ledgers a b) }

-- the state after the first n outputs have let go what leaves
pub record Finish (n : ℕ) (st fin : State) : Type 0 where
  pub plan_is : fin.plan ≡ st.plan
  pub clock_is : fin.clock ≡ st.clock
  pub crossing_is : fin.crossing ≡ st.crossing
  pub counts_is : fin.counts ≡ st.counts
  pub done : (a b : ℕ) → b < n → cell fin a b ≡ left_cell (leaving st b) a (cell st a b)
  pub rest : (a b : ℕ) → n ≤ b → cell fin a b ≡ cell st a b

finish_one : (o : Option Departure) (n : ℕ) (st mid : State) → o ≡ leaving st n → Finish n st mid → Finish (n + 1) st (finished_with o mid n)
finish_one o n st mid e f =
    let beside = with_beside o in
    record {
      plan_is = beside.0 ∙ f.plan_is;
      clock_is = beside.1 ∙ f.clock_is;
      crossing_is = beside.2 ∙ f.crossing_is;
      counts_is = beside.3 ∙ f.counts_is;
      done = λ a b l.
          ⊎_elim
          (λ (z : b ≡ n).
          subst (λ x. cell (finished_with o mid n) a x ≡ left_cell (leaving st x) a (cell st a x)) (sym z)
          (finished_here o mid a n ∙ (λ k. left_cell (e k) a (f.rest a n (omega arith) k))))
          (λ (ne : b ≡ n → ⊥). finished_there o mid a b n (ne_eqb b n ne) ∙ f.done a b (omega (arith, l, ne)))
          (cases_eq b n);
      rest = λ a b l. finished_there o mid a b n (ne_eqb b n (λ z. omega (arith, z, l))) ∙ f.rest a b (omega (arith, l));
    }
  where
    with_beside : (x : Option Departure) → ((finished_with x mid n).plan ≡ mid.plan) × ((finished_with x mid n).clock ≡ mid.clock) × ((finished_with x mid n).crossing ≡ mid.crossing) × ((finished_with x mid n).counts ≡ mid.counts)
    with_beside None = (refl, refl, refl, refl)
    with_beside (Some d) = (refl, refl, refl, refl)

pub finish_is : (n : ℕ) (st : State) → Finish n st (finish_to n st)
unfolding finish_to
finish_is zero st = record { plan_is = refl; clock_is = refl; crossing_is = refl; counts_is = refl; done = λ a b l. absurd (omega (arith, l)); rest = λ a b _. refl }
finish_is (suc n) st =
    let z : n + 1 ≡ suc n = omega arith in
    subst (λ m. Finish m st (finished (finish_to n st) n)) z (finish_one (leaving (finish_to n st) n) n st (finish_to n st) (leaving_kept st n) (finish_is n st))
