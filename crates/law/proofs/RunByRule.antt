-- A switch of a run is nothing outside its ports, so that writing out its ports is the same switch; and steps by a rule's
-- answers, written out, go on with the run.
use Rattle.std.proofs.Common.{◌≡◌, ℕ, zero, suc, ◌+◌, ◌<◌, ◌≤◌, max, Bool, true, false, cond, ◌&&◌, eqb, ltb, leb, ◌⊎◌, List, [], ◌∷◌, ◌++◌, map, length, get_or, drop, Some, None, Option, sym, refl, ap, ◌∙◌, subst, inl, inr, ⊎_elim, arith}
use mathlib.Core.Path.{fun_ext}
use Rattle.std.specs.List.{range_with_len}
use Rattle.std.proofs.lemmas.List.FromFn.{get_or-map-range_with_len, length-map-range_with_len}
use Rattle.std.proofs.lemmas.List.{get_or_past, append-nil}
use Rattle.std.proofs.lemmas.Bool.{cases_lt, ne_eqb, and_left, and_right, lt-leb, le-ltb}
use Rattle.law.specs.Journeys.{Journeys, none_yet, ended, held}
use Rattle.timing.specs.Fluid.{Accepted}
use Rattle.plan.specs.Refusals.{step_refusal}
use Rattle.plan.specs.declared.fault.TheConstants.{LAST_TICK}
use Rattle.plan.specs.declared.fault.StepFault.TheVariants.{Short, Last}
use Rattle.tie.specs.PicksTied.{PicksTied}
use Rattle.law.specs.Queues.{Queued}
use Rattle.law.specs.Step.{Plan, Switch, sealed, at_input, at_output, ready_across, ready_out, mark_of, names, with_start, LineStarts, Starts, busy_until, started_flow, after_tick}
use Rattle.law.specs.Rules.{Rule, crossing_choice, sending_choice}
use Rattle.law.specs.Runs.{Call, step, Answer, listed, Run, ticks, arrived, leaves}
use Rattle.law.specs.Promises.{Bookable}
use Rattle.law.specs.Examples.{table, written, tick_by, steps_by}
use Rattle.law.proofs.LineByMarks.{chosen_in}
use Rattle.law.proofs.RuleAnswers.{rules_make_steps, tied_answers}

swap : {A B : Type 0} → A ⊎ B → B ⊎ A
swap (inl a) = inr a
swap (inr b) = inl b

-- a table and a list, written out up to n
table_at : {X : Type 0} (n : ℕ) (f : ℕ → ℕ → X) (d : X) → ((i j : ℕ) → n ≤ i ⊎ (n ≤ j) → f i j ≡ d) → (i j : ℕ) → get_or (get_or (table n f) i []) j d ≡ f i j
table_at {X} n f d outside i j =
    let row : ℕ → List X = λ a. map (λ c. f a c) (range_with_len 0 n) in
    ⊎_elim
    (λ (hi : i < n).
    let is-row = get_or-map-range_with_len row 0 n i i [] hi (omega arith) in
    ap (λ (xs : List X). get_or xs j d) is-row
    ∙ ⊎_elim
    (λ (hj : j < n). get_or-map-range_with_len (λ c. f i c) 0 n j j d hj (omega arith))
    (λ (past : n ≤ j). get_or_past (row i) j d (omega (arith, length-map-range_with_len (λ c. f i c) 0 n, past)) ∙ sym (outside i j (inr past)))
    (cases_lt j n))
    (λ (past : n ≤ i). ap (λ (xs : List X). get_or xs j d) (get_or_past (table n f) i [] (omega (arith, length-map-range_with_len row 0 n, past))) ∙ sym (outside i j (inl past)))
    (cases_lt i n)

list_at : (n : ℕ) (f : ℕ → ℕ) → ((i : ℕ) → n ≤ i → f i ≡ 0) → (i : ℕ) → get_or (map f (range_with_len 0 n)) i 0 ≡ f i
list_at n f outside i =
    ⊎_elim
    (λ (h : i < n). get_or-map-range_with_len f 0 n i i 0 h (omega arith))
    (λ (past : n ≤ i). get_or_past (map f (range_with_len 0 n)) i 0 (omega (arith, length-map-range_with_len f 0 n, past)) ∙ sym (outside i past))
    (cases_lt i n)

-- nothing has come, started or been held outside n ports
pub record WithinPorts (n : ℕ) (s : Switch) : Type 0 where
  pub no_flow : (i j : ℕ) → (n ≤ i) ⊎ (n ≤ j) → s.flow i j ≡ none_yet
  pub no_crossing : (i : ℕ) → n ≤ i → s.crossing_until i ≡ 0
  pub no_sending : (j : ℕ) → n ≤ j → s.sending_until j ≡ 0
  pub no_peak : (i j : ℕ) → (n ≤ i) ⊎ (n ≤ j) → s.peak i j ≡ 0

pub written_same : (n : ℕ) (s : Switch) → WithinPorts n s → written n s ≡ s
written_same n s w =
    let flows = fun_ext (λ i. fun_ext (λ j. table_at n s.flow none_yet w.no_flow i j)) in
    let across = fun_ext (λ i. list_at n s.crossing_until w.no_crossing i) in
    let out = fun_ext (λ j. list_at n s.sending_until w.no_sending j) in
    let peaks = fun_ext (λ i. fun_ext (λ j. table_at n s.peak 0 w.no_peak i j)) in
    (λ k. record { clock = s.clock; flow = flows k; crossing_until = across k; sending_until = out k; peak = peaks k })

pub within_seal : (n : ℕ) → WithinPorts n sealed
within_seal n = record { no_flow = λ i j h. refl; no_crossing = λ i h. refl; no_sending = λ j h. refl; no_peak = λ i j h. refl }

-- an arrival inside the ports
pub within_arrives : (n : ℕ) (s : Switch) (i₀ j₀ b : ℕ) → i₀ < n → j₀ < n → WithinPorts n s → WithinPorts n (arrived s i₀ j₀ b)
within_arrives n s i₀ j₀ b hi hj w =
    record {
      no_flow = λ i j out. come i j out (not_mine i j out);
      no_crossing = w.no_crossing;
      no_sending = w.no_sending;
      no_peak = w.no_peak;
    }
  where
    not_mine : (i j : ℕ) → (n ≤ i) ⊎ (n ≤ j) → (eqb i i₀ && eqb j j₀) ≡ false
    not_mine i j out =
        ⊎_elim
        (λ (h : n ≤ i). and_left (eqb i i₀) (eqb j j₀) (ne_eqb i i₀ (λ e. omega (arith, e))))
        (λ (h : n ≤ j). and_right (eqb i i₀) (eqb j j₀) (ne_eqb j j₀ (λ e. omega (arith, e))))
        out

    come : (i j : ℕ) → (n ≤ i) ⊎ (n ≤ j) → (eqb i i₀ && eqb j j₀) ≡ false → (arrived s i₀ j₀ b).flow i j ≡ none_yet
    come i j out e =
        ap (λ (v : Bool). with_packets i j ((s.flow i j).accepted ++ cond v (record { arrival = s.clock; bytes = b } ∷ []) [])) e
        ∙ ap (with_packets i j) (append-nil (s.flow i j).accepted)
        ∙ w.no_flow i j out
      where
        with_packets : ℕ → ℕ → List Accepted → Journeys
        with_packets a c ps = record { accepted = ps; crossings = (s.flow a c).crossings; sendings = (s.flow a c).sendings }

-- a line starts nothing of a position that it has not
not_named : (W n : ℕ) (weight : ℕ → ℕ) (waiting : ℕ → List Queued) (ready : ℕ → Queued → Bool) (busy : Bool) (o : Option ℕ) →
    LineStarts busy (map (λ k. mark_of W (weight k) (ready k) (waiting k)) (range_with_len 0 n)) o → (k : ℕ) → n ≤ k → names o k ≡ false
not_named W n weight waiting ready busy None h k out = refl
not_named W n weight waiting ready true (Some m) h k out = absurd (let z : ◌≡◌ {A = ℕ} 0 1 = cc in omega arith)
not_named W n weight waiting ready false (Some m) h k out = ne_eqb m k (λ e. omega (arith, e, chosen_in W n weight waiting ready m h))

module _ (plan : Plan) (s : Switch) (cross send : ℕ → Option ℕ) (st : Starts plan s cross send) (w : WithinPorts plan.ports s) where
  none_across : (i j : ℕ) → (plan.ports ≤ i) ⊎ (plan.ports ≤ j) → names (cross i) j ≡ false
  none_across i j out =
      ⊎_elim
      (λ (past : plan.ports ≤ j).
      ⊎_elim
      (λ (hi : i < plan.ports). not_named plan.parts plan.ports (λ c. plan.weight i c) (λ c. at_input plan s i c) (λ c. ready_across (plan.weight i c) s.clock) _ (cross i) (st.inputs i hi) j past)
      (λ (past-i : plan.ports ≤ i). ap (λ (o : Option ℕ). names o j) (st.no_input i past-i))
      (cases_lt i plan.ports))
      (λ (hj : j < plan.ports).
      ap (λ (o : Option ℕ). names o j) (st.no_input i (⊎_elim (λ (past-i : plan.ports ≤ i). past-i) (λ (past-j : plan.ports ≤ j). absurd (omega arith)) out)))
      (swap (cases_lt j plan.ports))

  none_out : (i j : ℕ) → (plan.ports ≤ i) ⊎ (plan.ports ≤ j) → names (send j) i ≡ false
  none_out i j out =
      ⊎_elim
      (λ (past : plan.ports ≤ i).
      ⊎_elim
      (λ (hj : j < plan.ports).
      not_named plan.parts plan.ports (λ a. plan.weight a j) (λ a. at_output plan s a j)
      (λ a. ready_out plan.longest (plan.weight a j) s.clock (drop (length (s.flow a j).sendings) (s.flow a j).crossings)) _ (send j) (st.outputs j hj) i past)
      (λ (past-j : plan.ports ≤ j). ap (λ (o : Option ℕ). names o i) (st.no_output j past-j))
      (cases_lt j plan.ports))
      (λ (hi : i < plan.ports).
      ap (λ (o : Option ℕ). names o i) (st.no_output j (⊎_elim (λ (past-i : plan.ports ≤ i). absurd (omega arith)) (λ (past-j : plan.ports ≤ j). past-j) out)))
      (swap (cases_lt i plan.ports))

  flow_kept : (i j : ℕ) → (plan.ports ≤ i) ⊎ (plan.ports ≤ j) → started_flow plan s cross send i j ≡ none_yet
  flow_kept i j out =
      ap (λ (v : Bool). record { accepted = (s.flow i j).accepted; crossings = with_start v s.clock (s.flow i j).crossings; sendings = with_start (names (send j) i) s.clock (s.flow i j).sendings }) (none_across i j out)
      ∙ ap (λ (v : Bool). record { accepted = (s.flow i j).accepted; crossings = (s.flow i j).crossings; sendings = with_start v s.clock (s.flow i j).sendings }) (none_out i j out)
      ∙ w.no_flow i j out

  pub within_ticks : WithinPorts plan.ports (after_tick plan s cross send)
  unfolding ended
  within_ticks =
      record {
        no_flow = flow_kept;
        no_crossing = λ i h. ap (λ (o : Option ℕ). busy_until s.clock (s.crossing_until i) (λ j. at_input plan s i j) o) (st.no_input i h) ∙ w.no_crossing i h;
        no_sending = λ j h. ap (λ (o : Option ℕ). busy_until s.clock (s.sending_until j) (λ i. at_output plan s i j) o) (st.no_output j h) ∙ w.no_sending j h;
        no_peak = λ i j out. (λ k. max (w.no_peak i j out k) (held s.clock (flow_kept i j out k)));
      }

-- k steps by the answers of a rule that picks tied positions go on with a run
pub steps_run : (plan : Plan) (M : ℕ) → Bookable plan → (rule : Rule) → PicksTied rule → (k : ℕ) (log : List (Call × Answer)) (s : Switch) → s.clock + k ≤ LAST_TICK → WithinPorts plan.ports s → Run plan M log s →
    Run plan M (steps_by k plan rule log s).0 (steps_by k plan rule log s).1
unfolding steps_by
steps_run plan M bookable rule picks zero log s early w d = d
steps_run plan M bookable rule picks (suc k) log s early w d =
    let starts = rules_make_steps plan M bookable log s d rule (tied_answers rule picks) in
    let cross = crossing_choice plan s rule in
    let send = sending_choice plan s rule in
    let next = after_tick plan s cross send in
    let within = within_ticks plan s cross send starts w in
    let same = sym (written_same plan.ports next within) in
    let enough : ltb plan.ports plan.ports ≡ false = le-ltb plan.ports plan.ports (omega arith) in
    let before-last : leb LAST_TICK s.clock ≡ false = lt-leb LAST_TICK s.clock (omega (arith, early)) in
    let not_refused : step_refusal plan.ports plan.ports s.clock ≡ None = (λ i. cond (enough i) (Some Short) (cond (before-last i) (Some Last) None)) in
    let did = ticks plan.ports cross send d not_refused starts in
    steps_run plan M bookable rule picks k _ (tick_by plan rule s) (omega (arith, early)) (subst (WithinPorts plan.ports) same within)
    (subst (λ (x : Switch). Run plan M ((step plan.ports, listed (leaves plan x s.clock (s.clock + 1))) ∷ log) x) same did)
