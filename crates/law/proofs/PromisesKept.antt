-- Every moment of every run keeps the promises.
use Rattle.std.proofs.lemmas.Option.{none-some}
use Rattle.std.proofs.Common.{◌≡◌, ℕ, ◌+◌, ◌-◌, ◌*◌, ◌<◌, ◌≤◌, Bool, true, false, cond, ltb, ◌⊎◌, List, [], ◌∷◌, ◌++◌, map, length, get_or, None, sum_by, sum, sym, refl, ap, ◌∙◌, subst, inl, inr, ⊎_elim, mul-le-mul_right, mul-le-mul_left, arith}
use Rattle.std.proofs.lemmas.List.FromFn.{length-map-range_with_len}
use Rattle.std.proofs.lemmas.List.Sums.{sum-map}
use Rattle.std.specs.List.{range_with_len}
use Rattle.grid.proofs.Sums.{sum_le}
use Rattle.timing.specs.Fluid.{Accepted}
use Rattle.plan.specs.Table.{open_into}
use Rattle.law.specs.Queues.{finish, stamps, bytes_of}
use Rattle.law.specs.Port.{Within}
use Rattle.law.proofs.StartsOfFlow.{Along, along_at}
use Rattle.store.specs.declared.meaning.TheConstants.{MOST_STORED}
use Rattle.law.specs.Journeys.{crossed, departed, inside}
use Rattle.law.specs.Step.{Plan, Switch, after_tick}
use Rattle.departure.specs.declared.Departure.{Departure}
use Rattle.plan.specs.Refusals.{arrive_refusal}
use Rattle.law.specs.Runs.{departure, no_packet, Call, arrive, step, ask, Answer, granted, Run, at_seal, accepts, is_full, is_unlawful, ticks, no_tick, asks, no_ask, all_inside}
use Rattle.law.specs.Promises.{clock_of, accepted_of, departures_of, InStep, Promises, Bookable, RunsKeepPromises}
use Rattle.law.proofs.EndedPackets.{ended_le_starts, ended_le_packets}
use Rattle.law.proofs.StampsOfFlow.{stamp_at_bytes}
use Rattle.law.proofs.LogOfFlow.{Told, told_other}
use Rattle.law.proofs.LawfulArrivals.{lawful}
use Rattle.law.proofs.SwitchInvariant.{Moment, late, begun_by, moment_seal, moment_arrives, moment_ticks, output_waits}
use Rattle.law.proofs.PacketsInside.{none_inside, one_more_inside, no_more_inside}
use Rattle.law.proofs.Peaks.{bytes_between, in_order, Peaked, peaked_seal, peaked_arrives, peaked_ticks, held_as_told, peak_covers_held, first_at, first_crossed}
use Rattle.law.proofs.FlowInvariant.{Steady, share, is_gone, held_from}
use Rattle.law.proofs.OneAtATime.{LinesCarry, lines_seal, lines_arrive, lines_tick}
use Rattle.law.proofs.DeparturesInStep.{step_lists_now, departures_bytes, on_line_is}
use Rattle.law.proofs.Lists.{map_same}

module _ (plan : Plan) (M : ℕ) (bookable : Bookable plan) where
  -- a call that changes nothing and lists nothing
  idle_call : (log : List (Call × Answer)) (s : Switch) (entry : Call × Answer) → clock_of (entry ∷ log) ≡ clock_of log → ((i j : ℕ) → accepted_of i j (entry ∷ log) ≡ accepted_of i j log ++ []) → ((i j : ℕ) → departures_of i j (entry ∷ log) ≡ departures_of i j log ++ []) → Moment plan log s → Moment plan (entry ∷ log) s
  idle_call log s entry clock acc deps m =
      record {
        inputs = m.inputs;
        outputs = m.outputs;
        flows = m.flows;
        told = λ i j hi hj.
            subst (λ (xs : List Accepted). Told plan s.clock xs (departures_of i j (entry ∷ log)) i j (s.flow i j)) (sym (acc i j))
            (subst (λ (ds : List Departure). Told plan s.clock (accepted_of i j log ++ []) ds i j (s.flow i j)) (sym (deps i j))
            (told_other plan i j s.clock (accepted_of i j log) (departures_of i j log) (s.flow i j) (m.told i j hi hj)));
        clock_told = clock ∙ m.clock_told;
        peaks = m.peaks;
      }

  pub moment : {log : List (Call × Answer)} {s : Switch} → Run plan M log s → Moment plan log s
  moment at_seal = moment_seal plan bookable
  moment (accepts {log = log} {s = s} i j b d e room) = moment_arrives plan bookable log s (moment d) i j b (lawful plan i j b e)
  moment (is_full {log = log} {s = s} i j b d e full) = idle_call log s _ refl (λ _ _. refl) (λ _ _. refl) (moment d)
  moment (is_unlawful {log = log} {s = s} i j b f d e) = idle_call log s _ refl (λ _ _. refl) (λ _ _. refl) (moment d)
  moment (ticks {log = log} {s = s} room cross send d e st) = moment_ticks plan bookable log s (moment d) cross send st room
  moment (no_tick {log = log} {s = s} room f d e) = idle_call log s _ refl (λ _ _. refl) (λ _ _. refl) (moment d)
  moment (asks {log = log} {s = s} i j d e) = idle_call log s _ refl (λ _ _. refl) (λ _ _. refl) (moment d)
  moment (no_ask {log = log} {s = s} i j f d e) = idle_call log s _ refl (λ _ _. refl) (λ _ _. refl) (moment d)

  lines : {log : List (Call × Answer)} {s : Switch} → Run plan M log s → LinesCarry plan s
  lines at_seal = lines_seal plan
  lines (accepts {log = log} {s = s} i j b d e room) = lines_arrive plan log s (moment d) (lines d) i j b
  lines (is_full i j b d e full) = lines d
  lines (is_unlawful i j b f d e) = lines d
  lines (ticks {log = log} {s = s} room cross send d e st) = lines_tick plan log s (moment d) (lines d) cross send st
  lines (no_tick room f d e) = lines d
  lines (asks i j d e) = lines d
  lines (no_ask i j f d e) = lines d

  in_step : {log : List (Call × Answer)} {s : Switch} → Run plan M log s → (i j : ℕ) → i < plan.ports → j < plan.ports → InStep i j log
  in_step at_seal i j hi hj = tt
  in_step (accepts a c b d e room) i j hi hj = (tt, in_step d i j hi hj)
  in_step (is_full a c b d e full) i j hi hj = (tt, in_step d i j hi hj)
  in_step (is_unlawful a c b f d e) i j hi hj = (tt, in_step d i j hi hj)
  in_step (ticks {log = log} {s = s} room cross send d e st) i j hi hj =
      (step_lists_now plan log (after_tick plan s cross send) s.clock (moment d).clock_told (lines (ticks room cross send d e st)) i j hi hj, in_step d i j hi hj)
  in_step (no_tick room f d e) i j hi hj = (tt, in_step d i j hi hj)
  in_step (asks a c d e) i j hi hj = (tt, in_step d i j hi hj)
  in_step (no_ask a c f d e) i j hi hj = (tt, in_step d i j hi hj)

  peaked : {log : List (Call × Answer)} {s : Switch} → Run plan M log s → Peaked plan s
  peaked at_seal = peaked_seal plan
  peaked (accepts {log = log} {s = s} i j b d e room) = peaked_arrives plan log s (moment d) (peaked d) i j b
  peaked (is_full i j b d e full) = peaked d
  peaked (is_unlawful i j b r d e) = peaked d
  peaked (ticks {log = log} {s = s} room cross send d e st) = peaked_ticks plan log s (moment d) (peaked d) cross send st _ (moment (ticks room cross send d e st))
  peaked (no_tick room r d e) = peaked d
  peaked (asks i j d e) = peaked d
  peaked (no_ask i j r d e) = peaked d

  -- what has started out has wholly crossed
  pub sent_crossed : {log : List (Call × Answer)} {s : Switch} → Run plan M log s → (i j : ℕ) → i < plan.ports → j < plan.ports → length (s.flow i j).sendings ≤ crossed s.clock (s.flow i j)
  sent_crossed {s = s} d i j hi hj = first_crossed s.clock (s.flow i j).accepted (s.flow i j).crossings (s.flow i j).sendings ((peaked d).firsts i j hi hj)

  few : {log : List (Call × Answer)} {s : Switch} → Run plan M log s → all_inside plan s ≤ MOST_STORED
  few at_seal = omega (arith, none_inside plan)
  few (accepts {log = log} {s = s} i j b d e room) = omega (arith, one_more_inside plan log s (moment d) i j b, room)
  few (is_full i j b d e full) = few d
  few (is_unlawful i j b r d e) = few d
  few (ticks {log = log} {s = s} room cross send d e st) = omega (arith, no_more_inside plan log s (moment d) cross send, few d)
  few (no_tick room r d e) = few d
  few (asks i j d e) = few d
  few (no_ask i j r d e) = few d

  -- the packets inside, as the log tells them
  told_inside : List (Call × Answer) → ℕ
  told_inside log = sum_by (λ i. sum_by (λ j. length (accepted_of i j log) - length (departures_of i j log)) (range_with_len 0 plan.ports)) (range_with_len 0 plan.ports)

  sum_same : (f g : ℕ → ℕ) (n : ℕ) → ((k : ℕ) → k < n → f k ≡ g k) → sum_by f (range_with_len 0 n) ≡ sum_by g (range_with_len 0 n)
  sum_same f g n h = sym (sum-map f (range_with_len 0 n)) ∙ ap sum (map_same f g n h) ∙ sum-map g (range_with_len 0 n)

  length_map : {X : Type 0} (f : ℕ → X) (n : ℕ) → length (map f (range_with_len 0 n)) ≡ n
  length_map f n = length-map-range_with_len f 0 n

  inside_as_told : {log : List (Call × Answer)} {s : Switch} → Moment plan log s → all_inside plan s ≡ told_inside log
  unfolding told_inside
  inside_as_told {log} {s} m =
      sum_same (λ i. sum_by (λ j. inside s.clock (s.flow i j)) (range_with_len 0 plan.ports)) (λ i. sum_by (λ j. length (accepted_of i j log) - length (departures_of i j log)) (range_with_len 0 plan.ports)) plan.ports
      (λ i hi. sum_same (λ j. inside s.clock (s.flow i j)) (λ j. length (accepted_of i j log) - length (departures_of i j log)) plan.ports
      (λ j hj.
      let t = m.told i j hi hj in
      let a = ap length t.accepted_is in
      let d = ap length t.departures_is ∙ length_map (departure plan i j (s.flow i j)) (departed s.clock (s.flow i j)) in
      omega arith))

  -- a lawful arrival is granted, or the store may be full
  GrantedOrFull : List (Call × Answer) → Type 0
  GrantedOrFull [] = Unit {0}
  GrantedOrFull ((arrive i j b, answer) ∷ log) = arrive_refusal plan.ports plan.longest plan.weight i j b ≡ None → (answer ≡ granted) ⊎ (M ≤ told_inside log)
  GrantedOrFull ((step room, answer) ∷ log) = Unit {0}
  GrantedOrFull ((ask i j, answer) ∷ log) = Unit {0}

  granted_or_full : {log : List (Call × Answer)} {s : Switch} → Run plan M log s → GrantedOrFull log
  unfolding GrantedOrFull
  granted_or_full at_seal = tt
  granted_or_full (accepts i j b d e room) = λ _. inl refl
  granted_or_full (is_full {log = log} {s = s} i j b d e full) = λ _. inr (omega (arith, inside_as_told {log = log} {s = s} (moment d)))
  granted_or_full (is_unlawful i j b f d e) = λ none. absurd (none-some _ (sym none ∙ e))
  granted_or_full (ticks room cross send d e st) = tt
  granted_or_full (no_tick room f d e) = tt
  granted_or_full (asks i j d e) = tt
  granted_or_full (no_ask i j f d e) = tt

  module _ (log : List (Call × Answer)) (s : Switch) (run : Run plan M log s) (i j : ℕ) (hi : i < plan.ports) (hj : j < plan.ports) where
    granted_next : all_inside plan s < M → (b : ℕ) (answer : Answer) (next : Switch) → arrive_refusal plan.ports plan.longest plan.weight i j b ≡ None → Run plan M ((arrive i j b, answer) ∷ log) next → answer ≡ granted
    unfolding GrantedOrFull
    granted_next room b answer next e d =
        ⊎_elim
        (λ (yes-granted : answer ≡ granted). yes-granted)
        (λ (full : M ≤ told_inside log). absurd (omega (arith, inside_as_told {log = log} {s = s} (moment run))))
        (granted_or_full d e)

    -- with c ticks for departures, c at least those of the open flows into the output
    keeps : (c : ℕ) → late plan j ≤ c → Promises plan M c log s i j
    keeps c more =
        let W = plan.parts in
        let L = plan.longest in
        let w = plan.weight i j in
        let f = s.flow i j in
        let t = s.clock in
        let m = moment run in
        let steady = m.flows i j hi hj in
        let told = m.told i j hi hj in
        let l = s.sending_until j - t in
        let waits = output_waits plan bookable log s m i j hi hj in
        let kept = share W L w (late plan j) t l f steady waits f.crossings (begun_now steady) in
        let wc = mul-le-mul_left w more in
        record {
          clock_told = m.clock_told;
          accepted_told = told.accepted_is;
          not_refused = granted_next;
          departures_told = told.departures_is;
          departures_in_step = in_step run i j hi hj;
          on_time = λ k h.
              let started = ended_le_starts t f.accepted f.sendings in
              let within = along_at (λ a v. Within (late plan j) w (finish W a) (v + a.bytes)) (stamps W w 0 f.accepted) f.sendings k (omega arith) steady.out in
              let bytes = stamp_at_bytes W w f.accepted 0 k no_packet refl in
              let tick = ap (λ (b : ℕ). w * (get_or f.sendings k 0 + b)) bytes in
              omega arith;
          gone = λ k h past. is_gone W L w (late plan j) t l f steady waits k h (omega arith);
          keeps_up = omega (arith, kept.behind);
          not_ahead = kept.ahead;
          held_little = omega (arith, held_from W (bytes_of f.accepted (length f.crossings)) (bytes_of f.accepted (departed t f)) (2 * (W * L) + w * late plan j) (omega (arith, kept.held)));
          peak_little = omega (arith, m.peaks i j hi hj);
          held_told = held_as_told plan log s m i j hi hj;
          peak_bounds = (peaked run).bounds i j hi hj;
          peak_reached = (peaked run).reached i j hi hj;
          peak_covers = peak_covers_held plan log s m (peaked run) i j hi hj;
          one_crosses = ((lines run).inputs i hi).one;
          one_leaves = ((lines run).outputs j hj).one;
          crossed_first = λ k l. first_at t f.accepted f.crossings f.sendings k l ((peaked run).firsts i j hi hj);
          inside_told = omega (arith, ap length told.accepted_is, ap length told.departures_is, length_map (departure plan i j f) (departed t f), ended_le_packets t f.accepted f.sendings);
          departed_told = sym (ap (sum_by (λ (d : Departure). d.bytes)) told.departures_is ∙ departures_bytes plan i j f (departed t f) (ended_le_packets t f.accepted f.sendings));
          started_told = omega (arith, bytes_between (departed t f) (length f.crossings) f.accepted (in_order plan log s m i j hi hj));
          waiting_told =
              let crossed-few = ended_le_starts t f.accepted f.crossings in
              let departed-few = ended_le_starts t f.accepted f.sendings in
              let sent = sent_crossed run i j hi hj in
              let crossing = on_line_is t f.accepted f.crossings told.across_after_in (λ x y l ly. ((lines run).inputs i hi).one.in_turn j x y hj l ly) in
              let sending = on_line_is t f.accepted f.sendings (omega (arith, told.out_after_across, told.across_after_in)) (λ x y l ly. ((lines run).outputs j hj).one.in_turn i x y hi l ly) in
              omega (arith, crossing, sending, crossed-few, departed-few, sent, told.across_after_in);
          few_inside = few run;
        }
      where
        begun_now : Steady plan.parts plan.longest (plan.weight i j) (late plan j) s.clock (s.flow i j) →
            Along (λ a u. (a.start ≤ plan.weight i j * u) × (u ≤ s.clock)) (stamps plan.parts (plan.weight i j) 0 (s.flow i j).accepted) (s.flow i j).crossings
        begun_now st = begun_by (plan.weight i j) s.clock (stamps plan.parts (plan.weight i j) 0 (s.flow i j).accepted) (s.flow i j).crossings st.begun

    at_most_one : (b : Bool) → cond b 1 0 ≤ 1
    at_most_one true = omega arith
    at_most_one false = omega arith

    few_open : open_into plan.ports plan.weight j ≤ plan.ports
    few_open = omega (arith, sum_le plan.ports 1 (λ k. cond (ltb 0 (plan.weight k j)) 1 0) (λ k. at_most_one (ltb 0 (plan.weight k j))))

    pub both : Promises plan M ((open_into plan.ports plan.weight j + 1) * plan.longest) log s i j × Promises plan M ((plan.ports + 1) * plan.longest) log s i j
    both =
        let room : open_into plan.ports plan.weight j + 1 ≤ plan.ports + 1 = omega (arith, few_open) in
        (keeps (late plan j) (omega arith), keeps ((plan.ports + 1) * plan.longest) (mul-le-mul_right plan.longest room))

pub runs_keep_promises : RunsKeepPromises
runs_keep_promises plan M bookable log s run i j hi hj = both plan M bookable log s run i j hi hj
