-- A replay is a run of the law. Assumes nothing.
use Rattle.std.proofs.Common.{◌≡◌, ℕ, zero, suc, ◌+◌, ◌-◌, ◌<◌, ◌≤◌, Bool, true, false, cond, ◌&&◌, eqb, List, [], ◌∷◌, ◌++◌, map, length, get_or, filter, None, inl, sym, refl, ap, ◌∙◌, subst, arith}
use Rattle.std.proofs.lemmas.Bool.{cond_both, and_parts, eqb-true, le-ltb, lt-leb}
use Rattle.std.proofs.lemmas.List.{append-nil, length_push}
use Rattle.std.proofs.lemmas.List.Elements.{All-nil, All-append, All-map, All-push, All-from_recursion}
use Rattle.std.proofs.lemmas.List.Quantifiers.{all_pairs_push}
use Rattle.std.specs.List.{All, AllPairs}
use Rattle.departure.specs.declared.Departure.{Departure}
use Rattle.timing.specs.Fluid.{Accepted}
use Rattle.plan.specs.Numbers.{arrive_number}
use Rattle.plan.specs.Refusals.{arrive_refusal, step_refusal}
use Rattle.plan.specs.declared.fault.ArriveFault.TheVariants.{Full}
use Rattle.plan.specs.declared.fault.TheConstants.{LAST_TICK}
use Rattle.law.specs.Journeys.{Journeys, inside}
use Rattle.law.specs.Step.{Plan, Switch, Starts, names, with_start}
use Rattle.tie.specs.PicksTied.{PicksTied}
use Rattle.law.specs.Rules.{crossing_choice, sending_choice, answers_in_order}
use Rattle.law.specs.Runs.{arrive, step, Answer, granted, refused, listed, Run, at_seal, accepts, is_full, ticks, arrived, flow_leaves, leaves}
use Rattle.law.specs.Promises.{Bookable, clock_of, of_flow}
use Rattle.law.proofs.EndedPackets.{ended_more_packets, ended_later}
use Rattle.law.proofs.LogOfFlow.{ended_noted}
use Rattle.law.proofs.LawfulArrivals.{lawful}
use Rattle.law.proofs.DeparturesOfFlow.{kept_leaves}
use Rattle.law.proofs.PromisesKept.{moment, runs_keep_promises}
use Rattle.law.proofs.RuleAnswers.{asking_makes_steps}
use Rattle.replay.specs.Kinds.{Kind, IsNext, SignFits}
use Rattle.replay.specs.Replay.{Arrival, last_tick, MayCome, Replayed, kept_at, next_switch, run_tick, run_ticks, run_to, offered, run_arrivals}
use Rattle.replay.specs.Replay as replay
use Rattle.replay.specs.Events.{Event, left, turned_away, events_of, left_in, Before}
use Rattle.replay.proofs.Lists.{pairs_none, pairs_append, pairs_map}
use Rattle.replay.proofs.Logs.{listed_by, left_more}
use Rattle.replay.proofs.Leaving.{OfPlan, leaves_of_plan, all_leaves, leaves_in_order}
use Rattle.replay.proofs.Asked.{asks_in_order}
use Rattle.replay.proofs.Steps.{arrivals_clock}

-- when an event happens, and what may come behind it
abbrev pub when : Event → ℕ
when (left d) = d.tick
when (turned_away a) = a.tick

before_left : (e : Event) (d : Departure) → when e < d.tick → Before e (left d)
before_left (left c) d h = inl h
before_left (turned_away a) d h = h

before_turned : (e : Event) (a : Arrival) → when e ≤ a.tick → Before e (turned_away a)
before_turned (left c) a h = h
before_turned (turned_away b) a h = h

module _ {K : Type 0} (plan : Plan) (kind : Kind K) (M most : ℕ) (bookable : Bookable plan) (fits : SignFits plan M most kind.sign) (picks-tied : (kept : K) → PicksTied (kind.answer kept)) where
  pub record Running (x : Replayed K) : Type 0 where
    pub run : Run plan M x.log x.switch
    pub few : (i j : ℕ) → i < plan.ports → j < plan.ports → inside x.switch.clock (x.switch.flow i j) ≤ most
    pub of_plan : All (OfPlan plan) (left_in x.log)
    pub past : All (λ e. when e ≤ x.switch.clock) (events_of x.log)
    pub in_order : AllPairs Before (events_of x.log)

  pub seal_runs : Running (replay.at_start plan kind)
  seal_runs =
      record {
        run = at_seal;
        few = λ i j hi hj. omega arith;
        of_plan = All-nil (OfPlan plan);
        past = All-nil (λ e. when e ≤ 0);
        in_order = pairs_none Before;
      }

  -- what the rule answers makes a step
  starts : (x : Replayed K) → Running x → Starts plan x.switch (crossing_choice plan x.switch (answers_in_order kind.answer (IsNext kind) (kept_at plan kind x.switch x.kept))) (sending_choice plan x.switch (answers_in_order kind.answer (IsNext kind) (kept_at plan kind x.switch x.kept)))
  starts x r = asking_makes_steps kind.answer (IsNext kind) picks-tied x.kept plan M bookable x.log x.switch r.run (kept_at plan kind x.switch x.kept) (asks_in_order plan kind x.switch x.kept)

  granted_step : (s : Switch) → s.clock < LAST_TICK → step_refusal plan.ports plan.ports s.clock ≡ None
  granted_step s h = rw (le-ltb plan.ports plan.ports (omega arith), lt-leb LAST_TICK s.clock h) refl

  module _ (x : Replayed K) (r : Running x) (early : x.switch.clock < LAST_TICK) where
    next : Replayed K
    next = run_tick plan kind x

    next_run : Run plan M next.log next.switch
    unfolding next
    next_run = ticks plan.ports _ _ r.run (granted_step x.switch early) (starts x r)

    -- a tick lets nothing in
    next_few : (i j : ℕ) → i < plan.ports → j < plan.ports → inside next.switch.clock (next.switch.flow i j) ≤ most
    unfolding next
    next_few i j hi hj =
        let s = x.switch in
        let answers = answers_in_order kind.answer (IsNext kind) (kept_at plan kind s x.kept) in
        let across = names (crossing_choice plan s answers i) j in
        let out = names (sending_choice plan s answers j) i in
        let some = ((moment plan M bookable r.run).told i j hi hj).some_bytes in
        let same = ended_noted out s.clock (s.flow i j) (with_start across s.clock (s.flow i j).crossings) some in
        let more = ended_later s.clock (s.flow i j).accepted (with_start out s.clock (s.flow i j).sendings) in
        omega (arith, r.few i j hi hj, same, more)

    -- what leaves, leaves now
    next_now : (i j : ℕ) → i < plan.ports → j < plan.ports → All (λ d. d.tick ≡ x.switch.clock + 1) (flow_leaves plan x.switch.clock (x.switch.clock + 1) i j (next.switch.flow i j))
    unfolding next
    next_now i j hi hj =
        let promises = (runs_keep_promises plan M bookable next.log next.switch next_run i j hi hj).0 in
        let told = (moment plan M bookable r.run).clock_told in
        let at-told = All-from_recursion (λ d. d.tick ≡ clock_of x.log + 1) _ promises.departures_in_step.0 in
        subst (λ ds. All (λ d. d.tick ≡ x.switch.clock + 1) ds) (kept_leaves plan next.switch x.switch.clock (x.switch.clock + 1) i j hi hj)
        (subst (λ t. All (λ d. d.tick ≡ t + 1) (filter (of_flow i j) (leaves plan next.switch x.switch.clock (x.switch.clock + 1)))) told at-told)

    now_left : List Departure
    now_left = leaves plan next.switch x.switch.clock (x.switch.clock + 1)

    all_now : All (λ d. d.tick ≡ x.switch.clock + 1) now_left
    unfolding now_left
    all_now = all_leaves plan next.switch x.switch.clock (x.switch.clock + 1) (λ d. d.tick ≡ x.switch.clock + 1) next_now

    next_left : left_in next.log ≡ left_in x.log ++ now_left
    unfolding next now_left
    next_left = left_more (step plan.ports) (listed now_left) x.log

    pub tick_runs : Running (run_tick plan kind x)
    unfolding next now_left
    tick_runs =
        record {
          run = next_run;
          few = next_few;
          of_plan = subst (λ ds. All (OfPlan plan) ds) (sym next_left) (All-append (OfPlan plan) (left_in x.log) now_left r.of_plan (leaves_of_plan plan next.switch x.switch.clock (x.switch.clock + 1)));
          past = All-append (λ e. when e ≤ x.switch.clock + 1) (events_of x.log) (map left now_left) (λ k d l. omega (arith, r.past k d l)) (All-map (λ e. when e ≤ x.switch.clock + 1) left now_left (λ k d l. omega (arith, all_now k d l)));
          in_order =
              pairs_append Before (events_of x.log) (map left now_left) r.in_order (pairs_map Before left now_left (leaves_in_order plan next.switch x.switch.clock (x.switch.clock + 1) (x.switch.clock + 1) next_now))
              (λ k d l. All-map (Before (get_or (events_of x.log) k d)) left now_left (λ m e h. before_left (get_or (events_of x.log) k d) _ (omega (arith, r.past k d l, all_now m e h))));
        }

  pub ticks_run : (n : ℕ) (x : Replayed K) → x.switch.clock + n ≤ LAST_TICK → Running x → Running (run_ticks plan kind n x)
  unfolding run_ticks
  ticks_run zero x h r = r
  ticks_run (suc n) x h r = ticks_run n (run_tick plan kind x) (omega arith) (tick_runs x r (omega arith))

  -- one packet more in its flow, or none
  more_few : (t b : ℕ) (mine : Bool) (f : Journeys) → (mine ≡ true → inside t f < most) → inside t f ≤ most → length f.sendings ≤ length f.accepted →
      inside t record { accepted = f.accepted ++ cond mine (record { arrival = t; bytes = b } ∷ []) []; crossings = f.crossings; sendings = f.sendings } ≤ most
  more_few t b true f room few order =
      let p : Accepted = record { arrival = t; bytes = b } in
      omega (arith, room refl, length_push f.accepted p, ended_more_packets t f.accepted f.sendings p order)
  more_few t b false f room few order =
      subst (λ (ps : List Accepted). inside t record { accepted = ps; crossings = f.crossings; sendings = f.sendings } ≤ most) (sym (append-nil f.accepted)) few

  module _ (a : Arrival) (x : Replayed K) (r : Running x) (lawful-here : arrive_refusal plan.ports plan.longest plan.weight a.input a.output a.bytes ≡ None) where
    same_left : (answer : Answer) → listed_by answer ≡ [] → left_in ((arrive a.input a.output a.bytes, answer) ∷ x.log) ≡ left_in x.log
    same_left answer none = left_more (arrive a.input a.output a.bytes) answer x.log ∙ ap (λ ds. left_in x.log ++ ds) none ∙ append-nil (left_in x.log)

    turned_runs : kind.sign plan x.switch a.input a.output ≡ true → Running record { switch = x.switch; kept = x.kept; log = (arrive a.input a.output a.bytes, refused (arrive_number Full)) ∷ x.log }
    turned_runs up =
        let law = lawful plan a.input a.output a.bytes lawful-here in
        let told = (moment plan M bookable r.run).clock_told in
        let away : Event = turned_away record { tick = clock_of x.log; input = a.input; output = a.output; bytes = a.bytes } in
        record {
          run = is_full a.input a.output a.bytes r.run lawful-here (fits.up x.switch a.input a.output law.input_in law.output_in up);
          few = r.few;
          of_plan = subst (λ ds. All (OfPlan plan) ds) (sym (same_left (refused (arrive_number Full)) refl)) r.of_plan;
          past = All-push (λ e. when e ≤ x.switch.clock) (events_of x.log) away r.past (omega (arith, told));
          in_order = all_pairs_push Before (events_of x.log) away r.in_order (λ k d l. before_turned (get_or (events_of x.log) k d) _ (omega (arith, r.past k d l, told)));
        }

    accepted_runs : kind.sign plan x.switch a.input a.output ≡ false → Running record { switch = arrived x.switch a.input a.output a.bytes; kept = x.kept; log = (arrive a.input a.output a.bytes, granted) ∷ x.log }
    accepted_runs down =
        let law = lawful plan a.input a.output a.bytes lawful-here in
        let room = fits.down x.switch a.input a.output law.input_in law.output_in down r.few in
        let same = sym (append-nil (events_of x.log)) in
        record {
          run = accepts a.input a.output a.bytes r.run lawful-here room.1;
          few = λ i j hi hj.
              let told = (moment plan M bookable r.run).told i j hi hj in
              more_few x.switch.clock a.bytes (eqb i a.input && eqb j a.output) (x.switch.flow i j)
              (λ e. let both = and_parts (eqb i a.input) (eqb j a.output) e in
              subst (λ v. inside x.switch.clock (x.switch.flow v j) < most) (sym (eqb-true i a.input both.0))
              (subst (λ v. inside x.switch.clock (x.switch.flow a.input v) < most) (sym (eqb-true j a.output both.1)) room.0))
              (r.few i j hi hj) (omega (arith, told.out_after_across, told.across_after_in));
          of_plan = subst (λ ds. All (OfPlan plan) ds) (sym (same_left granted refl)) r.of_plan;
          past = subst (λ es. All (λ e. when e ≤ x.switch.clock) es) same r.past;
          in_order = subst (λ es. AllPairs Before es) same r.in_order;
        }

    pub offered_runs : Running (offered plan kind a x)
    offered_runs = cond_both (kind.sign plan x.switch a.input a.output) _ _ Running turned_runs accepted_runs

  pub arrivals_run : (arrivals : List Arrival) → MayCome plan arrivals → last_tick arrivals ≤ LAST_TICK → Running (run_arrivals plan kind arrivals)
  arrivals_run [] h late = seal_runs
  arrivals_run (a ∷ earlier) h late =
      let before = run_arrivals plan kind earlier in
      let clock = arrivals_clock plan kind earlier h.2 in
      offered_runs a (run_to plan kind a.tick before) (ticks_run (a.tick - before.switch.clock) before (omega (arith, clock, h.1)) (arrivals_run earlier h.2 (omega (arith, h.1)))) h.0

  -- so does each of its moments
  pub moments_run : (arrivals : List Arrival) → MayCome plan arrivals → (n : ℕ) → last_tick arrivals + n ≤ LAST_TICK → Running (run_ticks plan kind n (run_arrivals plan kind arrivals))
  moments_run arrivals h n late =
      ticks_run n (run_arrivals plan kind arrivals) (omega (arith, arrivals_clock plan kind arrivals h)) (arrivals_run arrivals h (omega arith))
