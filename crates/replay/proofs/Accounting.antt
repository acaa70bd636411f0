-- Each arrival is accepted or turned away. Assumes nothing.
use Rattle.std.proofs.Common.{◌≡◌, ℕ, zero, suc, ◌+◌, ◌-◌, ◌<◌, Bool, true, false, cond, ◌&&◌, eqb, List, [], ◌∷◌, ◌++◌, map, sum_by, refl, ap, ◌∙◌, ⊎_elim, arith}
use Rattle.std.proofs.lemmas.Bool.{cond_both, and_from, eq-eqb, eqb-true, and_parts, cases_Bool}
use Rattle.std.proofs.lemmas.List.{append-nil}
use Rattle.std.proofs.lemmas.List.Sums.{sum_by-cons, sum_by_push}
use Rattle.departure.specs.declared.Departure.{Departure}
use Rattle.timing.specs.Fluid.{Accepted}
use Rattle.law.specs.Step.{Plan, Switch}
use Rattle.law.specs.Runs.{leaves}
use Rattle.law.specs.Promises.{clock_of}
use Rattle.law.proofs.LawfulArrivals.{lawful}
use Rattle.replay.specs.Kinds.{Kind}
use Rattle.replay.specs.Replay.{Arrival, MayCome, Replayed, next_switch, run_tick, run_ticks, run_to, offered, run_arrivals}
use Rattle.replay.specs.Events.{Event, left, turned_away, events_of, turned_in}
use Rattle.replay.specs.Follows.{over_flows, Accounted}
use Rattle.replay.proofs.Sums.{flows_alike, flows_gain, flows_none}
use Rattle.replay.proofs.Steps.{to_clock, arrivals_clock, ticks_accepted}

turned_append : (xs ys : List Event) → turned_in (xs ++ ys) ≡ turned_in xs ++ turned_in ys
turned_append [] ys = refl
turned_append (left d ∷ xs) ys = turned_append xs ys
turned_append (turned_away a ∷ xs) ys = ap (λ (rest : List Arrival). a ∷ rest) (turned_append xs ys)

turned_left : (ds : List Departure) → turned_in (map left ds) ≡ []
turned_left [] = refl
turned_left (d ∷ ds) = turned_left ds

turned_more : (events : List Event) (ds : List Departure) → turned_in (events ++ map left ds) ≡ turned_in events
turned_more events ds = turned_append events (map left ds) ∙ ap (λ (more : List Arrival). turned_in events ++ more) (turned_left ds) ∙ append-nil (turned_in events)

module _ {K : Type 0} (plan : Plan) (kind : Kind K) where
  -- ticks turn none away, and the log tells them
  ticks_turned : (n : ℕ) (x : Replayed K) → turned_in (events_of (run_ticks plan kind n x).log) ≡ turned_in (events_of x.log)
  unfolding run_ticks
  ticks_turned zero x = refl
  ticks_turned (suc n) x =
      ticks_turned n (run_tick plan kind x) ∙ turned_more (events_of x.log) (leaves plan (next_switch plan kind x.switch x.kept) x.switch.clock (x.switch.clock + 1))

  ticks_told : (n : ℕ) (x : Replayed K) → clock_of x.log ≡ x.switch.clock → clock_of (run_ticks plan kind n x).log ≡ (run_ticks plan kind n x).switch.clock
  unfolding run_ticks
  ticks_told zero x e = e
  ticks_told (suc n) x e = ticks_told n (run_tick plan kind x) (ap (λ t. t + 1) e)

  arrivals_told : (arrivals : List Arrival) → clock_of (run_arrivals plan kind arrivals).log ≡ (run_arrivals plan kind arrivals).switch.clock
  arrivals_told [] = refl
  arrivals_told (a ∷ earlier) =
      let before = run_arrivals plan kind earlier in
      let x = run_to plan kind a.tick before in
      let told = ticks_told (a.tick - before.switch.clock) before (arrivals_told earlier) in
      cond_both (kind.sign plan x.switch a.input a.output) _ _ (λ (y : Replayed K). clock_of y.log ≡ y.switch.clock) (λ _. told) (λ _. told)

  module _ (f : Arrival → ℕ) where
    -- f of a packet of flow (i, j), and of all that are accepted
    abbrev as_came : ℕ → ℕ → Accepted → ℕ
    as_came i j p = f record { tick = p.arrival; input = i; output = j; bytes = p.bytes }

    abbrev accepted_in : Switch → ℕ
    accepted_in s = over_flows plan (λ i j. sum_by (as_came i j) (s.flow i j).accepted)

    abbrev turned_away_in : Replayed K → ℕ
    turned_away_in x = sum_by f (turned_in (events_of x.log))

    ticks_count : (n : ℕ) (x : Replayed K) → turned_away_in (run_ticks plan kind n x) + accepted_in (run_ticks plan kind n x).switch ≡ turned_away_in x + accepted_in x.switch
    ticks_count n x =
        let away = ap (sum_by f) (ticks_turned n x) in
        let inside = flows_alike plan (λ i j. sum_by (as_came i j) ((run_ticks plan kind n x).switch.flow i j).accepted) (λ i j. sum_by (as_came i j) (x.switch.flow i j).accepted)
        (λ i j _ _. ap (sum_by (as_came i j)) (ticks_accepted plan kind n x i j)) in
        omega (arith, away, inside)

    -- one packet more in its flow, or none
    more_mine : (i j : ℕ) (p : Accepted) (ps : List Accepted) (mine : Bool) → mine ≡ true → sum_by (as_came i j) (ps ++ cond mine (p ∷ []) []) ≡ as_came i j p + sum_by (as_came i j) ps
    more_mine i j p ps mine e =
        ap (λ (b : Bool). sum_by (as_came i j) (ps ++ cond b (p ∷ []) [])) e ∙ omega (arith, sum_by_push (as_came i j) ps p)

    none_mine : (i j : ℕ) (p : Accepted) (ps : List Accepted) (mine : Bool) → mine ≡ false → sum_by (as_came i j) (ps ++ cond mine (p ∷ []) []) ≡ sum_by (as_came i j) ps
    none_mine i j p ps mine e =
        ap (λ (b : Bool). sum_by (as_came i j) (ps ++ cond b (p ∷ []) [])) e ∙ ap (sum_by (as_came i j)) (append-nil ps)

    offered_count : (a : Arrival) (x : Replayed K) → a.input < plan.ports → a.output < plan.ports → x.switch.clock ≡ a.tick → clock_of x.log ≡ x.switch.clock →
        turned_away_in (offered plan kind a x) + accepted_in (offered plan kind a x).switch ≡ f a + (turned_away_in x + accepted_in x.switch)
    offered_count a x hi hj now told =
        cond_both (kind.sign plan x.switch a.input a.output) _ _ (λ (y : Replayed K). turned_away_in y + accepted_in y.switch ≡ f a + (turned_away_in x + accepted_in x.switch))
        (λ _.
        let away : Arrival = record { tick = clock_of x.log; input = a.input; output = a.output; bytes = a.bytes } in
        let same : f away ≡ f a = ap (λ t. f record { tick = t; input = a.input; output = a.output; bytes = a.bytes }) (told ∙ now) in
        let more = ap (sum_by f) (turned_append (events_of x.log) (turned_away away ∷ [])) ∙ sum_by_push f (turned_in (events_of x.log)) away in
        omega (arith, more, same))
        (λ _.
        let p : Accepted = record { arrival = x.switch.clock; bytes = a.bytes } in
        let same : as_came a.input a.output p ≡ f a = ap (λ t. f record { tick = t; input = a.input; output = a.output; bytes = a.bytes }) now in
        let mine = λ (i j : ℕ). eqb i a.input && eqb j a.output in
        let gain = flows_gain plan (λ i j. sum_by (as_came i j) ((x.switch.flow i j).accepted ++ cond (mine i j) (p ∷ []) [])) (λ i j. sum_by (as_came i j) (x.switch.flow i j).accepted) (as_came a.input a.output p) a.input a.output hi hj
        (more_mine a.input a.output p (x.switch.flow a.input a.output).accepted (mine a.input a.output) (and_from (eqb a.input a.input) (eqb a.output a.output) (eq-eqb a.input a.input refl) (eq-eqb a.output a.output refl)))
        (λ i j ne. none_mine i j p (x.switch.flow i j).accepted (mine i j) (other i j ne)) in
        let away = ap (sum_by f) (ap turned_in (append-nil (events_of x.log))) in
        omega (arith, away, gain, same))
      where
        other : (i j : ℕ) → ((i ≡ a.input) × (j ≡ a.output) → ⊥) → (eqb i a.input && eqb j a.output) ≡ false
        other i j ne =
            ⊎_elim
            (λ (t : (eqb i a.input && eqb j a.output) ≡ true). let both = and_parts (eqb i a.input) (eqb j a.output) t in absurd (ne (eqb-true i a.input both.0, eqb-true j a.output both.1)))
            (λ (t : (eqb i a.input && eqb j a.output) ≡ false). t)
            (cases_Bool (eqb i a.input && eqb j a.output))

    arrivals_count : (arrivals : List Arrival) → MayCome plan arrivals → sum_by f arrivals ≡ turned_away_in (run_arrivals plan kind arrivals) + accepted_in (run_arrivals plan kind arrivals).switch
    arrivals_count [] h = omega (arith, flows_none plan)
    arrivals_count (a ∷ earlier) h =
        let before = run_arrivals plan kind earlier in
        let n = a.tick - before.switch.clock in
        let x = run_ticks plan kind n before in
        let law = lawful plan a.input a.output a.bytes h.0 in
        let now = to_clock plan kind a.tick before (omega (arith, arrivals_clock plan kind earlier h.2, h.1)) in
        let told = ticks_told n before (arrivals_told earlier) in
        omega (arith, sum_by-cons f a earlier, arrivals_count earlier h.2, ticks_count n before, offered_count a x law.input_in law.output_in now told)

  pub accounted : (arrivals : List Arrival) → MayCome plan arrivals → (n : ℕ) → Accounted plan arrivals (run_ticks plan kind n (run_arrivals plan kind arrivals))
  accounted arrivals h n f = omega (arith, arrivals_count f arrivals h, ticks_count f n (run_arrivals plan kind arrivals))
