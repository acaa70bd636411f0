-- How many packets are inside, before and after a tick and an arrival. Assumes nothing.
use Rattle.std.proofs.Common.{◌≡◌, ℕ, ◌+◌, ◌-◌, ◌<◌, ◌≤◌, Bool, true, false, cond, ◌&&◌, eqb, List, [], ◌∷◌, ◌++◌, length, Option, sum_by, sym, refl, ap, ◌∙◌, ⊎_elim, arith}
use Rattle.std.proofs.lemmas.Bool.{and_from, and_parts, eq-eqb, eqb-true, cases_Bool}
use Rattle.std.proofs.lemmas.List.{append-nil, length_push}
use Rattle.std.proofs.lemmas.List.Concat.{length-flat_map}
use Rattle.std.proofs.lemmas.List.FromFn.{length-map-range_with_len}
use Rattle.std.proofs.lemmas.List.Sums.{sum_by-cons}
use Rattle.std.specs.List.{range_with_len, flat_map}
use Rattle.timing.specs.Fluid.{Accepted}
use Rattle.law.specs.Journeys.{Journeys, ended, departed, inside}
use Rattle.law.specs.Step.{Plan, Switch, sealed, names, with_start, after_tick}
use Rattle.law.specs.Runs.{Call, Answer, Run, arrived, departure, flow_leaves, leaves, all_inside}
use Rattle.law.specs.Promises.{Bookable}
use Rattle.law.proofs.EndedPackets.{ended_more_packets, ended_le_packets, ended_later}
use Rattle.law.proofs.LogOfFlow.{ended_noted}
use Rattle.law.proofs.PromisesKept.{moment}
use Rattle.replay.specs.Follows.{over_flows}
use Rattle.replay.proofs.Sums.{flows_alike, flows_none, flows_gain}

-- a sum of sums
sum_plus : {X : Type 0} (f g : X → ℕ) (xs : List X) → sum_by (λ x. f x + g x) xs ≡ sum_by f xs + sum_by g xs
sum_plus f g [] = refl
sum_plus f g (x ∷ xs) = omega (arith, sum_plus f g xs, sum_by-cons (λ y. f y + g y) x xs, sum_by-cons f x xs, sum_by-cons g x xs)

sum_none : {X : Type 0} (xs : List X) → sum_by (λ x. 0) xs ≡ 0
sum_none [] = refl
sum_none {X} (x ∷ xs) = omega (arith, sum_none xs, sum_by-cons (λ (y : X). 0) x xs)

sum_alike : {X : Type 0} (f g : X → ℕ) (xs : List X) → ((x : X) → f x ≡ g x) → sum_by f xs ≡ sum_by g xs
sum_alike f g xs same = λ k. sum_by (λ x. same x k) xs

-- rows first, or columns first
sum_turned : (f : ℕ → ℕ → ℕ) (xs ys : List ℕ) → sum_by (λ j. sum_by (λ i. f i j) xs) ys ≡ sum_by (λ i. sum_by (λ j. f i j) ys) xs
sum_turned f [] ys = sum_none ys
sum_turned f (x ∷ xs) ys =
    sum_alike (λ j. sum_by (λ i. f i j) (x ∷ xs)) (λ j. f x j + sum_by (λ i. f i j) xs) ys (λ j. sum_by-cons (λ i. f i j) x xs)
    ∙ sum_plus (f x) (λ j. sum_by (λ i. f i j) xs) ys
    ∙ ap (λ n. sum_by (f x) ys + n) (sum_turned f xs ys)
    ∙ sym (sum_by-cons (λ i. sum_by (f i) ys) x xs)

module _ (plan : Plan) where
  flows_plus : (f g : ℕ → ℕ → ℕ) → over_flows plan (λ i j. f i j + g i j) ≡ over_flows plan f + over_flows plan g
  flows_plus f g =
      let ports = range_with_len 0 plan.ports in
      sum_alike (λ i. sum_by (λ j. f i j + g i j) ports) (λ i. sum_by (f i) ports + sum_by (g i) ports) ports (λ i. sum_plus (f i) (g i) ports)
      ∙ sum_plus (λ i. sum_by (f i) ports) (λ i. sum_by (g i) ports) ports

  leaves_counted : (s : Switch) (from to : ℕ) → length (leaves plan s from to) ≡ over_flows plan (λ i j. departed to (s.flow i j) - departed from (s.flow i j))
  leaves_counted s from to =
      let ports = range_with_len 0 plan.ports in
      let row : ℕ → List _ = λ j. flat_map (λ i. flow_leaves plan from to i j (s.flow i j)) ports in
      let n : ℕ → ℕ → ℕ = λ i j. departed to (s.flow i j) - departed from (s.flow i j) in
      length-flat_map row ports
      ∙ sum_alike (λ j. length (row j)) (λ j. sum_by (λ i. n i j) ports) ports
      (λ j. length-flat_map (λ i. flow_leaves plan from to i j (s.flow i j)) ports
      ∙ sum_alike (λ i. length (flow_leaves plan from to i j (s.flow i j))) (λ i. n i j) ports (λ i. length-map-range_with_len (departure plan i j (s.flow i j)) (departed from (s.flow i j)) (n i j)))
      ∙ sum_turned n ports ports

  -- by a tick those fewer that leave
  pub tick_inside : (M : ℕ) → Bookable plan → (log : List (Call × Answer)) (s : Switch) → Run plan M log s → (cross send : ℕ → Option ℕ) →
      all_inside plan s ≡ length (leaves plan (after_tick plan s cross send) s.clock (s.clock + 1)) + all_inside plan (after_tick plan s cross send)
  tick_inside M bookable log s run cross send =
      let next = after_tick plan s cross send in
      let left : ℕ → ℕ → ℕ = λ i j. departed (s.clock + 1) (next.flow i j) - departed s.clock (next.flow i j) in
      let rest : ℕ → ℕ → ℕ = λ i j. inside (s.clock + 1) (next.flow i j) in
      flows_alike plan (λ i j. inside s.clock (s.flow i j)) (λ i j. left i j + rest i j)
      (λ i j hi hj.
      let some = ((moment plan M bookable run).told i j hi hj).some_bytes in
      let started = with_start (names (cross i) j) s.clock (s.flow i j).crossings in
      let sent = with_start (names (send j) i) s.clock (s.flow i j).sendings in
      let same = ended_noted (names (send j) i) s.clock (s.flow i j) started some in
      let later = ended_later s.clock (s.flow i j).accepted sent in
      let most = ended_le_packets (s.clock + 1) (s.flow i j).accepted sent in
      omega (arith, same, later, most))
      ∙ flows_plus left rest ∙ ap (λ n. n + over_flows plan rest) (sym (leaves_counted next s.clock (s.clock + 1)))

  -- by an arrival one more
  module _ (M : ℕ) (bookable : Bookable plan) (log : List (Call × Answer)) (s : Switch) (run : Run plan M log s) (b : ℕ) where
    abbrev packet : Accepted
    packet = record { arrival = s.clock; bytes = b }

    abbrev with_packet : Bool → Journeys → Journeys
    with_packet mine f = record { accepted = f.accepted ++ cond mine (packet ∷ []) []; crossings = f.crossings; sendings = f.sendings }

    one_more : (i j : ℕ) → i < plan.ports → j < plan.ports → (mine : Bool) → mine ≡ true → inside s.clock (with_packet mine (s.flow i j)) ≡ 1 + inside s.clock (s.flow i j)
    one_more i j hi hj mine e =
        let f = s.flow i j in
        let told = (moment plan M bookable run).told i j hi hj in
        let order : length f.sendings ≤ length f.accepted = omega (arith, told.out_after_across, told.across_after_in) in
        ap (λ (v : Bool). inside s.clock (with_packet v f)) e
        ∙ omega (arith, length_push f.accepted packet, ended_more_packets s.clock f.accepted f.sendings packet order, ended_le_packets s.clock f.accepted f.sendings)

    none_more : (i j : ℕ) (mine : Bool) → mine ≡ false → inside s.clock (with_packet mine (s.flow i j)) ≡ inside s.clock (s.flow i j)
    none_more i j mine e =
        let f = s.flow i j in
        ap (λ (v : Bool). inside s.clock (with_packet v f)) e
        ∙ ap (λ (ps : List Accepted). inside s.clock record { accepted = ps; crossings = f.crossings; sendings = f.sendings }) (append-nil f.accepted)

    pub arrival_inside : (i j : ℕ) → i < plan.ports → j < plan.ports → all_inside plan (arrived s i j b) ≡ 1 + all_inside plan s
    arrival_inside i j hi hj =
        flows_gain plan (λ a c. inside s.clock ((arrived s i j b).flow a c)) (λ a c. inside s.clock (s.flow a c)) 1 i j hi hj
        (one_more i j hi hj (eqb i i && eqb j j) (and_from (eqb i i) (eqb j j) (eq-eqb i i refl) (eq-eqb j j refl)))
        (λ a c ne.
        none_more a c (eqb a i && eqb c j)
        (⊎_elim
        (λ (t : (eqb a i && eqb c j) ≡ true). let both = and_parts (eqb a i) (eqb c j) t in absurd (ne (eqb-true a i both.0, eqb-true c j both.1)))
        (λ (t : (eqb a i && eqb c j) ≡ false). t)
        (cases_Bool (eqb a i && eqb c j))))

  -- at the seal none
  pub none_inside : all_inside plan sealed ≡ 0
  unfolding ended
  none_inside = flows_none plan
