-- What leaves in a step is of flows of the plan, and stands by output. Assumes nothing.
use Rattle.std.proofs.Common.{◌≡◌, ℕ, ◌-◌, ◌<◌, List, inr, sym, refl, ◌∙◌, arith}
use Rattle.std.proofs.lemmas.List.Elements.{All-map}
use Rattle.std.specs.List.{range_with_len, flat_map, All, AllPairs}
use Rattle.departure.specs.declared.Departure.{Departure}
use Rattle.law.specs.Journeys.{departed}
use Rattle.law.specs.Step.{Plan, Switch}
use Rattle.law.specs.Runs.{departure, flow_leaves, leaves}
use Rattle.replay.specs.Events.{left, Before}
use Rattle.replay.proofs.Lists.{pairs_alike, all_joined, pairs_joined}

abbrev pub OfPlan : Plan → Departure → Type 0
OfPlan plan d = (d.input < plan.ports) × (d.output < plan.ports)

module _ (plan : Plan) (s : Switch) (from to : ℕ) where
  abbrev row : ℕ → List Departure
  row j = flat_map (λ i. flow_leaves plan from to i j (s.flow i j)) (range_with_len 0 plan.ports)

  -- what holds of the departures of each flow holds of all
  pub all_leaves : (P : Departure → Type 0) → ((i j : ℕ) → i < plan.ports → j < plan.ports → All P (flow_leaves plan from to i j (s.flow i j))) → All P (leaves plan s from to)
  all_leaves P h =
      all_joined P row 0 plan.ports
      (λ j _ hj. all_joined P (λ i. flow_leaves plan from to i j (s.flow i j)) 0 plan.ports (λ i _ hi. h i j (omega (arith, hi)) (omega (arith, hj))))

  pub leaves_of_plan : All (OfPlan plan) (leaves plan s from to)
  leaves_of_plan =
      all_leaves (OfPlan plan) (λ i j hi hj. All-map (OfPlan plan) (departure plan i j (s.flow i j)) (range_with_len (departed from (s.flow i j)) (departed to (s.flow i j) - departed from (s.flow i j))) (λ k d l. (hi, hj)))

  -- what leaves by output j at tick t
  module _ (t : ℕ) (now : (i j : ℕ) → i < plan.ports → j < plan.ports → All (λ d. d.tick ≡ t) (flow_leaves plan from to i j (s.flow i j))) where
    abbrev At : ℕ → Departure → Type 0
    At j d = (d.tick ≡ t) × (d.output ≡ j)

    at_flow : (i j : ℕ) → i < plan.ports → j < plan.ports → All (At j) (flow_leaves plan from to i j (s.flow i j))
    at_flow i j hi hj =
        let out : All (λ d. d.output ≡ j) (flow_leaves plan from to i j (s.flow i j)) =
        All-map (λ d. d.output ≡ j) (departure plan i j (s.flow i j)) (range_with_len (departed from (s.flow i j)) (departed to (s.flow i j) - departed from (s.flow i j))) (λ k d l. refl) in
        λ k d l. (now i j hi hj k d l, out k d l)

    at_row : (j : ℕ) → j < plan.ports → All (At j) (row j)
    at_row j hj = all_joined (At j) (λ i. flow_leaves plan from to i j (s.flow i j)) 0 plan.ports (λ i _ hi. at_flow i j (omega (arith, hi)) hj)

    pub leaves_in_order : AllPairs (λ d e. Before (left d) (left e)) (leaves plan s from to)
    leaves_in_order =
        pairs_joined (λ d e. Before (left d) (left e)) row 0 plan.ports
        (λ j _ hj. pairs_alike (λ d e. Before (left d) (left e)) (At j) (λ x y p q. inr (p.0 ∙ sym q.0, omega (arith, p.1, q.1))) (row j) (at_row j (omega (arith, hj))))
        (λ j m _ l hm i d li k e lk.
        let p = at_row j (omega arith) i d li in
        let q = at_row m (omega arith) k e lk in
        inr (p.0 ∙ sym q.0, omega (arith, p.1, q.1)))
