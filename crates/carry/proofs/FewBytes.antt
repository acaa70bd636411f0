-- The bytes of a run that a file makes can be counted. Assumes nothing.
use Rattle.std.proofs.Common.{◌≡◌, ℕ, ◌-◌, ◌*◌, ◌^◌, ◌<◌, ◌≤◌, List, [], ◌∷◌, length, take, sum_by, sym, refl, subst, mul-le-mul, arith}
use Rattle.std.specs.List.{range_with_len}
use Rattle.std.proofs.lemmas.List.Recursion.{is_sum_by}
use Rattle.std.proofs.lemmas.List.Sums.{sum_by-cons, sum_by-take-le, sum_by-le-sum_by}
use Rattle.plan.specs.declared.fault.TheConstants.{LAST_TICK}
use Rattle.timing.specs.Fluid.{Accepted, accepted_bytes}
use Rattle.tie.specs.PicksTied.{PicksTied}
use Rattle.law.specs.Journeys.{departed, departed_bytes}
use Rattle.law.specs.Step.{Plan}
use Rattle.law.specs.Promises.{Bookable}
use Rattle.law.proofs.LawfulArrivals.{lawful}
use Rattle.replay.specs.Kinds.{Kind, SignFits}
use Rattle.replay.specs.Replay.{Arrival, MayCome, Replayed, run_ticks, run_arrivals, replay}
use Rattle.replay.specs.Events.{left_in, bytes_in}
use Rattle.replay.specs.Follows.{over_flows}
use Rattle.replay.proofs.Following.{replays_follow_law}
use Rattle.replay.proofs.Steps.{arrivals_clock, out_ticks}

-- the bytes of arrivals that may come
bytes_most : (plan : Plan) (arrivals : List Arrival) → MayCome plan arrivals → sum_by (λ (a : Arrival). a.bytes) arrivals ≤ length arrivals * plan.longest
bytes_most plan [] may = omega arith
bytes_most plan (a ∷ earlier) may =
    omega (arith, sum_by-cons (λ (b : Arrival). b.bytes) a earlier, (lawful plan a.input a.output a.bytes may.0).not_long, bytes_most plan earlier may.2)

accepted_sum : (ps : List Accepted) → accepted_bytes ps ≡ sum_by (λ (p : Accepted). p.bytes) ps
accepted_sum = is_sum_by accepted_bytes (λ (p : Accepted). p.bytes) refl (λ _ _. refl)

-- a flow's bytes departed are some of those accepted
departed_most : (k : ℕ) (ps : List Accepted) → accepted_bytes (take k ps) ≤ sum_by (λ (p : Accepted). p.bytes) ps
departed_most k ps = omega (arith, accepted_sum (take k ps), sum_by-take-le (λ (p : Accepted). p.bytes) ps k)

flows_le : (plan : Plan) (f g : ℕ → ℕ → ℕ) → ((i j : ℕ) → f i j ≤ g i j) → over_flows plan f ≤ over_flows plan g
flows_le plan f g h =
    let ports = range_with_len 0 plan.ports in
    sum_by-le-sum_by (λ i. sum_by (f i) ports) (λ i. sum_by (g i) ports) ports (λ i. sum_by-le-sum_by (f i) (g i) ports (h i))

module _ {K : Type 0} (plan : Plan) (M most : ℕ) (kind : Kind K) (bookable : Bookable plan) (fits : SignFits plan M most kind.sign) (picks-tied : (kept : K) → PicksTied (kind.answer kept)) where
  pub few_bytes : (arrivals : List Arrival) → MayCome plan arrivals → length arrivals ≤ 8192 → plan.longest ≤ 1500 → (run_arrivals plan kind arrivals).switch.clock ≤ LAST_TICK →
      bytes_in (left_in (replay plan kind arrivals).log) < 2 ^ 64
  few_bytes arrivals may few short early =
      let x = run_arrivals plan kind arrivals in
      let t = out_ticks plan kind (LAST_TICK - x.switch.clock) x in
      let y = run_ticks plan kind t.0 x in
      let law = replays_follow_law K plan M most kind bookable fits picks-tied arrivals may t.0 (omega (arith, arrivals_clock plan kind arrivals may, t.1)) in
      let left = law.0.bytes_left in
      let less =
      flows_le plan (λ i j. departed_bytes y.switch.clock (y.switch.flow i j)) (λ i j. sum_by (λ (p : Accepted). p.bytes) (y.switch.flow i j).accepted)
      (λ i j. departed_most (departed y.switch.clock (y.switch.flow i j)) (y.switch.flow i j).accepted) in
      let all = law.1 (λ (a : Arrival). a.bytes) in
      let bytes : bytes_in (left_in y.log) ≤ sum_by (λ (a : Arrival). a.bytes) arrivals = omega (arith, left, less, all) in
      subst (λ (z : Replayed K). bytes_in (left_in z.log) < 2 ^ 64) (sym t.2) (omega (arith, bytes, bytes_most plan arrivals may, mul-le-mul few short))
