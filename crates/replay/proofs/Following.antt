-- A run of the law, and what its log tells of departures. Assumes nothing.
use Rattle.std.proofs.Common.{◌≡◌, ℕ, ◌<◌, map, length, take, filter, ap, ◌∙◌, arith}
use Rattle.std.proofs.lemmas.List.{take_all}
use Rattle.std.specs.List.{range_with_len}
use Rattle.timing.specs.Fluid.{accepted_bytes}
use Rattle.law.specs.Journeys.{departed, departed_bytes, inside}
use Rattle.law.specs.Step.{Plan}
use Rattle.tie.specs.PicksTied.{PicksTied}
use Rattle.law.specs.Runs.{departure, all_inside}
use Rattle.law.specs.Promises.{Bookable, of_flow}
use Rattle.law.proofs.EndedPackets.{ended_le_packets}
use Rattle.law.proofs.PromisesKept.{runs_keep_promises}
use Rattle.replay.specs.Kinds.{Kind, SignFits}
use Rattle.replay.specs.Replay.{Replayed}
use Rattle.replay.specs.Events.{bytes_in, left_in}
use Rattle.replay.specs.Follows.{over_flows, FollowsLaw, ReplaysFollowLaw}
use Rattle.replay.proofs.Sums.{flows_alike, flows_part}
use Rattle.replay.proofs.Logs.{left_of_flow}
use Rattle.replay.proofs.Bytes.{by_flow, bytes_departed}
use Rattle.replay.proofs.Running.{Running, moments_run}
use Rattle.replay.proofs.Accounting.{accounted}

module _ {K : Type 0} (plan : Plan) (kind : Kind K) (M most : ℕ) (bookable : Bookable plan) (fits : SignFits plan M most kind.sign) (picks-tied : (kept : K) → PicksTied (kind.answer kept)) where
  pub follows : (x : Replayed K) → Running plan kind M most bookable fits picks-tied x → FollowsLaw plan M x
  follows x r =
      record {
        run = r.run;
        promises = λ i j hi hj. (runs_keep_promises plan M bookable x.log x.switch r.run i j hi hj).0;
        left_once = once;
        of_flows = r.of_plan;
        bytes_left =
            by_flow plan (left_in x.log) r.of_plan
            ∙ flows_alike plan (λ i j. bytes_in (filter (of_flow i j) (left_in x.log))) (λ i j. departed_bytes x.switch.clock (x.switch.flow i j))
            (λ i j hi hj. ap bytes_in (once i j hi hj) ∙ bytes_departed plan i j (x.switch.flow i j) (departed x.switch.clock (x.switch.flow i j)) (ended_le_packets x.switch.clock (x.switch.flow i j).accepted (x.switch.flow i j).sendings));
        in_order = r.in_order;
      }
    where
      once : (i j : ℕ) → i < plan.ports → j < plan.ports → filter (of_flow i j) (left_in x.log) ≡ map (departure plan i j (x.switch.flow i j)) (range_with_len 0 (departed x.switch.clock (x.switch.flow i j)))
      once i j hi hj = left_of_flow i j x.log ∙ (runs_keep_promises plan M bookable x.log x.switch r.run i j hi hj).0.departures_told

pub replays_follow_law : (K : Type 0) → ReplaysFollowLaw K
replays_follow_law K plan M most kind bookable fits picks-tied arrivals may n late =
    (follows plan kind M most bookable fits picks-tied _ (moments_run plan kind M most bookable fits picks-tied arrivals may n late), accounted plan kind arrivals may n)

-- once nothing is inside, all has left
module _ {K : Type 0} (plan : Plan) (M : ℕ) (x : Replayed K) (law : FollowsLaw plan M x) (none : all_inside plan x.switch ≡ 0) where
  all_departed : (i j : ℕ) → i < plan.ports → j < plan.ports → departed x.switch.clock (x.switch.flow i j) ≡ length (x.switch.flow i j).accepted
  all_departed i j hi hj =
      let part = flows_part plan (λ a c. inside x.switch.clock (x.switch.flow a c)) i j hi hj in
      omega (arith, part, none, ended_le_packets x.switch.clock (x.switch.flow i j).accepted (x.switch.flow i j).sendings)

  pub each_has_left : (i j : ℕ) → i < plan.ports → j < plan.ports → filter (of_flow i j) (left_in x.log) ≡ map (departure plan i j (x.switch.flow i j)) (range_with_len 0 (length (x.switch.flow i j).accepted))
  each_has_left i j hi hj = law.left_once i j hi hj ∙ ap (λ n. map (departure plan i j (x.switch.flow i j)) (range_with_len 0 n)) (all_departed i j hi hj)

  pub all_have_left : bytes_in (left_in x.log) ≡ over_flows plan (λ i j. accepted_bytes (x.switch.flow i j).accepted)
  all_have_left =
      law.bytes_left
      ∙ flows_alike plan (λ i j. departed_bytes x.switch.clock (x.switch.flow i j)) (λ i j. accepted_bytes (x.switch.flow i j).accepted)
      (λ i j hi hj. ap (λ n. accepted_bytes (take n (x.switch.flow i j).accepted)) (all_departed i j hi hj) ∙ ap accepted_bytes (take_all (length (x.switch.flow i j).accepted) (x.switch.flow i j).accepted (omega arith)))
