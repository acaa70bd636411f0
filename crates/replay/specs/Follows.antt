-- What is proved of every replay: at each moment it follows the law, and at its end all that was accepted has left.
use Rattle.std.specs.Prelude.{◌≡◌, ℕ, ◌+◌, ◌*◌, ◌^◌, ◌<◌, ◌≤◌, List, map, length, sum_by, filter}
use Rattle.std.specs.List.{range_with_len, All, AllPairs}
use Rattle.timing.specs.Fluid.{Accepted, accepted_bytes}
use Rattle.plan.specs.declared.fault.TheConstants.{LAST_TICK}
use Rattle.plan.specs.Table.{open_into}
use Rattle.law.specs.Journeys.{departed, departed_bytes}
use Rattle.law.specs.Step.{Plan}
use Rattle.tie.specs.PicksTied.{PicksTied}
use Rattle.law.specs.Runs.{Run, departure, all_inside}
use Rattle.law.specs.Promises.{Promises, Bookable, of_flow}
use Rattle.replay.specs.Kinds.{Kind, SignFits}
use Rattle.replay.specs.Replay.{Arrival, last_tick, MayCome, Replayed, run_ticks, run_arrivals, replay}
use Rattle.replay.specs.Events.{events_of, turned_in, left_in, bytes_in, Before}

-- f of the first N inputs and outputs, added up
abbrev pub over_flows : Plan → (ℕ → ℕ → ℕ) → ℕ
over_flows plan f = sum_by (λ i. sum_by (λ j. f i j) (range_with_len 0 plan.ports)) (range_with_len 0 plan.ports)

-- A replay at a moment follows the law, over a store of stated size M.
pub record FollowsLaw {K : Type 0} (plan : Plan) (M : ℕ) (x : Replayed K) : Type 0 where
  -- it is a run of the law, and the promises hold
  pub run : Run plan M x.log x.switch
  pub promises : (i j : ℕ) → i < plan.ports → j < plan.ports → Promises plan M ((open_into plan.ports plan.weight j + 1) * plan.longest) x.log x.switch i j
  -- what has left are the oldest packets of each flow, each once, and nothing else
  pub left_once : (i j : ℕ) → i < plan.ports → j < plan.ports →
      filter (of_flow i j) (left_in x.log) ≡ map (departure plan i j (x.switch.flow i j)) (range_with_len 0 (departed x.switch.clock (x.switch.flow i j)))
  pub of_flows : All (λ d. (d.input < plan.ports) × (d.output < plan.ports)) (left_in x.log)
  pub bytes_left : bytes_in (left_in x.log) ≡ over_flows plan (λ i j. departed_bytes x.switch.clock (x.switch.flow i j))
  -- its events stand by tick; of one tick what leaves stands by output, and before what is turned away
  pub in_order : AllPairs Before (events_of x.log)

-- Each arrival is accepted in its flow, at its tick and with its bytes, or turned away: whatever is added up of the arrivals,
-- those accepted and those turned away come to the same.
abbrev pub Accounted : {K : Type 0} → Plan → List Arrival → Replayed K → Type 0
Accounted plan arrivals x =
    (f : Arrival → ℕ) →
    sum_by f arrivals ≡ sum_by f (turned_in (events_of x.log)) + over_flows plan (λ i j. sum_by (λ (p : Accepted). f record { tick = p.arrival; input = i; output = j; bytes = p.bytes }) (x.switch.flow i j).accepted)

-- Every replay follows the law and accounts for its arrivals at each moment: after any that may come, and any ticks behind them.
abbrev pub ReplaysFollowLaw : Type 0 → Type 0
ReplaysFollowLaw K =
    (plan : Plan) (M most : ℕ) (kind : Kind K) → Bookable plan → SignFits plan M most kind.sign → ((kept : K) → PicksTied (kind.answer kept)) →
    (arrivals : List Arrival) → MayCome plan arrivals → (n : ℕ) → last_tick arrivals + n ≤ LAST_TICK →
    FollowsLaw plan M (run_ticks plan kind n (run_arrivals plan kind arrivals)) × Accounted plan arrivals (run_ticks plan kind n (run_arrivals plan kind arrivals))

-- The end of a replay: n ticks after the last arrival nothing is inside, for the first time. Each accepted packet has left, and
-- so have all bytes.
pub record EndsAfter {K : Type 0} (plan : Plan) (kind : Kind K) (arrivals : List Arrival) (x : Replayed K) (n : ℕ) : Type 0 where
  pub is_end : x ≡ run_ticks plan kind n (run_arrivals plan kind arrivals)
  pub none_inside : all_inside plan x.switch ≡ 0
  pub some_before : (m : ℕ) → m < n → 0 < all_inside plan (run_ticks plan kind m (run_arrivals plan kind arrivals)).switch
  pub each_left : (i j : ℕ) → i < plan.ports → j < plan.ports →
      filter (of_flow i j) (left_in x.log) ≡ map (departure plan i j (x.switch.flow i j)) (range_with_len 0 (length (x.switch.flow i j).accepted))
  pub all_left : bytes_in (left_in x.log) ≡ over_flows plan (λ i j. accepted_bytes (x.switch.flow i j).accepted)

-- The arrivals of a run file are at most 8,192, each before tick 2^24 and of at most 1,500 bytes, on lines of at most 10,000
-- parts: their replay ends before the clock's last tick.
abbrev pub ReplaysEnd : Type 0 → Type 0
ReplaysEnd K =
    (plan : Plan) (M most : ℕ) (kind : Kind K) → Bookable plan → plan.longest ≤ 1500 → plan.parts ≤ 10000 → SignFits plan M most kind.sign → ((kept : K) → PicksTied (kind.answer kept)) →
    (arrivals : List Arrival) → MayCome plan arrivals → length arrivals ≤ 8192 → last_tick arrivals < 2 ^ 24 →
    (n : ℕ) × EndsAfter plan kind arrivals (replay plan kind arrivals) n × (last_tick arrivals + n < LAST_TICK)
