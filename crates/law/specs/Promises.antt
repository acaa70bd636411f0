-- What a switch promises to each flow, after the seal and after every call of every run.
use Rattle.std.specs.Prelude.{◌≡◌, ℕ, ◌+◌, ◌*◌, ◌<◌, ◌≤◌, Bool, cond, ◌&&◌, ◌⊎◌, List, [], ◌∷◌, ◌++◌, map, length, None, sum_by, count_by, filter, ◌==◌, nat_lt, ◌≢◌, slice_index, slice_index_or}
use Rattle.std.specs.List.{range_with_len, AllByRecursion}
use Rattle.timing.specs.Fluid.{Accepted, fluid}
use Rattle.plan.specs.Refusals.{arrive_refusal}
use Rattle.plan.specs.Table.{row_sum, column_sum, open_into}
use Rattle.store.specs.declared.meaning.TheConstants.{MOST_STORED}
use Rattle.law.specs.Journeys.{Journeys, departed, started_bytes, departed_bytes, held, held_at, inside, waiting_in, waiting_out}
use Rattle.law.specs.Step.{Plan, Switch}
use Rattle.departure.specs.declared.Departure.{Departure}
use Rattle.law.specs.Runs.{Call, arrive, step, ask, Answer, granted, refused, listed, answered, Run, departure, finish_at, all_inside, no_packet}

-- What a log tells, newest first. The clock: the steps granted
abbrev pub clock_of : List (Call × Answer) → ℕ
clock_of [] = 0
clock_of ((call, granted) ∷ log) = clock_of log
clock_of ((call, refused r) ∷ log) = clock_of log
clock_of ((call, listed ds) ∷ log) = clock_of log + 1
clock_of ((call, answered ns) ∷ log) = clock_of log

-- a flow's accepted packets, oldest first: the arrivals granted, at their tick
abbrev pub accepted_by : ℕ → ℕ → ℕ → Call → Answer → List Accepted
accepted_by i j t (arrive a c b) granted = cond (i == a && j == c) (record { arrival = t; bytes = b } ∷ []) []
accepted_by i j t (arrive a c b) (refused r) = []
accepted_by i j t (arrive a c b) (listed ds) = []
accepted_by i j t (arrive a c b) (answered ns) = []
accepted_by i j t (step room) answer = []
accepted_by i j t (ask a c) answer = []

abbrev pub accepted_of : ℕ → ℕ → List (Call × Answer) → List Accepted
accepted_of i j [] = []
accepted_of i j ((call, answer) ∷ log) = accepted_of i j log ++ accepted_by i j (clock_of log) call answer

-- a flow's departures, oldest first
abbrev pub of_flow : ℕ → ℕ → Departure → Bool
of_flow i j d = d.input == i && d.output == j

abbrev pub departures_by : ℕ → ℕ → Answer → List Departure
departures_by i j granted = []
departures_by i j (refused r) = []
departures_by i j (listed ds) = filter (of_flow i j) ds
departures_by i j (answered ns) = []

abbrev pub departures_of : ℕ → ℕ → List (Call × Answer) → List Departure
departures_of i j [] = []
departures_of i j ((call, answer) ∷ log) = departures_of i j log ++ departures_by i j answer

-- each departure of a flow is listed by the step that ends at its tick
abbrev pub InStep : ℕ → ℕ → List (Call × Answer) → Type 0
InStep i j [] = Unit {0}
InStep i j ((call, answer) ∷ log) = AllByRecursion (λ d. d.tick ≡ clock_of log + 1) (departures_by i j answer) × InStep i j log

-- the most that a crosspoint of weight w holds, in W-ths of a byte
abbrev pub crosspoint_limit : Plan → ℕ → ℕ → ℕ
crosspoint_limit plan w late = 2 * (plan.parts * plan.longest) + w * late

-- when the k-th packet of flow (i, j) must have left, times w
abbrev pub departure_limit : Plan → ℕ → ℕ → ℕ → Journeys → ℕ → ℕ
departure_limit plan late i j f k = finish_at plan i j f k + plan.weight i j * late

-- A line of n flows carries one packet at a time, and those of a flow in their order. Of flow k: its packets, and the ticks at
-- which the oldest of them started.
pub record OneAtATime (n : ℕ) (packets : ℕ → List Accepted) (starts : ℕ → List ℕ) : Type 0 where
  pub in_turn : (k x y : ℕ) → k < n → x < y → y < length (starts k) → slice_index (starts k) x + (slice_index_or (packets k) x no_packet).bytes ≤ slice_index (starts k) y
  pub apart : (k m x y : ℕ) → k < n → m < n → k ≢ m → x < length (starts k) → y < length (starts m) →
      (slice_index (starts k) x + (slice_index_or (packets k) x no_packet).bytes ≤ slice_index (starts m) y)
      ⊎ (slice_index (starts m) y + (slice_index_or (packets m) y no_packet).bytes ≤ slice_index (starts k) x)

-- how many of these packets, which started at these ticks one after another, end after tick t
abbrev pub on_line : ℕ → List Accepted → List ℕ → ℕ
on_line t packets starts = count_by (λ k. nat_lt t (slice_index starts k + (slice_index_or packets k no_packet).bytes)) (range_with_len 0 (length starts))

-- The promises to flow (i, j) at a moment, with departures at most `late` ticks after the virtual finish. Amounts are in
-- W-ths of a byte, and virtual times times w.
pub record Promises (plan : Plan) (M late : ℕ) (log : List (Call × Answer)) (s : Switch) (i j : ℕ) : Type 0 where
  -- the journeys are those of the log
  pub clock_told : clock_of log ≡ s.clock
  pub accepted_told : accepted_of i j log ≡ (s.flow i j).accepted
  -- with fewer packets inside than the store's stated size no lawful arrival is refused
  pub not_refused : all_inside plan s < M → (b : ℕ) (answer : Answer) (next : Switch) → arrive_refusal plan.ports plan.longest plan.weight i j b ≡ None → Run plan M ((arrive i j b, answer) ∷ log) next → answer ≡ granted
  -- the departures so far are those of the earliest accepted packets, each once, in that order, and each in its own step
  pub departures_told : departures_of i j log ≡ map (departure plan i j (s.flow i j)) (range_with_len 0 (departed s.clock (s.flow i j)))
  pub departures_in_step : InStep i j log
  -- a packet departs at most `late` ticks after its virtual finish, and is not inside once the clock has reached that
  pub on_time : (k : ℕ) → k < departed s.clock (s.flow i j) → plan.weight i j * (departure plan i j (s.flow i j) k).tick ≤ departure_limit plan late i j (s.flow i j) k
  pub gone : (k : ℕ) → k < length (s.flow i j).accepted → departure_limit plan late i j (s.flow i j) k ≤ plan.weight i j * s.clock → k < departed s.clock (s.flow i j)
  -- the departed bytes keep up with the fluid amount, and the bytes started across do not run ahead of it
  pub keeps_up : fluid plan.parts (plan.weight i j) s.clock 0 (s.flow i j).accepted ≤ plan.parts * departed_bytes s.clock (s.flow i j) + plan.parts * plan.longest + plan.weight i j * late
  pub not_ahead : plan.parts * started_bytes (s.flow i j) ≤ fluid plan.parts (plan.weight i j) s.clock 0 (s.flow i j).accepted + plan.parts * plan.longest
  -- the crosspoint never holds more than this
  pub held_little : plan.parts * held s.clock (s.flow i j) ≤ crosspoint_limit plan (plan.weight i j) late
  pub peak_little : plan.parts * s.peak i j ≤ crosspoint_limit plan (plan.weight i j) late
  -- held bytes are the lengths of the packets that have started across and have not departed
  pub held_told : held s.clock (s.flow i j) ≡ held_at s.clock (s.flow i j)
  -- The peak is the most that was held when a step read it, after the starts of its tick and before its departures: no reading
  -- is above it, it was read at some tick, or is 0 as long as nothing was read. No more is held now.
  pub peak_bounds : (u : ℕ) → u < s.clock → held_at u (s.flow i j) ≤ s.peak i j
  pub peak_reached : ((u : ℕ) × (u < s.clock) × (s.peak i j ≡ held_at u (s.flow i j))) ⊎ ((s.clock ≡ 0) × (s.peak i j ≡ 0))
  pub peak_covers : held s.clock (s.flow i j) ≤ s.peak i j
  -- the input and the output carry one packet at a time, and a packet starts out only when it has wholly crossed
  pub one_crosses : OneAtATime plan.ports (λ m. (s.flow i m).accepted) (λ m. (s.flow i m).crossings)
  pub one_leaves : OneAtATime plan.ports (λ m. (s.flow m j).accepted) (λ m. (s.flow m j).sendings)
  pub crossed_first : (k : ℕ) → k < length (s.flow i j).sendings → (departure plan i j (s.flow i j) k).crossing + (departure plan i j (s.flow i j) k).bytes ≤ (departure plan i j (s.flow i j) k).sending
  -- what has come is inside or has left; the bytes departed are those of the departures, and what has started across has
  -- departed or is held; each packet inside waits at the input, is crossing, waits at the output, or is being sent
  pub inside_told : inside s.clock (s.flow i j) + length (departures_of i j log) ≡ length (accepted_of i j log)
  pub departed_told : departed_bytes s.clock (s.flow i j) ≡ sum_by (λ d. d.bytes) (departures_of i j log)
  pub started_told : started_bytes (s.flow i j) ≡ departed_bytes s.clock (s.flow i j) + held s.clock (s.flow i j)
  pub waiting_told : inside s.clock (s.flow i j) ≡ waiting_in (s.flow i j) + on_line s.clock (s.flow i j).accepted (s.flow i j).crossings + waiting_out s.clock (s.flow i j) + on_line s.clock (s.flow i j).accepted (s.flow i j).sendings
  -- never more packets are inside than any store holds, 65,536
  pub few_inside : all_inside plan s ≤ MOST_STORED

-- a plan that can be booked: at most 16 ports, some longest packet, and each row and each column of weights sums to at most W
pub record Bookable (plan : Plan) : Type 0 where
  pub few_ports : plan.ports ≤ 16
  pub some_bytes : 0 < plan.longest
  pub rows : (i : ℕ) → i < plan.ports → row_sum plan.ports plan.weight i ≤ plan.parts
  pub columns : (j : ℕ) → j < plan.ports → column_sum plan.ports plan.weight j ≤ plan.parts

-- every moment of every run keeps the promises, with n + 1 times L for the n open flows into the output, and so with N + 1
abbrev pub RunsKeepPromises : Type 0
RunsKeepPromises =
    (plan : Plan) (M : ℕ) → Bookable plan → (log : List (Call × Answer)) (s : Switch) → Run plan M log s → (i j : ℕ) → i < plan.ports → j < plan.ports →
    Promises plan M ((open_into plan.ports plan.weight j + 1) * plan.longest) log s i j × Promises plan M ((plan.ports + 1) * plan.longest) log s i j
