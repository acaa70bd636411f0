-- What a log tells in the order in which it happened: the packets that leave, and the arrivals that find the store's sign up.
use Rattle.std.specs.Prelude.{◌≡◌, ℕ, ◌<◌, ◌≤◌, cond, ◌⊎◌, List, [], ◌∷◌, ◌++◌, map, ◌==◌, sum_by}
use Rattle.departure.specs.declared.Departure.{Departure}
use Rattle.plan.specs.Numbers.{arrive_number}
use Rattle.plan.specs.declared.fault.ArriveFault.TheVariants.{Full}
use Rattle.law.specs.Runs.{Call, arrive, step, ask, Answer, granted, refused, listed, answered}
use Rattle.law.specs.Promises.{clock_of}
use Rattle.replay.specs.Replay.{Arrival}

pub data Event : Type 0 where
  left : Departure → Event
  turned_away : Arrival → Event

-- of an arrival at tick t that is refused with this number, which may be that the sign is up
abbrev pub refusal_by : ℕ → Call → ℕ → List Event
refusal_by t (arrive i j b) r = cond (r == arrive_number Full) (turned_away record { tick = t; input = i; output = j; bytes = b } ∷ []) []
refusal_by t (step room) r = []
refusal_by t (ask i j) r = []

-- of a call at tick t
abbrev pub events_by : ℕ → Call → Answer → List Event
events_by t call granted = []
events_by t call (refused r) = refusal_by t call r
events_by t call (listed ds) = map left ds
events_by t call (answered ns) = []

-- of a log, which stands newest first: its events, oldest first
abbrev pub events_of : List (Call × Answer) → List Event
events_of [] = []
events_of ((call, answer) ∷ log) = events_of log ++ events_by (clock_of log) call answer

-- the departures among events, and the arrivals turned away
abbrev pub departures_in : List Event → List Departure
departures_in [] = []
departures_in (left d ∷ events) = d ∷ departures_in events
departures_in (turned_away a ∷ events) = departures_in events

abbrev pub turned_in : List Event → List Arrival
turned_in [] = []
turned_in (left d ∷ events) = turned_in events
turned_in (turned_away a ∷ events) = a ∷ turned_in events

-- the departures of a log, oldest first
abbrev pub left_in : List (Call × Answer) → List Departure
left_in log = departures_in (events_of log)

-- the bytes of departures
abbrev pub bytes_in : List Departure → ℕ
bytes_in ds = sum_by (λ (d : Departure). d.bytes) ds

-- the first may stand before the second: by tick; of one tick what leaves stands by output, and before what is turned away
abbrev pub Before : Event → Event → Type 0
Before (left d) (left e) = (d.tick < e.tick) ⊎ ((d.tick ≡ e.tick) × (d.output ≤ e.output))
Before (left d) (turned_away b) = d.tick ≤ b.tick
Before (turned_away a) (left e) = a.tick < e.tick
Before (turned_away a) (turned_away b) = a.tick ≤ b.tick
