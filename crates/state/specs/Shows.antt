-- When a state of the running switch stands for a switch of the law, and what a call makes of a run.
use Rattle.std.specs.Prelude.{◌≡◌, ℕ, ◌+◌, ◌*◌, ◌%◌, ◌^◌, ◌<◌, ◌≤◌, max, Bool, true, false, cond, ◌&&◌, List, [], ◌∷◌, length, drop, Some, None, Ok, Err, Option, Result, nat_lt, slice_index, slice_index_or, IfSome}
use Rattle.plan.specs.Weights.{has_flow}
use Rattle.plan.specs.Numbers.{arrive_number}
use Rattle.plan.specs.declared.fault.ArriveFault.{ArriveFault}
use Rattle.timing.specs.Fluid.{Accepted, Arrived, accepted_bytes, last_finish}
use Rattle.timing.specs.Stamps.{scaled_start, scaled_finish, stamp_at}
use Rattle.timing.specs.declared.Stamp.{Stamp}
use Rattle.plan.specs.declared.fault.TheConstants.{LAST_TICK}
use Rattle.store.specs.declared.meaning.TheConstants.{MOST_STORED}
use Rattle.store.specs.declared.packet.Packet.{Packet}
use Rattle.plan.specs.Table.{open_into}
use Rattle.law.specs.Journeys.{Journeys, ended, departed, started_bytes, departed_bytes}
use Rattle.law.specs.Plans.{plan_of}
use Rattle.law.specs.Step.{Plan, Switch}
use Rattle.departure.specs.declared.Departure.{Departure}
use Rattle.law.specs.Runs.{departure, no_packet, Call, Answer, granted, refused, Run}
use Rattle.law.specs.Promises.{Promises}
use Rattle.state.specs.declared.line.Ledger.{Ledger}
use Rattle.state.specs.State.{State}
use Rattle.state.specs.Lines.{until_of, to_output, from_input, loaded_with, Line}

-- the first tick of a list, if there is one
abbrev pub first_of : List ℕ → Option ℕ
first_of [] = None
first_of (u ∷ us) = Some u

-- The k-th packet of a flow of weight w, as it is stored: f is the scaled virtual finish of the packet before it, and `across` the
-- tick at which it started across, if it has.
abbrev pub packet_of : (W w k f : ℕ) → Accepted → Option ℕ → Packet
packet_of W w k f p across = record {
  serial = k % 2 ^ 64;
  arrival = p.arrival;
  bytes = p.bytes;
  start = stamp_at w (scaled_start w p.arrival f);
  finish = stamp_at w (scaled_finish W (scaled_start w p.arrival f) p.bytes);
  crossing = across;
}

-- the packets of a flow from the k-th on, as they are stored; us are the ticks at which the oldest of them started across
abbrev pub packets : (W w k f : ℕ) → List Accepted → List ℕ → List Packet
packets W w k f [] us = []
packets W w k f (p ∷ ps) us = packet_of W w k f p (first_of us) ∷ packets W w (k + 1) (scaled_finish W (scaled_start w p.arrival f) p.bytes) ps (drop 1 us)

-- the virtual finish of the last packet, if there is one
abbrev pub last_stamp : ℕ → ℕ → List Accepted → Option Stamp
last_stamp W w [] = None
last_stamp W w (p ∷ ps) = Some (stamp_at w (last_finish W w 0 (p ∷ ps)))

-- What is kept of one flow at tick t is what its journeys f tell: its list, its count and its ledger.
pub record FlowShows (W w t : ℕ) (f : Journeys) (peak : ℕ) (list : List Packet) (count : ℕ) (l : Ledger) : Type 0 where
  -- no packet came after t
  pub arrived_by : Arrived t f.accepted
  -- stored are the packets that have not departed
  pub listed : list ≡ drop (departed t f) (packets W w 0 0 f.accepted f.crossings)
  pub numbered : count ≡ length f.accepted % 2 ^ 64
  -- the totals are those of the journeys, modulo 2 ^ 64
  pub last_is : l.last ≡ last_stamp W w f.accepted
  pub accepted_is : l.accepted ≡ accepted_bytes f.accepted % 2 ^ 64
  pub started_is : l.started ≡ started_bytes f % 2 ^ 64
  pub departed_is : l.departed ≡ departed_bytes t f % 2 ^ 64
  pub peak_is : l.peak ≡ peak
  -- of the packets stored, so many have started across
  pub under_way_is : length f.crossings ≡ departed t f + l.under_way

-- The packets ps of one flow, of which the oldest started on a line at the ticks vs, one after another. The line falls free at
-- `until`; `mine` says that what it carries, or carried last, is of this flow. If it is busy with this flow at tick t, then all that
-- started but one have ended by t, and that one ends as the line falls free; if not, all that started have ended.
pub record IsOnLine (t : ℕ) (ps : List Accepted) (vs : List ℕ) (mine : Bool) (until : ℕ) : Type 0 where
  pub count : length vs ≡ ended t ps vs + cond (mine && nat_lt t until) 1 0
  pub ends : (mine && nat_lt t until) ≡ true → slice_index vs (ended t ps vs) + (slice_index_or ps (ended t ps vs) no_packet).bytes ≡ until

-- while the line of output j is busy, it carries the oldest packet inside of one of its flows: its load is that packet's departure
abbrev pub Loaded : Plan → ℕ → (ℕ → Journeys) → ℕ → Line Departure → Type 0
Loaded plan t flows j line = IfSome line (λ b. t < b.until → (b.load.input < plan.ports) × (b.load ≡ departure plan b.load.input j (flows b.load.input) (departed t (flows b.load.input))))

-- The state stands for the switch s of the law, flow by flow and line by line.
pub record Shows (st : State) (s : Switch) : Type 0 where
  pub clock_is : st.clock ≡ s.clock
  pub early : s.clock ≤ LAST_TICK
  pub flows : (i j : ℕ) → FlowShows st.plan.size.parts ((plan_of st.plan).weight i j) s.clock (s.flow i j) (s.peak i j) (st.lists i j) (st.counts i j) (st.ledgers i j)
  -- a flow that the plan has not, has no packets
  pub outside : (i j : ℕ) → has_flow st.plan i j ≡ false → (s.flow i j).accepted ≡ []
  pub few : (i j : ℕ) → length (st.lists i j) ≤ MOST_STORED
  -- a line is free, or busy until the same tick as in s
  pub inputs : (i : ℕ) → i < st.plan.size.ports → max s.clock (until_of (st.crossing i)) ≡ max s.clock (s.crossing_until i)
  pub outputs : (j : ℕ) → j < st.plan.size.ports → max s.clock (until_of (st.sending j)) ≡ max s.clock (s.sending_until j)
  -- and carries what it carries in s
  pub across_now : (i j : ℕ) → i < st.plan.size.ports → j < st.plan.size.ports → IsOnLine s.clock (s.flow i j).accepted (s.flow i j).crossings (loaded_with to_output j (st.crossing i)) (until_of (st.crossing i))
  pub out_now : (i j : ℕ) → i < st.plan.size.ports → j < st.plan.size.ports → IsOnLine s.clock (s.flow i j).accepted (s.flow i j).sendings (loaded_with from_input i (st.sending j)) (until_of (st.sending j))
  pub loads : (j : ℕ) → j < st.plan.size.ports → Loaded (plan_of st.plan) s.clock (λ i. s.flow i j) j (st.sending j)

-- the promises to every flow, with the lateness of its output and with that of any output
abbrev pub AllPromises : Plan → ℕ → List (Call × Answer) → Switch → Type 0
AllPromises plan M log s =
    (i j : ℕ) → i < plan.ports → j < plan.ports → Promises plan M ((open_into plan.ports plan.weight j + 1) * plan.longest) log s i j × Promises plan M ((plan.ports + 1) * plan.longest) log s i j

-- The moment of a run that its log tells, over a store of stated size M: the log leads to the switch s, and the state stands for s.
pub record Moment (M : ℕ) (st : State) (log : List (Call × Answer)) (s : Switch) : Type 0 where
  pub run : Run (plan_of st.plan) M log s
  pub shows : Shows st s

-- A call with its answer carries every run on. Whatever moment of a run the state before is at, the state after is at the moment
-- after this call and answer: its switch is the one that `Leads` tells from the switch before, and all promises hold there.
abbrev pub CarriesOn : (Switch → Switch → Type 0) → ℕ → State → State → Call → Answer → Type 0
CarriesOn Leads M before after call answer =
    (log : List (Call × Answer)) (s : Switch) → Moment M before log s →
    (next : Switch) × Leads s next × Moment M after ((call, answer) ∷ log) next × AllPromises (plan_of after.plan) M ((call, answer) ∷ log) next

-- the answer of an arrival, as the law has it
abbrev pub arrive_told : {X : Type 0} → Result X ArriveFault → Answer
arrive_told (Ok x) = granted
arrive_told (Err e) = refused (arrive_number e)
