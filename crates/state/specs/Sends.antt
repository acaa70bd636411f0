-- The second half of a step: at each output in order, what starts out. And the whole of a step.
use Rattle.std.specs.Prelude.{◌≡◌, ℕ, ◌+◌, ◌-◌, ◌*◌, ◌%◌, ◌^◌, Bool, false, cond, ◌&&◌, List, map, Some, None, Option, nat_le}
use Rattle.std.specs.List.{slice_get, range_with_len}
use Rattle.timing.specs.declared.Stamp.{Stamp}
use Rattle.timing.specs.Stamps.{scaled, earlier}
use Rattle.timing.specs.Marks.{tied}
use Rattle.store.specs.declared.packet.Packet.{Packet}
use Rattle.tie.specs.declared.question.Question.{Question}
use Rattle.law.specs.Rules.{Rule, asked, KeptAfter}
use Rattle.departure.specs.declared.Departure.{Departure}
use Rattle.state.specs.State.{State, bytes_in}
use Rattle.state.specs.Due.{oldest_out}
use Rattle.state.specs.Lines.{busy_at, to_output, carries, with_line, busy}
use Rattle.state.specs.Crosses.{Crossings}
use Rattle.state.specs.Finishes.{finish_to, listed_to}

-- whether a packet of b bytes has wholly crossed by tick t, where it started across at tick u, or has not
abbrev pub crossed_by_tick : ℕ → ℕ → Option ℕ → Bool
crossed_by_tick t b None = false
crossed_by_tick t b (Some u) = nat_le (u + b) t

-- the mark at tick t of a packet that may start out: its virtual finish, once it has wholly crossed and L ticks have passed since
-- its virtual start
abbrev pub mark_out : ℕ → ℕ → Option Packet → Option Stamp
mark_out L t None = None
mark_out L t (Some p) = cond (crossed_by_tick t p.bytes p.crossing && nat_le (scaled p.start + p.start.weight * L) (p.start.weight * t)) (Some p.finish) None

-- the packet of flow (i, j) that is next out
abbrev pub next_out : State → ℕ → ℕ → Option Packet
next_out st i j = oldest_out st.lists i j

-- the marks of the oldest packets at output j, by input
unfoldable pub marks_out : State → ℕ → List (Option Stamp)
marks_out st j = map (λ i. mark_out st.plan.size.longest st.clock (next_out st i j)) (range_with_len 0 16)

-- the bytes of flow (i, j) that are crossing: those of the packet started across last, while the line of i carries it
abbrev pub crossing_bytes : State → ℕ → ℕ → ℕ
crossing_bytes st i j = cond (carries to_output st.clock j (st.crossing i)) (bytes_in (slice_get (st.lists i j) ((st.ledgers i j).under_way - 1))) 0

-- the bytes that wait at output j while it is free, by input: those that have started across and not left, less those crossing
unfoldable pub waits_out : State → ℕ → List ℕ
waits_out st j = map (λ i. (st.ledgers i j).started - (st.ledgers i j).departed - crossing_bytes st i j) (range_with_len 0 16)

-- what output j asks the tie rule
abbrev pub question_out : State → ℕ → Question
question_out st j = record { tied = tied earlier (marks_out st j); waiting = waits_out st j }

-- the tick at which a packet started across: 0 if it has not
abbrev pub tick_of : Option ℕ → ℕ
tick_of None = 0
tick_of (Some u) = u

-- the departure of a packet of flow (i, j) that starts out at tick t
abbrev pub departure_of : ℕ → ℕ → ℕ → Packet → Departure
departure_of t i j p = record {
  tick = (t + p.bytes) % 2 ^ 64;
  input = i;
  output = j;
  serial = p.serial;
  arrival = p.arrival;
  crossing = tick_of p.crossing;
  sending = t;
  whole = p.finish.tick;
  numerator = p.finish.numerator;
  bytes = p.bytes;
}

-- the state once this packet of flow (i, j) has started out: it stays in the list until its last byte has passed
abbrev pub sent_with : Option Packet → State → ℕ → ℕ → State
sent_with None st i j = st
sent_with (Some p) st i j = record st { sending = with_line st.sending j (busy (departure_of st.clock i j p) ((st.clock + p.bytes) % 2 ^ 64)) }

-- the state once output j has started the oldest packet from the input chosen
abbrev pub sent_by : Option ℕ → State → ℕ → State
sent_by None st j = st
sent_by (Some i) st j = sent_with (next_out st i j) st i j

-- the clock a tick later
abbrev pub ticked : State → State
ticked st = record st { clock = st.clock + 1 }

-- of a tie rule, as at an input; the port code of output j is N + j
module _ {K : Type 0} (answer : K → Rule) (told : K → ℕ → ℕ → K → Type 0) where
  -- from which input output j starts something: from none while its line is busy, else as the rule answers
  abbrev pub choice_out : State → K → ℕ → Option ℕ
  choice_out st kept j = asked (answer kept) (st.plan.size.ports + j) (busy_at st.clock (st.sending j)) (question_out st j)

  -- the turn of output j
  pub record Sends (j : ℕ) (st : State) (kept : K) (after : State) (next : K) : Type 0 where
    pub state : after ≡ sent_by (choice_out st kept j) st j
    pub rule : KeptAfter answer told kept (st.plan.size.ports + j) (choice_out st kept j) next

  -- the turns of the first n outputs, one after another
  pub data Sendings (st : State) (kept : K) : ℕ → State → K → Type 0 where
    none_sent : Sendings st kept 0 st kept
    one_more_sent : {n : ℕ} {mid after : State} {k next : K} → Sendings st kept n mid k → Sends n mid k after next → Sendings st kept (n + 1) after next

  -- a whole step: the turns of all inputs, then of all outputs, then the clock and what leaves; `listed` are the departures
  pub record Stepped (st : State) (kept : K) (after : State) (next : K) (listed : List Departure) : Type 0 where
    pub crossed : State
    pub between : K
    pub sent : State
    pub inputs : Crossings answer told st kept st.plan.size.ports crossed between
    pub outputs : Sendings crossed between crossed.plan.size.ports sent next
    pub state : after ≡ finish_to sent.plan.size.ports (ticked sent)
    pub leaves : listed ≡ listed_to sent.plan.size.ports (ticked sent)
