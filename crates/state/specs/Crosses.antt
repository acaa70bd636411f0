-- The first half of a step: at each input in order, what starts across.
use Rattle.std.specs.Prelude.{◌≡◌, ℕ, ◌+◌, ◌-◌, ◌*◌, ◌%◌, ◌^◌, max, cond, List, map, Some, None, Option, nat_le}
use Rattle.std.specs.List.{range_with_len}
use Rattle.timing.specs.declared.Stamp.{Stamp}
use Rattle.timing.specs.Stamps.{scaled, earlier}
use Rattle.timing.specs.Marks.{tied}
use Rattle.grid.specs.Flows.{with_flow}
use Rattle.store.specs.Stored.{noted}
use Rattle.store.specs.declared.packet.Packet.{Packet}
use Rattle.tie.specs.declared.question.Question.{Question}
use Rattle.law.specs.Rules.{Rule, asked, KeptAfter}
use Rattle.state.specs.declared.line.Ledger.{Ledger}
use Rattle.state.specs.State.{State}
use Rattle.state.specs.Due.{oldest_across}
use Rattle.state.specs.Lines.{busy_at, with_line, busy}

-- the mark at tick t of a packet that may start across: its virtual finish, once its virtual start has come
abbrev pub mark_across : ℕ → Option Packet → Option Stamp
mark_across t None = None
mark_across t (Some p) = cond (nat_le (scaled p.start) (p.start.weight * t)) (Some p.finish) None

-- the packet of flow (i, j) that is next across
abbrev pub next_across : State → ℕ → ℕ → Option Packet
next_across st i j = oldest_across st.lists st.ledgers i j

-- the marks of the packets that are next at input i, by output
unfoldable pub marks_across : State → ℕ → List (Option Stamp)
marks_across st i = map (λ j. mark_across st.clock (next_across st i j)) (range_with_len 0 16)

-- the bytes that wait at input i, by output: those accepted and not started across
unfoldable pub waits_across : State → ℕ → List ℕ
waits_across st i = map (λ j. (st.ledgers i j).accepted - (st.ledgers i j).started) (range_with_len 0 16)

-- what input i asks the tie rule: which of its soonest marks are tied, and how many bytes wait
abbrev pub question_across : State → ℕ → Question
question_across st i = record { tied = tied earlier (marks_across st i); waiting = waits_across st i }

-- the ledger of a flow once a packet of b bytes has started across. The peak is read here, after the start
abbrev pub starting : ℕ → Ledger → Ledger
starting b l =
    record l {
      started = (l.started + b) % 2 ^ 64;
      peak = max l.peak ((l.started + b) % 2 ^ 64 - l.departed);
      under_way = (l.under_way + 1) % 2 ^ 64;
    }

-- the state once this packet of flow (i, j) has started across: it keeps the line busy for as many ticks as it has bytes
abbrev pub crossed_with : Option Packet → State → ℕ → ℕ → State
crossed_with None st i j = st
crossed_with (Some p) st i j =
    record st {
      crossing = with_line st.crossing i (busy j ((st.clock + p.bytes) % 2 ^ 64));
      ledgers = with_flow st.ledgers i j (starting p.bytes (st.ledgers i j));
      lists = with_flow st.lists i j (noted (st.ledgers i j).under_way st.clock (st.lists i j));
    }

-- the state once input i has started its next packet to the output chosen
abbrev pub crossed_by : Option ℕ → State → ℕ → State
crossed_by None st i = st
crossed_by (Some j) st i = crossed_with (next_across st i j) st i j

-- Of a tie rule: its answers, from what it keeps, and what it may keep next once it is told a winner at a port code.
module _ {K : Type 0} (answer : K → Rule) (told : K → ℕ → ℕ → K → Type 0) where
  -- to which output input i starts: to none while its line is busy, else as the rule answers
  abbrev pub choice_across : State → K → ℕ → Option ℕ
  choice_across st kept i = asked (answer kept) i (busy_at st.clock (st.crossing i)) (question_across st i)

  -- the turn of input i: it starts what is chosen, and then the rule is told
  pub record Crosses (i : ℕ) (st : State) (kept : K) (after : State) (next : K) : Type 0 where
    pub state : after ≡ crossed_by (choice_across st kept i) st i
    pub rule : KeptAfter answer told kept i (choice_across st kept i) next

  -- the turns of the first n inputs, one after another
  pub data Crossings (st : State) (kept : K) : ℕ → State → K → Type 0 where
    none_crossed : Crossings st kept 0 st kept
    one_more : {n : ℕ} {mid after : State} {k next : K} → Crossings st kept n mid k → Crosses n mid k after next → Crossings st kept (n + 1) after next
