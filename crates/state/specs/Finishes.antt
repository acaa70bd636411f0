-- The end of a step: at each output in order, what leaves.
use Rattle.std.specs.Prelude.{ℕ, zero, suc, ◌+◌, ◌-◌, ◌%◌, ◌^◌, cond, List, [], ◌∷◌, ◌++◌, length, drop, Some, None, Option, ◌==◌, nat_lt}
use Rattle.grid.specs.Flows.{with_flow}
use Rattle.state.specs.declared.line.Ledger.{Ledger}
use Rattle.departure.specs.declared.Departure.{Departure}
use Rattle.state.specs.State.{State}
use Rattle.state.specs.Lines.{with_line, Line}

-- what ends on a line at tick t
abbrev pub ends_at : ℕ → Line Departure → Option Departure
ends_at t None = None
ends_at t (Some b) = cond (b.until == t) (cond (nat_lt b.load.input 16) (Some b.load) None) None

-- what leaves by output j now
abbrev pub leaving : State → ℕ → Option Departure
leaving st j = ends_at st.clock (st.sending j)

-- the ledger of a flow of which a packet of b bytes leaves. Its last virtual finish stays
abbrev pub departing : ℕ → Ledger → Ledger
departing b l = record l { departed = (l.departed + b) % 2 ^ 64; under_way = l.under_way - 1 }

-- the state once this has left by output j: the oldest packet of its flow is no longer stored, and the line is idle
abbrev pub finished_with : Option Departure → State → ℕ → State
finished_with None st j = st
finished_with (Some d) st j =
    record st {
      sending = with_line st.sending j None;
      ledgers = with_flow st.ledgers d.input j (departing d.bytes (st.ledgers d.input j));
      lists = cond (nat_lt 0 (length (st.lists d.input j))) (with_flow st.lists d.input j (drop 1 (st.lists d.input j))) st.lists;
    }

-- the state once output j has let go what leaves now
abbrev pub finished : State → ℕ → State
finished st j = finished_with (leaving st j) st j

-- a list of what leaves
abbrev pub listed_with : Option Departure → List Departure
listed_with None = []
listed_with (Some d) = d ∷ []

-- the state after the first n outputs, and the departures that they list
unfoldable pub finish_to : ℕ → State → State
finish_to zero st = st
finish_to (suc n) st = finished (finish_to n st) n

unfoldable pub listed_to : ℕ → State → List Departure
listed_to zero st = []
listed_to (suc n) st = listed_to n st ++ listed_with (leaving (finish_to n st) n)
