-- What a running switch shows, with the lists of its store.
use Rattle.std.specs.Prelude.{ℕ, List, None, slice_index_or}
use Rattle.store.specs.declared.packet.Packet.{Packet}
use Rattle.store.specs.Counts.{counts}
use Rattle.state.specs.State.{State, ledger_in}
use Rattle.switch.specs.declared.running.Running.{Running}

-- with the lists of its store
abbrev pub shown : {S R : Type 0} {g : _} → (ℕ → ℕ → List Packet) → Running S R g → State
shown lists r = record {
  plan = r.plan;
  clock = r.clock;
  crossing = λ i. slice_index_or r.crossing i None;
  sending = λ j. slice_index_or r.sending j None;
  ledgers = ledger_in r.ledgers;
  lists = lists;
  counts = counts r.store;
}
