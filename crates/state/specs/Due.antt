-- From when on a port may start something by the packets that are next at it, its line left aside.
use Rattle.std.specs.Prelude.{◌≡◌, ℕ, zero, suc, ◌<◌, min, List, Some, None, Option, slice_index}
use Rattle.std.specs.List.{slice_get}
use Rattle.plan.specs.declared.fault.TheConstants.{LAST_TICK}
use Rattle.store.specs.declared.packet.Packet.{Packet}
use Rattle.state.specs.declared.line.Ledger.{Ledger}
use Rattle.state.specs.Ready.{across_from, out_from}

-- the sooner of a tick and of another, if there is one
abbrev pub sooner_of : ℕ → Option ℕ → ℕ
sooner_of best None = best
sooner_of best (Some t) = min best t

-- the first of those of the ticks f 0 to f (n - 1) that there are, at most the clock's last tick
unfoldable pub first_of : (ℕ → Option ℕ) → ℕ → ℕ
first_of f zero = LAST_TICK
first_of f (suc n) = sooner_of (first_of f n) (f n)

-- the oldest packet of flow (i, j) that has not started across: `under_way` older ones have
abbrev pub oldest_across : (ℕ → ℕ → List Packet) → (ℕ → ℕ → Ledger) → ℕ → ℕ → Option Packet
oldest_across lists ledgers i j = slice_get (lists i j) (ledgers i j).under_way

-- the oldest stored packet of flow (i, j)
abbrev pub oldest_out : (ℕ → ℕ → List Packet) → ℕ → ℕ → Option Packet
oldest_out lists i j = slice_get (lists i j) 0

-- from when on input i may start something: one of these packets of its flows
abbrev pub across_due : (ℕ → ℕ → List Packet) → (ℕ → ℕ → Ledger) → ℕ → ℕ
across_due lists ledgers i = first_of (λ j. across_from (oldest_across lists ledgers i j)) 16

-- from when on output j may start something, where the longest packet has L bytes
abbrev pub out_due : ℕ → (ℕ → ℕ → List Packet) → ℕ → ℕ
out_due L lists j = first_of (λ i. out_from L (oldest_out lists i j)) 16

-- a row tells these ticks of all inputs, and of all outputs
abbrev pub TellsAcross : (ℕ → ℕ → List Packet) → (ℕ → ℕ → Ledger) → List ℕ → Type 0
TellsAcross lists ledgers row = (i : ℕ) → i < 16 → slice_index row i ≡ across_due lists ledgers i

abbrev pub TellsOut : ℕ → (ℕ → ℕ → List Packet) → List ℕ → Type 0
TellsOut L lists row = (j : ℕ) → j < 16 → slice_index row j ≡ out_due L lists j
