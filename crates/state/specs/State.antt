-- The state of a running switch as plain data: all that it keeps but the store itself and the tie rule. The store stands for
-- its meaning, a list of packets for each flow.
use Rattle.std.specs.Prelude.{ℕ, List, Some, None, Option}
use Rattle.plan.specs.declared.table.Plan as kit
use Rattle.grid.specs.Flows.{flow_in}
use Rattle.store.specs.declared.packet.Packet.{Packet}
use Rattle.state.specs.declared.line.Ledger.{Ledger}
use Rattle.departure.specs.declared.Departure.{Departure}
use Rattle.state.specs.Lines.{Line}

-- What is kept of a port or of a flow (i, j), from input i to output j, is a function of the numbers of its ports.
pub record State : Type 0 where
  pub plan : kit.Plan
  -- the tick at which the next step begins
  pub clock : ℕ
  -- the line of each input, whose load is the output that it carries a packet to
  pub crossing : ℕ → Line ℕ
  -- the line of each output, whose load is the departure of the packet that it carries
  pub sending : ℕ → Line Departure
  pub ledgers : ℕ → ℕ → Ledger
  -- the stored packets of each flow, oldest first
  pub lists : ℕ → ℕ → List Packet
  -- how many packets of each flow were accepted, modulo 2 ^ 64: the serial of the next one
  pub counts : ℕ → ℕ → ℕ

-- the ledger of a flow at the seal
abbrev pub fresh : Ledger
fresh = record { last = None; accepted = 0; started = 0; departed = 0; peak = 0; under_way = 0 }

-- the ledger of each flow, from the list of 256 that the code keeps
abbrev pub ledger_in : List Ledger → ℕ → ℕ → Ledger
ledger_in ledgers = flow_in fresh ledgers

-- the length of a packet, 0 where there is none
abbrev pub bytes_in : Option Packet → ℕ
bytes_in None = 0
bytes_in (Some p) = p.bytes
