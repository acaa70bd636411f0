-- What a store holds of a run.
use Rattle.std.specs.Prelude.{◌≡◌, ℕ, ◌≤◌, List, length}
use Rattle.store.specs.Stored.{stored}
use Rattle.store.specs.declared.packet.Packet.{Packet}
use Rattle.law.specs.Journeys.{inside}
use Rattle.law.specs.Step.{Plan, Switch}
use Rattle.law.specs.Runs.{all_inside}

-- The lists have as many packets as are inside: of each flow, and in all.
pub record Holds (lists : ℕ → ℕ → List Packet) (plan : Plan) (s : Switch) : Type 0 where
  pub few_ports : plan.ports ≤ 16
  pub each : (i j : ℕ) → length (lists i j) ≡ inside s.clock (s.flow i j)
  pub all : stored lists ≡ all_inside plan s
