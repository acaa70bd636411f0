-- A flow's packets as they wait in a queue: their scaled stamps, and their bytes.
use Rattle.std.specs.Prelude.{ℕ, List, [], ◌∷◌, take}
use Rattle.timing.specs.Fluid.{Accepted, accepted_bytes}
use Rattle.timing.specs.Stamps.{scaled_finish, scaled_start}

-- a packet with its scaled virtual start, and its length
pub record Queued : Type 0 where
  pub start : ℕ
  pub bytes : ℕ

-- its scaled virtual finish, on a line of W parts
abbrev pub finish : ℕ → Queued → ℕ
finish W p = scaled_finish W p.start p.bytes

-- an accepted packet of a flow of weight w. f is the scaled virtual finish of the packet before it, 0 where it is the first
abbrev pub stamp : ℕ → ℕ → Accepted → Queued
stamp w f p = record { start = scaled_start w p.arrival f; bytes = p.bytes }

-- the accepted packets of a flow, oldest first
abbrev pub stamps : ℕ → ℕ → ℕ → List Accepted → List Queued
stamps W w f [] = []
stamps W w f (p ∷ ps) = stamp w f p ∷ stamps W w (finish W (stamp w f p)) ps

-- bytes of the first k packets
abbrev pub bytes_of : List Accepted → ℕ → ℕ
bytes_of ps k = accepted_bytes (take k ps)
