-- What a pool of cells means: each flow has a queue of cells, and the packets in these are its list.
use Rattle.std.specs.Prelude.{◌≡◌, ℕ, zero, suc, ◌<◌, Bool, true, cond, List, [], ◌∷◌, ◌++◌, is_some, Some, None, Option, nat_le, slice_index, slice_index_or}
use Rattle.store.specs.declared.packet.Packet.{Packet}
use Rattle.grid.specs.Flows.{in_grid, flow_of}
use Rattle.store.specs.Stored.{stored}
use Rattle.pool.specs.Queues.{cell_in, first_cells, lengths}
use Rattle.pool.specs.declared.links.Links.{Links}

-- the packet of one cell, as a list
abbrev pub packets_of : Option Packet → List Packet
packets_of None = []
packets_of (Some p) = p ∷ []

-- the packets of n cells in a row
unfoldable pub packets_below : ℕ → (ℕ → Option Packet) → List Packet
packets_below zero cell = []
packets_below (suc n) cell = packets_of (cell 0) ++ packets_below n (λ k. cell (suc k))

-- what the k-th cell of queue q has in it
abbrev pub content : List (Option Packet) → Links → ℕ → ℕ → Option Packet
content packets links q k = slice_index_or packets (cell_in links.next (first_cells links.queues) q k) None

-- the packets of queue q, first to last
abbrev pub queue_packets : List (Option Packet) → Links → ℕ → List Packet
queue_packets packets links q = packets_below (slice_index (lengths links.queues) q) (content packets links q)

-- the packets of each flow: queue 16 × i + j is that of flow (i, j)
abbrev pub lists_in : List (Option Packet) → Links → ℕ → ℕ → List Packet
lists_in packets links = flow_of [] (queue_packets packets links)

-- each cell of a flow's queue has a packet
abbrev pub Filled : List (Option Packet) → Links → Type 0
Filled packets links = (q k : ℕ) → (q < 256) × (k < slice_index (lengths links.queues) q) → is_some (content packets links q k) ≡ true

-- a flow of ports 0 to 15 is full once 512 packets are stored in all, any other always
abbrev pub full_at_512 : (ℕ → ℕ → List Packet) → ℕ → ℕ → Bool
full_at_512 lists i j = cond (in_grid i j) (nat_le 512 (stored lists)) true
