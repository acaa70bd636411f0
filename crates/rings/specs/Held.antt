-- What a store of rings means.
use Rattle.std.specs.Prelude.{ℕ, Bool, ◌≤◌, true, cond, List, [], length, nat_le, slice_index_or}
use Rattle.arrayvec.specs.ArrayVec.{ArrayVec}
use Rattle.store.specs.declared.packet.Packet.{Packet}
use Rattle.grid.specs.Flows.{in_grid, flow_in}

-- a ring with no packet
abbrev pub empty : ArrayVec Packet
empty = record { items = [] }

-- the packets of each flow, from one ring for each
abbrev pub lists_in : List (ArrayVec Packet) → ℕ → ℕ → List Packet
lists_in rings i j = (flow_in empty rings i j).items

-- no ring has more than two packets
abbrev pub AtMostTwo : List (ArrayVec Packet) → Type 0
AtMostTwo rings = (k : ℕ) → length (slice_index_or rings k empty).items ≤ 2

-- a flow of ports 0 to 15 is full at two packets, any other always
abbrev pub full_at_two : (ℕ → ℕ → List Packet) → ℕ → ℕ → Bool
full_at_two lists i j = cond (in_grid i j) (nat_le 2 (length (lists i j))) true
