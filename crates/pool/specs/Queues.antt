-- Queues of numbered cells. Of each cell the next in its queue is known, and of each queue its first cell, its last
-- cell and how many it has.
use Rattle.std.specs.Prelude.{◌≡◌, ℕ, zero, suc, ◌+◌, ◌-◌, ◌<◌, List, ◌≢◌, map, slice_index, slice_set}
use Rattle.pool.specs.declared.links.Queue.{Queue}

-- of each queue its first cell, its last cell, and how many cells it has
abbrev pub first_cells : List Queue → List ℕ
first_cells = map (λ q. q.first)

abbrev pub last_cells : List Queue → List ℕ
last_cells = map (λ q. q.last)

abbrev pub lengths : List Queue → List ℕ
lengths = map (λ q. q.count)

-- the cell k links after the cell c
unfoldable pub walk : List ℕ → ℕ → ℕ → ℕ
walk next c zero = c
walk next c (suc k) = slice_index next (walk next c k)

-- the k-th cell of queue q
abbrev pub cell_in : (next first : List ℕ) → ℕ → ℕ → ℕ
cell_in next first q k = walk next (slice_index first q) k

-- every entry is the number of one of 512 cells
abbrev pub Cells : List ℕ → Type 0
Cells xs = (k : ℕ) → slice_index xs k < 512

-- the places x and y, each a queue and a number in it, have the same cell
abbrev pub Shared : (next first count : List ℕ) → (x y : ℕ × ℕ) → Type 0
Shared next first count x y =
    (x.1 < slice_index count x.0) × (y.1 < slice_index count y.0) × (cell_in next first x.0 x.1 ≡ cell_in next first y.0 y.1)

-- no cell stands in two queues, or twice in one
abbrev pub OneQueue : (next first count : List ℕ) → Type 0
OneQueue next first count = (x y : ℕ × ℕ) → Shared next first count x y → x.0 ≡ y.0

abbrev pub OnePlace : (next first count : List ℕ) → Type 0
OnePlace next first count = (x y : ℕ × ℕ) → Shared next first count x y → x.1 ≡ y.1

-- a queue that has cells ends with its last
abbrev pub Ended : (next first last count : List ℕ) → Type 0
Ended next first last count =
    (q k : ℕ) → slice_index count q ≡ k + 1 → cell_in next first q k ≡ slice_index last q

-- the counts once the first cell of queue from went to the end of queue to
abbrev pub counts_after : List ℕ → ℕ → ℕ → List ℕ
counts_after count from to = slice_set (slice_set count from (slice_index count from - 1)) to (slice_index count to + 1)

-- the first cell of queue from went to the end of queue to: those behind it moved up, and no other cell moved
pub record Shifted (next first count next' first' count' : List ℕ) (from to : ℕ) : Type 0 where
  pub counts : count' ≡ counts_after count from to
  pub kept : (q k : ℕ) → (q ≢ from) → k < slice_index count q → cell_in next' first' q k ≡ cell_in next first q k
  pub moved : (k : ℕ) → k + 1 < slice_index count from → cell_in next' first' from k ≡ cell_in next first from (k + 1)
  pub came : cell_in next' first' to (slice_index count to) ≡ cell_in next first from 0
