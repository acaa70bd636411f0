-- A table of weights, and the sums of its rows and columns.
use Rattle.std.specs.Prelude.{ℕ, cond, List, nat_lt}
use Rattle.grid.specs.Flows.{flow_in, sum_below}

-- the weight of flow (i, j), which stands at 16 × i + j; 0 outside ports 0 to 15
abbrev pub weight_in : List ℕ → ℕ → ℕ → ℕ
weight_in cells = flow_in 0 cells

-- of n ports: the weights of input i, and those of output j, added up
abbrev pub row_sum : ℕ → (ℕ → ℕ → ℕ) → ℕ → ℕ
row_sum n weight i = sum_below n (λ j. weight i j)

abbrev pub column_sum : ℕ → (ℕ → ℕ → ℕ) → ℕ → ℕ
column_sum n weight j = sum_below n (λ i. weight i j)

-- of n ports: how many open flows enter output j
abbrev pub open_into : ℕ → (ℕ → ℕ → ℕ) → ℕ → ℕ
open_into n weight j = sum_below n (λ i. cond (nat_lt 0 (weight i j)) 1 0)
