-- What a plan holds.
use Rattle.std.specs.Prelude.{ℕ, Bool, ◌&&◌, Option, nat_lt}
use Rattle.plan.specs.Table.{weight_in}
use Rattle.plan.specs.Refusals.{share_refusal}
use Rattle.plan.specs.declared.fault.ShareFault.{ShareFault}
use Rattle.plan.specs.declared.table.Plan.{Plan}

-- the weight of flow (i, j)
abbrev pub weight_of : Plan → ℕ → ℕ → ℕ
weight_of plan = weight_in plan.weights

-- why the weight w of flow (i, j) is not booked
abbrev pub refusal_of : Plan → ℕ → ℕ → ℕ → Option ShareFault
refusal_of plan = share_refusal plan.size.ports plan.size.parts (weight_of plan)

-- both ports of flow (i, j) are below N
abbrev pub has_flow : Plan → ℕ → ℕ → Bool
has_flow plan i j = nat_lt i plan.size.ports && nat_lt j plan.size.ports
