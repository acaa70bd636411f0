-- What a plan, and a switch over it, refuse: the first of the rules that applies.
use Rattle.std.specs.Prelude.{ℕ, Bool, cond, ◌&&◌, ◌||◌, Some, None, Ok, Err, Option, Result, ◌==◌, nat_le, nat_lt}
use Rattle.grid.specs.Flows.{with_flow}
use Rattle.plan.specs.Table.{row_sum, column_sum}
use Rattle.plan.specs.declared.fault.SizeFault.{SizeFault}
use Rattle.plan.specs.declared.fault.ShareFault.{ShareFault}
use Rattle.plan.specs.declared.fault.PortFault.{PortFault}
use Rattle.plan.specs.declared.fault.ArriveFault.{ArriveFault}
use Rattle.plan.specs.declared.fault.StepFault.{StepFault}
use Rattle.plan.specs.declared.fault.SizeFault.TheVariants as size
use Rattle.plan.specs.declared.fault.ShareFault.TheVariants as share
use Rattle.plan.specs.declared.fault.PortFault.TheVariants as port
use Rattle.plan.specs.declared.fault.ArriveFault.TheVariants as arrive
use Rattle.plan.specs.declared.fault.StepFault.TheVariants as step
use Rattle.plan.specs.declared.fault.TheConstants.{LAST_TICK}

-- a number outside low to high
abbrev pub outside : ℕ → ℕ → ℕ → Bool
outside low high n = nat_lt n low || nat_lt high n

-- N, then L, then W out of its range
abbrev pub size_refusal : ℕ → ℕ → ℕ → Option SizeFault
size_refusal n l w =
    cond (outside 1 16 n) (Some size.Ports)
    (cond (outside 1 1500 l) (Some size.Longest)
    (cond (outside 1 10000 w) (Some size.Parts) None))

-- in a plan of n ports and W parts: a port, a weight, a row or a column that the new weight w of flow (i, j)
-- takes beyond its limit
abbrev pub share_refusal : (n W : ℕ) → (ℕ → ℕ → ℕ) → (i j w : ℕ) → Option ShareFault
share_refusal n W weight i j w =
    cond (nat_lt i n && nat_lt j n)
    (cond (nat_lt W w) (Some share.Weight)
    (cond (nat_lt W (row_sum n (with_flow weight i j w) i)) (Some share.Row)
    (cond (nat_lt W (column_sum n (with_flow weight i j w) j)) (Some share.Column) None)))
    (Some share.Port)

-- of n ports: a port of flow (i, j) that is not one of them
abbrev pub port_refusal : (n i j : ℕ) → Option PortFault
port_refusal n i j = cond (nat_lt i n && nat_lt j n) None (Some port.Port)

-- of n ports, packets of at most L bytes and these weights, a packet of b bytes in flow (i, j): a port, the length, or a
-- closed flow, whatever a store holds
abbrev pub arrive_refusal : (n L : ℕ) → (ℕ → ℕ → ℕ) → (i j b : ℕ) → Option ArriveFault
arrive_refusal n L weight i j b =
    cond (nat_lt i n && nat_lt j n)
    (cond (outside 1 L b) (Some arrive.Length)
    (cond (weight i j == 0) (Some arrive.Closed) None))
    (Some arrive.Port)

-- of n ports, a step with room for this many departures: too little room, or the clock at its last tick
abbrev pub step_refusal : (n room clock : ℕ) → Option StepFault
step_refusal n room clock = cond (nat_lt room n) (Some step.Short) (cond (nat_le LAST_TICK clock) (Some step.Last) None)

-- x, unless there is a refusal
abbrev pub unless : {X E : Type 0} → Option E → X → Result X E
unless None x = Ok x
unless (Some e) x = Err e
