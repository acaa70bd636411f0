-- What the items of a run file, newest first, book and bring, and what the library refuses of the next one.
use Rattle.std.specs.Prelude.{ℕ, List, [], ◌∷◌, None}
use Rattle.std.specs.Option.{option_map}
use Rattle.grid.specs.Flows.{with_flow}
use Rattle.plan.specs.Refusals.{size_refusal, share_refusal, arrive_refusal}
use Rattle.law.specs.Step.{Plan}
use Rattle.replay.specs.Replay.{Arrival}
use Rattle.runfile.specs.File.{Library}
use Rattle.runfile.specs.Order.{Item, head, share, arrival}
use Rattle.runfile.specs.declared.body.Arrival as file
use Rattle.runfile.specs.declared.body.Head.{Head}
use Rattle.runfile.specs.declared.body.StoreKind.TheVariants.{Rings}
use Rattle.runfile.specs.declared.body.RuleKind.TheVariants.{Lowest}
use Rattle.runfile.specs.declared.fault.Cause.TheVariants as cause

-- the head; before it, one without ports
abbrev pub head_in : List Item → Head
head_in [] = record { ports = 0; longest = 1; parts = 1; store = Rings; rule = Lowest }
head_in (head h ∷ is) = h
head_in (i ∷ is) = head_in is

-- the weights: all 0, and each share replaces one
abbrev pub weights : List Item → ℕ → ℕ → ℕ
weights [] = λ _ _. 0
weights (share s ∷ is) = with_flow (weights is) s.input s.output s.weight
weights (i ∷ is) = weights is

abbrev pub plan_in : List Item → Plan
plan_in is = record { ports = (head_in is).ports; longest = (head_in is).longest; parts = (head_in is).parts; weight = weights is }

-- the packet of an arrival, and those of all arrivals, newest first
abbrev pub arriving : file.Arrival → Arrival
arriving a = record { tick = a.tick; input = a.input; output = a.output; bytes = a.length }

abbrev pub arrivals_in : List Item → List Arrival
arrivals_in [] = []
arrivals_in (arrival a ∷ is) = arriving a ∷ arrivals_in is
arrivals_in (i ∷ is) = arrivals_in is

-- what is refused of an item after those before it: a size or a share by the plan, an arrival by the switch, but not because
-- the store is full
abbrev pub refuses : Library
refuses is (head h) = option_map cause.Size (size_refusal h.ports h.longest h.parts)
refuses is (share s) = option_map cause.Share (share_refusal (plan_in is).ports (plan_in is).parts (plan_in is).weight s.input s.output s.weight)
refuses is (arrival a) = option_map cause.Arrive (arrive_refusal (plan_in is).ports (plan_in is).longest (plan_in is).weight a.input a.output a.length)
refuses is i = None
