-- Settled switches that stand for a switch of the law.
use Rattle.std.specs.Prelude.{ℕ, Bool, List}
use Rattle.std.specs.declared.vec.Vec.{Vec}
use Rattle.store.specs.declared.packet.Packet.{Packet}
use Rattle.law.specs.Plans.{plan_of}
use Rattle.law.specs.Step.{Plan, Switch}
use Rattle.law.specs.Runs.{Call, Answer}
use Rattle.state.specs.Shows.{Moment}
use Rattle.switch.specs.Calls.{state_of}
use Rattle.switch.specs.declared.settled.Settled.{Settled}
use Rattle.carry.specs.Lists.{Adds}

-- a run ended at the switch s, over a store of some stated size, and was settled
abbrev pub Settles : {S R : Type 0} {g : _} → (S → ℕ → ℕ → List Packet) → Settled S R g → Switch → Type 0
Settles lists settled s = (M : ℕ) × (log : List (Call × Answer)) × Moment M (state_of lists settled.running) log s

abbrev pub IsSettled : {S R : Type 0} {g : _} → (S → ℕ → ℕ → List Packet) → Settled S R g → Type 0
IsSettled lists settled = (s : Switch) × Settles lists settled s

-- lines of the switch that it stands for are appended
abbrev pub AddsOf : {S R Z : Type 0} {g : _} → (S → ℕ → ℕ → List Packet) → Settled S R g → (Plan → Switch → List ℕ) → (before after : Vec ℕ Z) → Bool → Type 0
AddsOf lists settled lines before after ok = (s : Switch) → Settles lists settled s → Adds (lines (plan_of settled.running.plan) s) before after ok
