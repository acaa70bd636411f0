use Rattle.std.proofs.Common.{◌≡◌, ◌≤◌, ◌++◌, length, drop}
use Rattle.switch.specs.Calls.{Keeps, state_of}
use Rattle.state.specs.Finishes.{finish_to, listed_to}
use Rattle.switch.proofs.running.Running.finish_all.Given as goal

abbrev pub invariant-loop-j : goal.invariant-loop-j
invariant-loop-j g l =
    (l.count ≤ l.j)
    × (l.count ≡ length (listed_to l.j (state_of g.S.Store.lists l.initial.self)))
    × (l.out ≡ listed_to l.j (state_of g.S.Store.lists l.initial.self) ++ drop l.count l.initial.out)
    × (state_of g.S.Store.lists l.self ≡ finish_to l.j (state_of g.S.Store.lists l.initial.self))
    × Keeps g.S.Store.size l.initial.self l.self
