use Rattle.std.proofs.Common.{◌≡◌, ◌≤◌, length, take}
use Rattle.std.specs.Vec.{vec_len, vec_capacity}
use Rattle.state.specs.Performs.{Performs}
use Rattle.switch.specs.Calls.{state_of}
use Rattle.switch.proofs.runs.perform.Given as goal

abbrev pub invariant-loop-call : goal.invariant-loop-call
invariant-loop-call g l =
    Performs (g.S.Store.size l.initial.running.store.store) l.fn.draft.plan (state_of g.S.Store.lists l.running) (take l.call-index l.calls) l.answers.items
    × (g.S.Store.size l.running.store.store ≡ g.S.Store.size l.initial.running.store.store)
    × (vec_len l.answers ≡ l.call-index) × (length l.calls ≤ vec_capacity l.answers)
