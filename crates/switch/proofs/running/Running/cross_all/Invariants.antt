use Rattle.std.proofs.Common.{◌≡◌}
use Rattle.switch.specs.Shown.{shown}
use Rattle.state.specs.Crosses.{Crossings}
use Rattle.switch.proofs.running.Running.cross_all.Given as goal

abbrev pub invariant-loop-i : goal.invariant-loop-i
invariant-loop-i g l =
    Crossings g.R.TieRule.answer g.R.TieRule.told (shown (g.S.Store.lists l.initial.self.store.store) l.initial.self) l.initial.self.rule l.i
    (shown (g.S.Store.lists l.self.store.store) l.self) l.self.rule
    × (g.S.Store.size l.self.store.store ≡ g.S.Store.size l.initial.self.store.store)
