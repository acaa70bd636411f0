use Rattle.std.proofs.Common.{◌≡◌}
use Rattle.switch.specs.Shown.{shown}
use Rattle.state.specs.Sends.{Sendings}
use Rattle.switch.proofs.running.Running.send_all.Given as goal

abbrev pub invariant-loop-j : goal.invariant-loop-j
invariant-loop-j g l =
    Sendings g.R.TieRule.answer g.R.TieRule.told (shown (g.S.Store.lists l.initial.self.store.store) l.initial.self) l.initial.self.rule l.j
    (shown (g.S.Store.lists l.self.store.store) l.self) l.self.rule
    × (l.self.store ≡ l.initial.self.store)
