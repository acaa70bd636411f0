use Rattle.std.proofs.Common.{sym, refl, ap, subst, ◌∷◌}
use Rattle.law.specs.Runs as law
use Rattle.switch.specs.Calls.{state_of}
use Rattle.state.specs.Asks.{ask_told}
use Rattle.state.specs.Performs.{call_of}
use Rattle.state.specs.Shows.{Moment}
use Rattle.switch.proofs.running.Running.make.Goals as goal

pub returns-in-Ask-clause-law : goal.returns-in-Ask-clause-law
returns-in-Ask-clause-law g c = (
  refl,
  (λ log s m.
      let on = c.ask.ensures.law log s m in
      let now = c.args.self.now in
      (on.0, subst (λ (call : law.Call). Moment (g.S.Store.size now.store.store) (state_of g.S.Store.lists now) ((call, ask_told c.ask.result) ∷ log) on.0) (sym (ap call_of c.in-Ask.is)) on.2)),
)
