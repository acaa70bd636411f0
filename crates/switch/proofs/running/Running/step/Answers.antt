use Rattle.switch.specs.Shown.{shown}
use Rattle.state.proofs.StepKeeps.{step_lengths}
use Rattle.state.proofs.StepCarries.{step_carries}
use Rattle.switch.proofs.running.Running.step.Goals as goal

pub returns : goal.returns
returns g c =
    let s = c.args.self.now in
    let e = c.advance.new.self in
    let done = c.advance.ensures in
    let M = g.S.Store.size s.store.store in
    let st = shown (g.S.Store.lists s.store.store) s in
    let after = shown (g.S.Store.lists e.store.store) e in
    let lengths = step_lengths g.R.TieRule.answer g.R.TieRule.told st s.rule after e.rule c.args.out.now c.advance.new.out c.advance.result done.step in
    record {
      exact = done.step;
      refused = done.refused;
      entries = lengths.0;
      few = lengths.1;
      stated_size = done.size;
      law = step_carries g.R.TieRule.answer g.R.TieRule.told g.met.R.TieRule.picks_tied M st s.rule after e.rule c.args.out.now c.advance.new.out c.advance.result done.step;
    }
