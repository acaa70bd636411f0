use Rattle.std.proofs.Common.{ℕ, [], sym, refl, ap, subst}
use Rattle.law.specs.Plans.{plan_of}
use Rattle.law.specs.Step.{sealed}
use Rattle.state.specs.State.{State}
use Rattle.state.specs.Shows.{Moment}
use Rattle.switch.specs.Calls.{state_of}
use Rattle.player.proofs.Inside.{none_inside}
use Rattle.player.proofs.player.Player.new.Goals as goal

pub returns : goal.returns
returns g c =
    let running = c.seal.result in
    let made = c.seal.ensures in
    record {
      switch = record {
        plan_is = ap (λ (st : State). plan_of st.plan) made.state;
        moment = subst (λ (M : ℕ). Moment M (state_of g.S.Store.lists running) [] sealed) (sym made.stated_size) made.law.0;
        rule = made.rule;
      };
      inside = sym (none_inside (plan_of c.args.draft.plan));
      bytes = refl;
    }
