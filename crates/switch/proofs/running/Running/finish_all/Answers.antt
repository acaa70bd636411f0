use Rattle.std.proofs.Common.{◌≡◌, ◌+◌, ◌<◌, ◌≤◌, ◌++◌, length, drop, sym, refl, ap, ◌∙◌, arith}
use Rattle.state.specs.State.{State}
use Rattle.switch.specs.Shown.{shown}
use Rattle.state.specs.Finishes.{finish_to, listed_to, leaving, finished}
use Rattle.state.proofs.FinishInCode.{finish_more, written_none, written_some, written_as}
use Rattle.switch.proofs.running.Running.finish_all.Goals as goal

pub loop-j-init : goal.loop-j-init
unfolding finish_to listed_to
loop-j-init g c = (omega arith, refl, refl, refl, record { size_kept = refl; rule_kept = refl })

pub loop-j-preserved : goal.loop-j-preserved
loop-j-preserved g c =
    let s = c.args.self.now in
    let st = shown (g.S.Store.lists s.store.store) s in
    let v = c.loop-j.invariant in
    let j = c.loop-j.j in
    let e = c.finish.ensures in
    let out = sym (ap (λ (x : State). leaving x j) v.3) ∙ sym e.answer in
    let state = e.state ∙ ap (λ (x : State). finished x j) v.3 ∙ sym (finish_more j st) in
    let few : j < length c.args.out.now = omega arith in
    let t : (c.match-finish.count ≤ j + 1) × (c.match-finish.count ≡ length (listed_to (j + 1) st)) × (c.match-finish.out ≡ listed_to (j + 1) st ++ drop c.match-finish.count c.args.out.now) =
    elim c.match-finish.branch [
      | goal.in-Some w ↦ written_as _ _ _ _ (j + 1) c.args.out.now st w.count-is w.out-is (written_some j c.loop-j.count w.in-Some.departure c.loop-j.out c.args.out.now st (v.0, v.1, v.2) few (out ∙ w.in-Some.is))
      | goal.in_default w ↦ written_as _ _ _ _ (j + 1) c.args.out.now st w.count-is w.out-is (written_none j c.loop-j.count c.loop-j.out c.args.out.now st (v.0, v.1, v.2) (out ∙ w.in_default.is))
    ] in
    (t.0, t.1, t.2, state, record { size_kept = e.kept.size_kept ∙ v.4.size_kept; rule_kept = e.kept.rule_kept ∙ v.4.rule_kept })
