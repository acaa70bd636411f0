use Rattle.std.proofs.Common.{◌≡◌, ◌+◌, cond, true, List, ◌∷◌, [], ◌++◌, take, get_or, sym, refl, ap, ◌∙◌, subst, arith}
use Rattle.std.specs.Vec.{vec_len}
use Rattle.std.specs.Result.{is_ok}
use Rattle.std.proofs.lemmas.List.{take_more}
use Rattle.state.specs.declared.call.Call.{Call}
use Rattle.state.specs.declared.call.Answer.{Answer}
use Rattle.state.specs.Performs.{Performs, Obeys}
use Rattle.state.proofs.CallsCarry.{no_call, performed_none, performed_more}
use Rattle.switch.specs.Calls.{state_of}
use Rattle.switch.proofs.runs.perform.Goals as goal

pub loop-call-init : goal.loop-call-init
loop-call-init g c =
    let room = c.in-Ok.ensures in (
      subst (Performs _ c.args.draft.plan (state_of g.S.Store.lists c.seal-running.result) []) (sym room.items)
          (performed_none _ c.args.draft.plan (state_of g.S.Store.lists c.seal-running.result) c.seal-running.ensures.state),
      refl,
      room.len,
      room.capacity,
    )

pub loop-call-preserved : goal.loop-call-preserved
loop-call-preserved g c =
    let i = c.loop-call.invariant in
    let before = c.loop-call.running in
    let now = c.make-answer.new.self in
    let old = state_of g.S.Store.lists before in
    let new = state_of g.S.Store.lists now in
    let call = get_or c.args.calls.now c.loop-call.call-index no_call in
    let M = g.S.Store.size c.seal-running.result.store.store in
    let obeys = subst (λ M. Obeys M old new call c.make-answer.result) i.1 c.make-answer.ensures.law in
    let more = performed_more M c.args.draft.plan old new (take c.loop-call.call-index c.args.calls.now) c.loop-call.answers.items call c.make-answer.result i.0 obeys in
    let fits : is_ok c.push.result ≡ true = c.push.ensures.succeeds (omega (arith, i.2, i.3, c.loop-call-test.true)) in
    let pushed : c.push.new.self.items ≡ c.loop-call.answers.items ++ c.make-answer.result ∷ [] = c.push.ensures.items ∙ ap (λ b. cond b (c.loop-call.answers.items ++ c.make-answer.result ∷ []) c.loop-call.answers.items) fits in
    let counted : vec_len c.push.new.self ≡ c.loop-call.call-index + 1 = c.push.ensures.len ∙ ap (λ b. cond b (vec_len c.loop-call.answers + 1) (vec_len c.loop-call.answers)) fits ∙ ap (λ n. n + 1) i.2 in (
      subst (λ (answers : List Answer). Performs M c.args.draft.plan new (take (c.loop-call.call-index + 1) c.args.calls.now) answers) (sym pushed)
          (subst (λ (cs : List Call). Performs M c.args.draft.plan new cs (c.loop-call.answers.items ++ c.make-answer.result ∷ [])) (sym (take_more c.args.calls.now c.loop-call.call-index no_call c.loop-call-test.true)) more),
      c.make-answer.ensures.stated_size ∙ i.1,
      counted,
      omega (arith, i.3, c.push.ensures.capacity),
    )
