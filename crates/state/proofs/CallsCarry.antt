-- Calls made one after another are a run, from the seal on.
use Rattle.std.proofs.Common.{◌≡◌, ℕ, ◌+◌, List, [], ◌∷◌, ◌++◌, length, sym, refl, ap, ◌∙◌, subst, arith}
use Rattle.std.proofs.lemmas.List.{length_push}
use Rattle.plan.specs.declared.table.Plan as kit
use Rattle.law.specs.Plans.{plan_of}
use Rattle.law.specs.Runs.{Run}
use Rattle.law.specs.Step.{sealed}
use Rattle.law.proofs.PromisesKept.{runs_keep_promises}
use Rattle.state.specs.declared.call.Call.{Call}
use Rattle.state.specs.declared.call.Call.TheVariants as call
use Rattle.state.specs.declared.call.Answer.{Answer}
use Rattle.state.specs.State.{State}
use Rattle.state.specs.Seals.{sealed_state}
use Rattle.state.specs.Shows.{Moment}
use Rattle.state.specs.Performs.{Performs, Obeys, EveryMoment, log_of, call_of, answer_of}
use Rattle.state.proofs.SealCarries.{seal_opens}
use Rattle.state.proofs.ShownFlows.{plan_bookable}

pub performed_none : (M : ℕ) (plan : kit.Plan) (st : State) → st ≡ sealed_state plan → Performs M plan st [] []
performed_none M plan st e =
    let o = seal_opens M plan in
    subst (λ (x : State). Performs M plan x [] []) (sym e)
    record { each = refl; same_plan = refl; switch = sealed; moment = o.0; promises = (sealed, o.0.run, o.1) }

log_more : (calls : List Call) (answers : List Answer) (c : Call) (a : Answer) → length answers ≡ length calls →
    log_of (calls ++ c ∷ []) (answers ++ a ∷ []) ≡ (call_of c, answer_of a) ∷ log_of calls answers
log_more [] [] c a e = refl
log_more [] (b ∷ answers) c a e = absurd (omega arith)
log_more (d ∷ calls) [] c a e = absurd (omega arith)
log_more (d ∷ calls) (b ∷ answers) c a e = ap (λ log. log ++ (call_of d, answer_of b) ∷ []) (log_more calls answers c a (omega arith))

pub performed_more : (M : ℕ) (plan : kit.Plan) (st next : State) (calls : List Call) (answers : List Answer) (c : Call) (a : Answer) →
    Performs M plan st calls answers → Obeys M st next c a → Performs M plan next (calls ++ c ∷ []) (answers ++ a ∷ [])
performed_more M plan st next calls answers c a p (same, carries) =
    let on = carries (log_of calls answers) p.switch p.moment in
    let grown = log_more calls answers c a p.each in
    let m = subst (λ log. Moment M next log on.0) (sym grown) on.1 in
    let same-plan = same ∙ p.same_plan in
    let run = subst (λ (x : kit.Plan). Run (plan_of x) M ((call_of c, answer_of a) ∷ log_of calls answers) on.0) same-plan on.1.run in
    record {
      each = length_push answers a ∙ ap (λ n. n + 1) p.each ∙ sym (length_push calls c);
      same_plan = same-plan;
      switch = on.0;
      moment = m;
      promises = subst (EveryMoment (plan_of plan) M) (sym grown) ((on.0, run, runs_keep_promises (plan_of plan) M (plan_bookable plan) _ _ run), p.promises);
    }

-- the call that stands where there is none
abbrev pub no_call : Call
no_call = call.Arrive 0 0 0
