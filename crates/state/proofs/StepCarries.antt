-- A step carries every run on: the law makes the same starts and departures, and the state after it stands for the switch a tick later.
use Rattle.std.proofs.Common.{◌≡◌, ℕ, ◌+◌, ◌<◌, ◌≤◌, List, ◌∷◌, length, take, drop, Some, None, Ok, Err, Result, sym, refl, ap, ◌∙◌, subst}
use Rattle.std.proofs.Math.Seq.{take-append_seam}
use Rattle.plan.specs.Numbers.{step_number}
use Rattle.plan.specs.Refusals.{step_refusal}
use Rattle.plan.specs.declared.fault.StepFault.{StepFault}
use Rattle.plan.specs.declared.table.Plan as kit
use Rattle.plan.proofs.Refused.{step_granted, step_alike}
use Rattle.tie.specs.PicksTied.{PicksTied}
use Rattle.departure.specs.declared.Departure.{Departure}
use Rattle.law.specs.Plans.{plan_of}
use Rattle.law.specs.Rules.{Rule, answers_in_order, crossing_choice, sending_choice}
use Rattle.law.specs.Runs.{step, refused, listed, leaves, Run, ticks, no_tick}
use Rattle.law.specs.Step.{Switch, after_tick}
use Rattle.state.specs.State.{State}
use Rattle.state.specs.Finishes.{finish_to, listed_to}
use Rattle.state.specs.Sends.{Stepped, ticked}
use Rattle.state.specs.Shows.{Shows, Moment, CarriesOn}
use Rattle.state.specs.Steps.{StepsSo, StepLeads, step_told}
use Rattle.state.proofs.AfterStep.{shows_after, list_leaves}
use Rattle.state.proofs.AskedInOrder.{step_asked}
use Rattle.state.proofs.FinishByFlow.{Finish, finish_is}
use Rattle.state.proofs.ShownFlows.{keeps}
use Rattle.state.proofs.StepKeeps.{step_plan}

module _ {K : Type 0} (answer : K → Rule) (told : K → ℕ → ℕ → K → Type 0) (picks-tied : (k : K) → PicksTied (answer k)) (M : ℕ) (st : State) (kept : K) (after : State) (next : K) where
  -- a step that is granted, with a list in which it has filled in its departures
  pub granted_step : (list new : List Departure) (room count : ℕ) → take count new ≡ list → after.plan ≡ st.plan → step_refusal st.plan.size.ports room st.clock ≡ None → Stepped answer told st kept after next list →
      CarriesOn (StepLeads answer told (plan_of st.plan) kept next (Ok count) new) M st after (step room) (listed list)
  granted_step list new room count front same-plan granted x = λ log s now.
      let plan = plan_of st.plan in
      let n = st.plan.size.ports in
      let there : step_refusal n room s.clock ≡ None = ap (λ t. step_refusal n room t) (sym now.shows.clock_is) ∙ granted in
      let asked = step_asked answer told picks-tied now kept after next list x in
      let all = asked.all in
      let later = ticks room asked.cross asked.send now.run there all.lawful in
      let ports : x.sent.plan.size.ports ≡ n = ap (λ (y : State). y.plan.size.ports) all.outputs.beside ∙ ap (λ (p : kit.Plan). p.size.ports) all.inputs.beside.plan_is in
      let whole : after ≡ finish_to n (ticked x.sent) = x.state ∙ ap (λ m. finish_to m (ticked x.sent)) ports in
      let finish : Finish n (ticked x.sent) after = subst (Finish n (ticked x.sent)) (sym whole) (finish_is n (ticked x.sent)) in
      let shows : Shows after (after_tick plan s asked.cross asked.send) = shows_after now all later finish (step_granted n room s.clock there).1 in
      let leave : list ≡ leaves plan (after_tick plan s asked.cross asked.send) s.clock (s.clock + 1) = x.leaves ∙ ap (λ m. listed_to m (ticked x.sent)) ports ∙ list_leaves now all later finish in
      let R = answers_in_order answer told asked.ks in
      let end = after_tick plan s (crossing_choice plan s R) (sending_choice plan s R) in
      let same : after_tick plan s asked.cross asked.send ≡ end = λ k. after_tick plan s (asked.cross_is k) (asked.send_is k) in
      let run : Run plan M ((step room, listed list) ∷ log) (after_tick plan s asked.cross asked.send) = subst (λ ds. Run plan M ((step room, listed ds) ∷ log) (after_tick plan s asked.cross asked.send)) (sym leave) later in
      let at-end : Moment M after ((step room, listed list) ∷ log) end = record {
        run = subst (λ (p : kit.Plan). Run (plan_of p) M ((step room, listed list) ∷ log) end) (sym same-plan) (subst (Run plan M ((step room, listed list) ∷ log)) same run);
        shows = subst (Shows after) same shows;
      } in
      (end, (asked.ks, asked.order, asked.last, refl, front ∙ leave ∙ ap (λ (x : Switch). leaves plan x s.clock (s.clock + 1)) same), at-end, keeps at-end)

  -- a step that is refused
  refused_step : (new : List Departure) (room : ℕ) (e : StepFault) → after ≡ st → next ≡ kept → step_refusal st.plan.size.ports room st.clock ≡ Some e →
      CarriesOn (StepLeads answer told (plan_of st.plan) kept next (Err e) new) M st after (step room) (refused (step_number e))
  refused_step new room e same still is = λ log s now.
      let there : step_refusal st.plan.size.ports room s.clock ≡ Some e = ap (λ t. step_refusal st.plan.size.ports room t) (sym now.shows.clock_is) ∙ is in
      let at-end : Moment M after ((step room, refused (step_number e)) ∷ log) s = subst (λ (y : State). Moment M y ((step room, refused (step_number e)) ∷ log) s) (sym same) record { run = no_tick room e now.run there; shows = now.shows } in
      (s, (still, refl), at-end, keeps at-end)

  module _ (old new : List Departure) where
    -- a step on a list which is too short just where one of `room` entries is
    pub step_carries_room : (r : Result ℕ StepFault) (room : ℕ) → (length old < st.plan.size.ports → room < st.plan.size.ports) → (st.plan.size.ports ≤ length old → st.plan.size.ports ≤ room) →
        StepsSo answer told st kept after next old new r → CarriesOn (StepLeads answer told (plan_of st.plan) kept next r new) M st after (step room) (step_told r new)
    step_carries_room (Err f) room less more (why, same, still, _) = refused_step new room f same still (sym (step_alike st.plan.size.ports (length old) room st.clock less more) ∙ why)
    step_carries_room (Ok count) room less more (why, (list, stepped, counted, written)) =
        let front : take count new ≡ list = (λ k. take (counted k) (written k)) ∙ take-append_seam list (drop count old) in
        let same-plan = step_plan answer told st kept after next old new (Ok count) (why, (list, stepped, counted, written)) in
        subst (λ (ds : List Departure). CarriesOn (StepLeads answer told (plan_of st.plan) kept next (Ok count) new) M st after (step room) (listed ds)) (sym front)
        (granted_step list new room count front same-plan (sym (step_alike st.plan.size.ports (length old) room st.clock less more) ∙ why) stepped)

    pub step_carries : (r : Result ℕ StepFault) → StepsSo answer told st kept after next old new r → CarriesOn (StepLeads answer told (plan_of st.plan) kept next r new) M st after (step (length old)) (step_told r new)
    step_carries r so = step_carries_room r (length old) (λ l. l) (λ l. l) so
