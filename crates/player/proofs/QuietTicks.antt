-- Quiet ticks at a moment of a replay are ticks of the replay: no event is added, and as many packets stay inside. Assumes nothing.
use Rattle.std.proofs.Common.{◌≡◌, ℕ, zero, suc, ◌+◌, ◌%◌, ◌^◌, ◌<◌, ◌≤◌, min, max, List, [], ◌++◌, map, sym, refl, ap, ◌∙◌, subst, add-zero, add-one, arith}
use Rattle.std.proofs.lemmas.List.{append-nil}
use Rattle.departure.specs.declared.Departure.{Departure}
use Rattle.plan.proofs.Refused.{step_grants}
use Rattle.plan.specs.declared.fault.TheConstants.{LAST_TICK}
use Rattle.store.specs.declared.packet.Packet.{Packet}
use Rattle.tie.specs.PicksTied.{PicksTied}
use Rattle.law.specs.Plans.{plan_of}
use Rattle.law.specs.Runs.{all_inside}
use Rattle.law.specs.Step.{Plan}
use Rattle.state.specs.State.{State}
use Rattle.state.specs.Sends.{Stepped}
use Rattle.state.specs.Shows.{Moment}
use Rattle.state.specs.Quiet.{next_event, at_tick, QuietSteps}
use Rattle.state.proofs.StepCarries.{granted_step}
use Rattle.switch.specs.Calls.{state_of, PassesQuiet}
use Rattle.replay.specs.Kinds.{Kind, KeepsNext}
use Rattle.replay.specs.Replay.{Replayed, run_tick, run_ticks}
use Rattle.replay.specs.Events.{left, events_of, departures_in, bytes_in, Event}
use Rattle.replay.proofs.Steps.{ticks_none, ticks_last}
use Rattle.player.specs.declared.player.Player.{Player}
use Rattle.player.specs.Plays.{Plays, AddsNoEvent}
use Rattle.player.proofs.Ticked.{is_ticked}

module _ {K : Type 0} (kind : Kind K) (told : K → ℕ → ℕ → K → Type 0) (only : KeepsNext told kind.next) (picks : (kept : K) → PicksTied (kind.answer kept))
    (M : ℕ) (st : State) (kept : K) where
  abbrev booked : Plan
  booked = plan_of st.plan

  -- at tick t the state is at the moment y, and since x nothing has happened
  record IsStillAt (x : Replayed K) (t : ℕ) (y : Replayed K) : Type 0 where
    moment : Moment M (at_tick t st) y.log y.switch
    rule : kept ≡ y.kept
    events : events_of y.log ≡ events_of x.log
    inside : all_inside booked y.switch ≡ all_inside booked x.switch

  still_tick : (x y : Replayed K) (t : ℕ) → IsStillAt x t y → t < LAST_TICK → Stepped kind.answer told (at_tick t st) kept (at_tick (t + 1) st) kept [] → IsStillAt x (t + 1) (run_tick booked kind y)
  still_tick x y t here early step =
      let n = st.plan.size.ports in
      let there = at_tick t st in
      let after = at_tick (t + 1) st in
      let law = granted_step kind.answer told picks M there kept after kept [] [] n 0 refl refl (step_grants n n t (omega arith) early) step in
      let ticked = is_ticked kind told only M there kept after kept y here.moment here.rule n 0 [] refl law in
      record {
        moment = ticked.moment;
        rule = ticked.rule;
        events = ap (λ (ds : List Departure). events_of y.log ++ map left ds) (sym ticked.left_is) ∙ append-nil (events_of y.log) ∙ here.events;
        inside = omega (arith, ticked.inside, here.inside);
      }

  module _ (x : Replayed K) (now : Moment M st x.log x.switch) (rule : kept ≡ x.kept) (k : ℕ) (steps : QuietSteps kind.answer told st kept k) (early : st.clock + k ≤ max st.clock LAST_TICK) where
    still_ticks : (m : ℕ) → m ≤ k → IsStillAt x (st.clock + m) (run_ticks booked kind m x)
    still_ticks zero l =
        let none : IsStillAt x st.clock x = record { moment = now; rule = rule; events = refl; inside = refl } in
        subst (λ t. IsStillAt x t (run_ticks booked kind 0 x)) (sym (add-zero st.clock)) (subst (IsStillAt x st.clock) (sym (ticks_none booked kind x)) none)
    still_ticks (suc m) l =
        let y = run_ticks booked kind m x in
        let before = still_ticks m (omega arith) in
        let next = still_tick x y (st.clock + m) before (omega arith) (steps m (omega arith)) in
        let at : st.clock + m + 1 ≡ st.clock + suc m = omega arith in
        let last : run_tick booked kind y ≡ run_ticks booked kind (suc m) x = sym (ticks_last booked kind m x) ∙ ap (λ n. run_ticks booked kind n x) (add-one m) in
        subst (λ t. IsStillAt x t (run_ticks booked kind (suc m) x)) at (subst (IsStillAt x (st.clock + m + 1)) last next)

module _ {S R : Type 0} (lists : S → ℕ → ℕ → List Packet) (size : S → ℕ) (kind : Kind R) (told : R → ℕ → ℕ → R → Type 0)
    (only : KeepsNext told kind.next) (picks : (kept : R) → PicksTied (kind.answer kept))
    {g : _} (p q : Player S R g) (limit k : ℕ) (s : PassesQuiet lists size kind.answer told p.running q.running limit k)
    (inside-is : q.inside ≡ p.inside) (bytes-is : q.bytes ≡ p.bytes) where
  abbrev PlaysQuiet : Plan → Replayed R → Type 0
  PlaysQuiet plan x = Plays lists size plan (run_ticks plan kind k x) q × AddsNoEvent plan kind x k × (x.switch.clock + k ≤ max x.switch.clock (min limit LAST_TICK))

  quiet_at_its_plan : (x : Replayed R) → Plays lists size (plan_of p.running.plan) x p → PlaysQuiet (plan_of p.running.plan) x
  quiet_at_its_plan x was =
      let plan : Plan = plan_of p.running.plan in
      let M = size p.running.store.store in
      let st = state_of lists p.running in
      let y = run_ticks plan kind k x in
      let clock = was.switch.moment.shows.clock_is in
      let still = still_ticks kind told only picks M st p.running.rule x was.switch.moment was.switch.rule k s.steps (omega (arith, s.still.bounded)) in
      let end = still k (omega arith) in
      let at : st.clock + k ≡ max st.clock (next_event st limit) = omega (arith, s.ticks) in
      let state_is : at_tick (st.clock + k) st ≡ state_of lists q.running = ap (λ t. at_tick t st) at ∙ sym s.state in (
        record {
          switch = record {
            plan_is = ap (λ (a : State). plan_of a.plan) s.state;
            moment = subst (λ (N : ℕ). Moment N (state_of lists q.running) y.log y.switch) (ap (λ store. size store.store) (sym s.beside.0)) (subst (λ (a : State). Moment M a y.log y.switch) state_is end.moment);
            rule = s.beside.1 ∙ end.rule;
          };
          inside = inside-is ∙ was.inside ∙ sym end.inside;
          bytes = bytes-is ∙ was.bytes ∙ ap (λ (es : List Event). bytes_in (departures_in es) % 2 ^ 64) (sym end.events);
        },
        record { events = λ m l. (still m l).events; inside = λ m l. (still m l).inside },
        omega (arith, s.still.bounded, clock),
      )

  pub plays_quiet : (plan : Plan) (x : Replayed R) → Plays lists size plan x p → PlaysQuiet plan x
  plays_quiet plan x plays = subst (λ (v : Plan). Plays lists size v x p → PlaysQuiet v x) plays.switch.plan_is (quiet_at_its_plan x) plays
