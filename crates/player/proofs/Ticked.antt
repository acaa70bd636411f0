-- A step that is granted, at a moment of a replay, is a tick of the replay: of a state, of a switch and of a player. Assumes nothing.
use Rattle.std.proofs.Common.{◌≡◌, ℕ, ◌+◌, ◌-◌, ◌%◌, ◌^◌, List, ◌∷◌, length, take, Ok, sym, ap, ◌∙◌, subst, arith}
use Rattle.std.proofs.lemmas.List.{length-take-le}
use Rattle.std.proofs.lemmas.List.Sums.{sum_by-append}
use Rattle.departure.specs.declared.Departure.{Departure}
use Rattle.store.specs.declared.packet.Packet.{Packet}
use Rattle.law.specs.Plans.{plan_of}
use Rattle.law.specs.Rules.{AsksInOrder, answers_in_order, crossing_choice, sending_choice}
use Rattle.law.specs.Runs.{Call, step, Answer, listed, leaves, all_inside}
use Rattle.law.specs.Step.{Plan, Switch}
use Rattle.state.specs.State.{State}
use Rattle.state.specs.Shows.{Moment, CarriesOn}
use Rattle.state.specs.Steps.{StepLeads}
use Rattle.state.proofs.ShownFlows.{plan_bookable}
use Rattle.state.proofs.StepKeeps.{step_plan}
use Rattle.switch.specs.Calls.{state_of, Steps}
use Rattle.replay.specs.Kinds.{Kind, KeepsNext, IsNext}
use Rattle.replay.specs.Replay.{Replayed, kept_at, run_tick}
use Rattle.replay.specs.Events.{left_in, bytes_in}
use Rattle.replay.proofs.Asked.{asking_is_replay}
use Rattle.replay.proofs.Logs.{left_more}
use Rattle.player.specs.declared.player.Player.{Player}
use Rattle.player.specs.Plays.{Plays, left_now}
use Rattle.player.proofs.Inside.{tick_inside}

module _ {K : Type 0} (kind : Kind K) (told : K → ℕ → ℕ → K → Type 0) (only : KeepsNext told kind.next) where
  -- a state, and what its rule keeps, at the moment after a tick
  pub record IsTicked (M : ℕ) (plan : Plan) (x : Replayed K) (after : State) (next : K) (left : List Departure) : Type 0 where
    pub moment : Moment M after (run_tick plan kind x).log (run_tick plan kind x).switch
    pub rule : next ≡ (run_tick plan kind x).kept
    pub left_is : left ≡ leaves plan (run_tick plan kind x).switch x.switch.clock (x.switch.clock + 1)
    pub inside : all_inside plan x.switch ≡ length left + all_inside plan (run_tick plan kind x).switch

  module _ (M : ℕ) (st : State) (kept : K) (after : State) (next : K) (x : Replayed K) (now : Moment M st x.log x.switch) (rule : kept ≡ x.kept) where
    pub is_ticked : (room count : ℕ) (new : List Departure) → room ≡ st.plan.size.ports →
        CarriesOn (StepLeads kind.answer told (plan_of st.plan) kept next (Ok count) new) M st after (step room) (listed (take count new)) →
        IsTicked M (plan_of st.plan) x after next (take count new)
    is_ticked room count new long law =
        let plan : Plan = plan_of st.plan in
        let carried = law x.log x.switch now in
        let leads = carried.1 in
        let order = subst (λ (k : K). AsksInOrder kind.answer told plan x.switch k leads.0) rule leads.1 in
        let replayed = asking_is_replay told plan kind only x leads.0 order in
        let y = run_tick plan kind x in
        let same : carried.0 ≡ y.switch = leads.3 ∙ replayed.1 in
        let left : take count new ≡ leaves plan y.switch x.switch.clock (x.switch.clock + 1) = leads.4 ∙ ap (λ (z : Switch). leaves plan z x.switch.clock (x.switch.clock + 1)) same in
        let log : List (Call × Answer) = (step room, listed (take count new)) ∷ x.log in
        let log_is : log ≡ y.log = λ k. (step (long k), listed (left k)) ∷ x.log in
        let answers = answers_in_order kind.answer (IsNext kind) (kept_at plan kind x.switch x.kept) in
        let fewer = tick_inside plan M (plan_bookable st.plan) x.log x.switch now.run (crossing_choice plan x.switch answers) (sending_choice plan x.switch answers) in
        record {
          moment = subst (λ (l : List (Call × Answer)). Moment M after l y.switch) log_is (subst (λ (z : Switch). Moment M after log z) same carried.2);
          rule = sym leads.2 ∙ replayed.0;
          left_is = left;
          inside = omega (arith, fewer, ap length left);
        }

module _ {S R : Type 0} (lists : S → ℕ → ℕ → List Packet) (size : S → ℕ) (kind : Kind R) (told : R → ℕ → ℕ → R → Type 0)
    (only : KeepsNext told kind.next) where
  -- a player after a step is at the moment after the tick
  module _ {g : _} (p q : Player S R g) (old new : List Departure) (long : length old ≡ p.running.plan.size.ports) where
    pub plays_on : (count : ℕ) → Steps lists size kind.answer told p.running q.running old new (Ok count) →
        take q.count q.list ≡ take count new → q.inside ≡ p.inside - count → q.bytes ≡ (p.bytes + bytes_in (take count new)) % 2 ^ 64 →
        (plan : Plan) (x : Replayed R) → Plays lists size plan x p →
        Plays lists size plan (run_tick plan kind x) q × (left_now q ≡ leaves plan (run_tick plan kind x).switch x.switch.clock (x.switch.clock + 1))
    plays_on count s listed-is inside-is bytes-is plan x plays =
        let P : Plan → Type 0 = λ (v : Plan). Plays lists size v x p → Plays lists size v (run_tick v kind x) q × (left_now q ≡ leaves v (run_tick v kind x).switch x.switch.clock (x.switch.clock + 1)) in
        subst P plays.switch.plan_is at_its_plan plays
      where
        at_its_plan : Plays lists size (plan_of p.running.plan) x p → Plays lists size (plan_of p.running.plan) (run_tick (plan_of p.running.plan) kind x) q × (left_now q ≡ leaves (plan_of p.running.plan) (run_tick (plan_of p.running.plan) kind x).switch x.switch.clock (x.switch.clock + 1))
        at_its_plan was =
            let plan : Plan = plan_of p.running.plan in
            let y = run_tick plan kind x in
            let st = state_of lists p.running in
            let after = state_of lists q.running in
            let t = is_ticked kind told only (size p.running.store.store) st p.running.rule after q.running.rule x was.switch.moment was.switch.rule (length old) count new long s.law in
            let now_left = leaves plan y.switch x.switch.clock (x.switch.clock + 1) in
            let counted = length-take-le count new (omega (arith, s.entries, s.few)) in
            let more = ap bytes_in (left_more (step plan.ports) (listed now_left) x.log) ∙ sum_by-append (λ (d : Departure). d.bytes) (left_in x.log) now_left in (
              record {
                switch = record {
                  plan_is = ap plan_of (step_plan kind.answer told st p.running.rule after q.running.rule old new (Ok count) s.exact);
                  moment = subst (λ (N : ℕ). Moment N after y.log y.switch) (sym s.stated_size) t.moment;
                  rule = t.rule;
                };
                inside = omega (arith, inside-is, was.inside, t.inside, counted);
                bytes = omega (arith, bytes-is, was.bytes, more, ap bytes_in t.left_is);
              },
              listed-is ∙ t.left_is,
            )
