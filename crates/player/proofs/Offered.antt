-- An arrival at a moment of a replay is what the replay makes of it. Assumes nothing.
use Rattle.std.proofs.Common.{◌≡◌, ℕ, ◌+◌, ◌%◌, ◌^◌, ◌<◌, Bool, true, false, cond, ◌⊎◌, List, [], ◌∷◌, ◌++◌, length, Some, None, Ok, Err, Option, Result, inl, inr, sym, refl, ap, ◌∙◌, subst, ⊎_elim, arith}
use Rattle.std.specs.Option.{option_or}
use Rattle.std.proofs.lemmas.List.{append-nil}
use Rattle.std.proofs.lemmas.Bool.{cond-true, cond-false, cases_Bool}
use Rattle.plan.specs.Numbers.{arrive_number}
use Rattle.plan.specs.Refusals.{arrive_refusal, unless}
use Rattle.plan.specs.declared.fault.ArriveFault.{ArriveFault}
use Rattle.plan.specs.declared.fault.ArriveFault.TheVariants.{Port, Length, Closed, Full}
use Rattle.plan.specs.Weights.{weight_of}
use Rattle.departure.specs.declared.Departure.{Departure}
use Rattle.grid.proofs.Sums.{flow_sum_le}
use Rattle.store.specs.declared.meaning.TheConstants.{MOST_STORED}
use Rattle.store.specs.declared.packet.Packet.{Packet}
use Rattle.law.specs.Plans.{plan_of}
use Rattle.law.specs.Rules.{Rule}
use Rattle.law.specs.Runs.{Call, arrive, Answer, granted, refused, arrived, all_inside}
use Rattle.law.specs.Step.{Plan, Switch}
use Rattle.law.proofs.LawfulArrivals.{lawful}
use Rattle.state.specs.State.{State}
use Rattle.state.specs.Arrives.{arrive_state}
use Rattle.state.specs.Shows.{Moment}
use Rattle.state.proofs.ShownFlows.{plan_bookable, length_listed, stored_inside}
use Rattle.switch.specs.Calls.{state_of, Arrives}
use Rattle.switch.specs.declared.running.Running.{Running}
use Rattle.replay.specs.Kinds.{Kind, Sign}
use Rattle.replay.specs.Replay.{Arrival, Replayed, offered}
use Rattle.replay.specs.Events.{left_in, bytes_in}
use Rattle.replay.proofs.Logs.{listed_by, left_more}
use Rattle.player.specs.Held.{Holds}
use Rattle.player.specs.declared.player.Player.{Player}
use Rattle.player.specs.Plays.{IsAt, Plays, Answers, kind_with}
use Rattle.player.proofs.Inside.{arrival_inside}

-- an answer tells the refusal
granted_none : (o p : Option ArriveFault) (u : Unit {0}) → Ok u ≡ unless {X = Unit {0}} (option_or o p) tt → o ≡ None
granted_none None p u e = refl
granted_none (Some f) p u e = absurd (cc)

refused_some : (o : Option ArriveFault) (room : Bool) (f : ArriveFault) → Err f ≡ unless {X = Unit {0}} (option_or o (cond room None (Some Full))) tt → (o ≡ Some f) ⊎ ((o ≡ None) × (f ≡ Full))
refused_some (Some g) room f e = inl (cc)
refused_some None true f e = absurd (cc)
refused_some None false f e = inr (refl, (cc))

-- the plan refuses nothing for a full store
never_full : (a b c : Bool) → cond a (cond b (Some Length) (cond c (Some Closed) None)) (Some Port) ≡ Some Full → ⊥
never_full true true c e = cc
never_full true false true e = cc
never_full true false false e = cc
never_full false b c e = cc

module _ {S R : Type 0} (lists : S → ℕ → ℕ → List Packet) (full : S → ℕ → ℕ → Bool) (size : S → ℕ) (kind : Kind R)
    (signs : (store : S) (plan : Plan) (s : Switch) → Holds (lists store) plan s → (i j : ℕ) → i < plan.ports → j < plan.ports → full store i j ≡ kind.sign plan s i j)
    {g : _} (before after : Running S R g) (i j b t : ℕ) (x : Replayed R) (at : IsAt lists size (plan_of before.plan) x before) where
  abbrev booked : Plan
  booked = plan_of before.plan

  abbrev a : Arrival
  a = record { tick = t; input = i; output = j; bytes = b }

  abbrev why : Option ArriveFault
  why = arrive_refusal booked.ports booked.longest booked.weight i j b

  holds : Holds (lists before.store.store) booked x.switch
  holds = record { few_ports = before.plan.size.few_ports; each = length_listed at.moment.shows; all = stored_inside at.moment.shows }

  sign_is : why ≡ None → full before.store.store i j ≡ kind.sign booked x.switch i j
  sign_is none = let law = lawful booked i j b none in signs before.store.store booked x.switch holds i j law.input_in law.output_in

  -- the plan of the switch stays
  kept_plan : (r : Result Unit ArriveFault) → state_of lists after ≡ arrive_state r (state_of lists before) i j b → plan_of after.plan ≡ booked
  kept_plan (Ok u) e = ap (λ (st : State). plan_of st.plan) e
  kept_plan (Err f) e = ap (λ (st : State). plan_of st.plan) e

  record IsAccepted : Type 0 where
    is_lawful : why ≡ None
    is_down : kind.sign booked x.switch i j ≡ false
    switch : IsAt lists size booked (offered booked kind a x) after
    inside : all_inside booked (offered booked kind a x).switch ≡ 1 + all_inside booked x.switch
    same_log : (offered booked kind a x).log ≡ (arrive i j b, granted) ∷ x.log

  is_accepted : (u : Unit {0}) → Arrives lists full size before after i j b (Ok u) → IsAccepted
  is_accepted u s =
      let M = size before.store.store in
      let none = granted_none why _ u s.answer in
      let law = lawful booked i j b none in
      let carried = s.law x.log x.switch at.moment in
      let down : full before.store.store i j ≡ false =
      ⊎_elim (λ (up : full before.store.store i j ≡ true). let ok_is_err = (carried.1.signed none).1 up in absurd (cc)) (λ (d : full before.store.store i j ≡ false). d) (cases_Bool (full before.store.store i j)) in
      let sign = sym (sign_is none) ∙ down in
      let y : Replayed R = record { switch = arrived x.switch i j b; kept = x.kept; log = (arrive i j b, granted) ∷ x.log } in
      let is : offered booked kind a x ≡ y = cond-false _ _ y sign in
      let here : IsAt lists size booked y after =
      record {
        plan_is = kept_plan (Ok u) s.state;
        moment = subst (λ (N : ℕ). Moment N (state_of lists after) y.log y.switch) (sym s.stated_size) (subst (λ (z : Switch). Moment M (state_of lists after) y.log z) carried.1.leads carried.2);
        rule = s.rule ∙ at.rule;
      } in
      record {
        is_lawful = none;
        is_down = sign;
        switch = subst (λ (z : Replayed R). IsAt lists size booked z after) (sym is) here;
        inside = ap (λ (z : Replayed R). all_inside booked z.switch) is ∙ arrival_inside booked M (plan_bookable before.plan) x.log x.switch at.moment.run b i j law.input_in law.output_in;
        same_log = ap (λ (z : Replayed R). z.log) is;
      }

  record IsTurnedAway : Type 0 where
    is_lawful : why ≡ None
    is_up : kind.sign booked x.switch i j ≡ true
    switch : IsAt lists size booked (offered booked kind a x) before
    same_switch : (offered booked kind a x).switch ≡ x.switch
    same_log : (offered booked kind a x).log ≡ (arrive i j b, refused (arrive_number Full)) ∷ x.log
    stays : after ≡ before

  is_turned_away : Arrives lists full size before after i j b (Err Full) → IsTurnedAway
  is_turned_away s =
      let M = size before.store.store in
      let none : why ≡ None = ⊎_elim (λ some. absurd (never_full _ _ _ some)) (λ both. both.0) (refused_some why _ Full s.answer) in
      let carried = s.law x.log x.switch at.moment in
      let sign = sym (sign_is none) ∙ (carried.1.signed none).0 refl in
      let y : Replayed R = record { switch = x.switch; kept = x.kept; log = (arrive i j b, refused (arrive_number Full)) ∷ x.log } in
      let is : offered booked kind a x ≡ y = cond-true _ y _ sign in
      let here : IsAt lists size booked y before =
      record {
        plan_is = refl;
        moment = subst (λ (z : Running S R g). Moment M (state_of lists z) y.log y.switch) s.refused (subst (λ (z : Switch). Moment M (state_of lists after) y.log z) carried.1.leads carried.2);
        rule = at.rule;
      } in
      record {
        is_lawful = none;
        is_up = sign;
        switch = subst (λ (z : Replayed R). IsAt lists size booked z before) (sym is) here;
        same_switch = ap (λ (z : Replayed R). z.switch) is;
        same_log = ap (λ (z : Replayed R). z.log) is;
        stays = s.refused;
      }

  -- any other refusal is the booked's
  is_unlawful : (f : ArriveFault) → (f ≡ Full → ⊥) → Arrives lists full size before after i j b (Err f) → (why ≡ Some f) × (after ≡ before)
  is_unlawful f other s = (⊎_elim (λ some. some) (λ both. absurd (other both.1)) (refused_some why _ f s.answer), s.refused)

module _ {S R : Type 0} (lists : S → ℕ → ℕ → List Packet) (full : S → ℕ → ℕ → Bool) (size : S → ℕ) (kind : Kind R)
    (signs : (store : S) (plan : Plan) (s : Switch) → Holds (lists store) plan s → (i j : ℕ) → i < plan.ports → j < plan.ports → full store i j ≡ kind.sign plan s i j)
    {g : _} (p q : Player S R g) (i j b t : ℕ) where
  abbrev came : Arrival
  came = record { tick = t; input = i; output = j; bytes = b }

  -- an arrival leaves nothing
  none_left : (answer : Answer) → listed_by answer ≡ [] → (log : List (Call × Answer)) → left_in ((arrive i j b, answer) ∷ log) ≡ left_in log
  none_left answer none log = left_more (arrive i j b) answer log ∙ ap (λ (ds : List Departure). left_in log ++ ds) none ∙ append-nil (left_in log)

  -- there are few packets
  few_inside : (x : Replayed R) → IsAt lists size (plan_of p.running.plan) x p.running → all_inside (plan_of p.running.plan) x.switch + 1 < 2 ^ 64
  few_inside x at =
      let st = state_of lists p.running in
      let shows = at.moment.shows in
      omega (arith, flow_sum_le (λ a c. length (st.lists a c)) MOST_STORED shows.few, stored_inside shows)

  module _ (u : Unit {0}) (s : Arrives lists full size p.running q.running i j b (Ok u)) (inside-is : q.inside ≡ (p.inside + 1) % 2 ^ 64) (bytes-is : q.bytes ≡ p.bytes) where
    abbrev Accepts : Plan → Replayed R → Type 0
    Accepts plan x = (arrive_refusal plan.ports plan.longest plan.weight i j b ≡ None) × (kind.sign plan x.switch i j ≡ false) × Plays lists size plan (offered plan kind came x) q

    accepts_at_its_plan : (x : Replayed R) → Plays lists size (plan_of p.running.plan) x p → Accepts (plan_of p.running.plan) x
    accepts_at_its_plan x was =
        let y = is_accepted lists full size kind signs p.running q.running i j b t x was.switch u s in
        let same = ap (λ (l : List (Call × Answer)). bytes_in (left_in l) % 2 ^ 64) y.same_log ∙ ap (λ (ds : List Departure). bytes_in ds % 2 ^ 64) (none_left granted refl x.log) in (
          y.is_lawful,
          y.is_down,
          record { switch = y.switch; inside = omega (arith, inside-is, was.inside, y.inside, few_inside x was.switch); bytes = bytes-is ∙ was.bytes ∙ sym same },
        )

    pub plays_accepted : (plan : Plan) (x : Replayed R) → Plays lists size plan x p → Accepts plan x
    plays_accepted plan x plays = subst (λ (v : Plan). Plays lists size v x p → Accepts v x) plays.switch.plan_is (accepts_at_its_plan x) plays

  module _ (inside-is : q.inside ≡ p.inside) (bytes-is : q.bytes ≡ p.bytes) where
    -- a switch that stays as it is
    stays : (plan : Plan) (x : Replayed R) → q.running ≡ p.running → Plays lists size plan x p → Plays lists size plan x q
    stays plan x same was =
        record { switch = subst (IsAt lists size plan x) (sym same) was.switch; inside = inside-is ∙ was.inside; bytes = bytes-is ∙ was.bytes }

    turned_at_its_plan : (x : Replayed R) → Arrives lists full size p.running q.running i j b (Err Full) → Plays lists size (plan_of p.running.plan) x p →
        (arrive_refusal p.running.plan.size.ports p.running.plan.size.longest (weight_of p.running.plan) i j b ≡ None) × (kind.sign (plan_of p.running.plan) x.switch i j ≡ true) × Plays lists size (plan_of p.running.plan) (offered (plan_of p.running.plan) kind came x) q
    turned_at_its_plan x s was =
        let plan : Plan = plan_of p.running.plan in
        let y = is_turned_away lists full size kind signs p.running q.running i j b t x was.switch s in
        let same = ap (λ (l : List (Call × Answer)). bytes_in (left_in l) % 2 ^ 64) y.same_log ∙ ap (λ (ds : List Departure). bytes_in ds % 2 ^ 64) (none_left (refused (arrive_number Full)) refl x.log) in (
          y.is_lawful,
          y.is_up,
          stays plan (offered plan kind came x) y.stays
              record { switch = y.switch; inside = was.inside ∙ ap (λ (z : Switch). all_inside plan z) (sym y.same_switch); bytes = was.bytes ∙ sym same },
        )

    unlawful_at_its_plan : (x : Replayed R) (f : ArriveFault) → (f ≡ Full → ⊥) → Arrives lists full size p.running q.running i j b (Err f) → Plays lists size (plan_of p.running.plan) x p →
        (arrive_refusal p.running.plan.size.ports p.running.plan.size.longest (weight_of p.running.plan) i j b ≡ Some f) × Plays lists size (plan_of p.running.plan) x q
    unlawful_at_its_plan x f other s was =
        let y = is_unlawful lists full size kind signs p.running q.running i j b t x was.switch f other s in
        (y.0, stays (plan_of p.running.plan) x y.1 was)

module _ {S R : Type 0} (lists : S → ℕ → ℕ → List Packet) (full : S → ℕ → ℕ → Bool) (size : S → ℕ) (sign : Sign) (answer : R → Rule) (next : R → ℕ → ℕ → R) (first : R)
    (signs : (store : S) (plan : Plan) (s : Switch) → Holds (lists store) plan s → (i j : ℕ) → i < plan.ports → j < plan.ports → full store i j ≡ sign plan s i j)
    {g : _} (p q : Player S R g) (i j b t : ℕ) (inside-is : q.inside ≡ p.inside) (bytes-is : q.bytes ≡ p.bytes) where
  -- what a refusal tells, at the plan of the switch
  abbrev Tells : ArriveFault → Plan → Replayed R → Type 0
  Tells f v x = Plays lists size v x p → Answers lists size sign answer next v first x q record { tick = t; input = i; output = j; bytes = b } (Err f)

  told : (f : ArriveFault) → Arrives lists full size p.running q.running i j b (Err f) → (x : Replayed R) → Tells f (plan_of p.running.plan) x
  told Full s x was = turned_at_its_plan lists full size (kind_with sign answer next first) signs p q i j b t inside-is bytes-is x s was
  told Port s x was = unlawful_at_its_plan lists full size (kind_with sign answer next first) signs p q i j b t inside-is bytes-is x Port (λ e. cc) s was
  told Length s x was = unlawful_at_its_plan lists full size (kind_with sign answer next first) signs p q i j b t inside-is bytes-is x Length (λ e. cc) s was
  told Closed s x was = unlawful_at_its_plan lists full size (kind_with sign answer next first) signs p q i j b t inside-is bytes-is x Closed (λ e. cc) s was

  pub plays_refused : (f : ArriveFault) → Arrives lists full size p.running q.running i j b (Err f) → (plan : Plan) (x : Replayed R) → Tells f plan x
  plays_refused f s plan x plays = subst (λ v. Tells f v x) plays.switch.plan_is (told f s x) plays
