-- An arrival carries every run on: the law accepts it or refuses it by the same number, and the state after it stands for the switch after.
use Rattle.std.proofs.Common.{◌≡◌, ℕ, ◌+◌, ◌%◌, ◌^◌, ◌<◌, ◌≤◌, Bool, true, false, cond, not, ◌&&◌, eqb, ltb, List, [], ◌∷◌, ◌++◌, length, get_or, Some, None, Ok, Err, Option, Result, sym, refl, ap, ◌∙◌, subst, ⊎_elim, arith}
use Rattle.std.specs.Option.{option_or}
use Rattle.std.proofs.lemmas.List.{append-nil, length_push, get_or_append_left}
use Rattle.std.proofs.lemmas.Bool.{lt-ltb, eq-eqb, ne_eqb, cases_eq, cases_lt, and_parts, and_right, not-false, not-true, true≢false}
use Rattle.plan.specs.Numbers.{arrive_number}
use Rattle.plan.specs.Refusals.{arrive_refusal, unless}
use Rattle.plan.specs.Weights.{weight_of, has_flow}
use Rattle.plan.specs.declared.fault.ArriveFault.{ArriveFault}
use Rattle.plan.specs.declared.fault.ArriveFault.TheVariants.{Full}
use Rattle.grid.specs.Flows.{in_grid}
use Rattle.grid.proofs.Sums as sums
use Rattle.store.specs.declared.meaning.TheConstants.{MOST_STORED}
use Rattle.store.specs.Stored.{stored, numbered}
use Rattle.timing.specs.Fluid.{Accepted}
use Rattle.departure.specs.declared.Departure.{Departure}
use Rattle.law.specs.Journeys.{departed, ended}
use Rattle.law.specs.Plans.{plan_of}
use Rattle.law.specs.Runs.{Call, arrive, Answer, granted, refused, accepts, is_full, is_unlawful, arrived, all_inside, departure, no_packet}
use Rattle.law.specs.Step.{Switch}
use Rattle.law.proofs.EndedPackets.{ended_more_packets}
use Rattle.law.proofs.LawfulArrivals.{lawful}
use Rattle.law.proofs.LogOfFlow.{departure_grown}
use Rattle.state.specs.State.{State}
use Rattle.state.specs.Lines.{until_of, loaded_with, from_input, Line}
use Rattle.state.specs.Stamping.{stampable, incoming}
use Rattle.state.specs.Arrives.{arrive_answer, arrive_state, accepted_state, accepting, ArriveLeads}
use Rattle.state.specs.Shows.{IsOnLine, Loaded, FlowShows, Shows, Moment, CarriesOn, arrive_told}
use Rattle.state.proofs.FlowTakesPacket.{flow_accepts}
use Rattle.state.proofs.ShownFlows.{plan_has, stored_inside, keeps, starts_in_order, stamps_there}

-- the cases of an arrival
data Judged (un : Option ArriveFault) (room : Bool) : Result Unit ArriveFault → Type 0 where
  stopped : (e : ArriveFault) → un ≡ Some e → Judged un room (Err e)
  let_in : un ≡ None → room ≡ true → Judged un room (Ok tt)
  shut_out : un ≡ None → room ≡ false → Judged un room (Err Full)

judged : (un : Option ArriveFault) (room : Bool) → Judged un room (unless (option_or un (cond room None (Some Full))) tt)
judged (Some e) room = stopped e refl
judged None true = let_in refl refl
judged None false = shut_out refl refl

module _ {M : ℕ} {st : State} {log : List (Call × Answer)} {s : Switch} (now : Moment M st log s) (i j : ℕ) (hi : i < st.plan.size.ports) (hj : j < st.plan.size.ports) (b : ℕ) where
  -- flow (a, c) after the packet, if it is its own
  abbrev After : Bool → ℕ → ℕ → Type 0
  After mine a c =
      FlowShows st.plan.size.parts (weight_of st.plan a c) s.clock
      record { accepted = (s.flow a c).accepted ++ cond mine (record { arrival = s.clock; bytes = b } ∷ []) []; crossings = (s.flow a c).crossings; sendings = (s.flow a c).sendings }
      (s.peak a c)
      (cond mine (st.lists i j ++ numbered (st.counts i j) (incoming (st.ledgers i j).last (weight_of st.plan i j) st.clock b st.plan.size.parts) ∷ []) (st.lists a c))
      (cond mine ((st.counts i j + 1) % 2 ^ 64) (st.counts a c))
      (cond mine (accepting (st.ledgers i j) (weight_of st.plan i j) st.clock b st.plan.size.parts) (st.ledgers a c))

  long : (a c : ℕ) → a < st.plan.size.ports → c < st.plan.size.ports → (length (s.flow a c).sendings ≤ length (s.flow a c).accepted) × (length (s.flow a c).crossings ≤ length (s.flow a c).accepted)
  long a c ha hc = let order = starts_in_order now a c ha hc in (omega (arith, order.0, order.1), order.1)

  mine_after : After true i j
  mine_after =
      let l = st.ledgers i j in
      let w = weight_of st.plan i j in
      let lengths = long i j hi hj in
      let new = flow_accepts st.plan.size.parts w s.clock b (s.flow i j) (s.peak i j) (st.lists i j) (st.counts i j) l lengths.0 lengths.1 (now.shows.flows i j) in
      subst (λ t. FlowShows st.plan.size.parts w s.clock record { accepted = (s.flow i j).accepted ++ record { arrival = s.clock; bytes = b } ∷ []; crossings = (s.flow i j).crossings; sendings = (s.flow i j).sendings } (s.peak i j)
      (st.lists i j ++ numbered (st.counts i j) (incoming l.last w t b st.plan.size.parts) ∷ []) ((st.counts i j + 1) % 2 ^ 64) (accepting l w t b st.plan.size.parts)) (sym now.shows.clock_is) new

  other_after : (a c : ℕ) → After false a c
  other_after a c =
      subst (λ (ps : List Accepted). FlowShows st.plan.size.parts (weight_of st.plan a c) s.clock record { accepted = ps; crossings = (s.flow a c).crossings; sendings = (s.flow a c).sendings } (s.peak a c) (st.lists a c) (st.counts a c) (st.ledgers a c))
      (sym (append-nil (s.flow a c).accepted)) (now.shows.flows a c)

  -- by cases: the packet's own flow, or another
  by_flow : (P : Bool → ℕ → ℕ → Type 0) → P true i j → ((a c : ℕ) → P false a c) → (a c : ℕ) → P (eqb a i && eqb c j) a c
  by_flow P this that a c =
      ⊎_elim
      (λ (e : a ≡ i).
      ⊎_elim
      (λ (g : c ≡ j).
      let t : (eqb a i && eqb c j) ≡ true = rw (eq-eqb a i e, eq-eqb c j g) in
      subst (λ v. P v a c) (sym t) (subst (λ x. P true x c) (sym e) (subst (λ y. P true i y) (sym g) this)))
      (λ (g : c ≡ j → ⊥). subst (λ v. P v a c) (sym (and_right (eqb a i) (eqb c j) (ne_eqb c j g))) (that a c))
      (cases_eq c j))
      (λ (e : a ≡ i → ⊥).
      let t : (eqb a i && eqb c j) ≡ false = rw (ne_eqb a i e) in
      subst (λ v. P v a c) (sym t) (that a c))
      (cases_eq a i)

  ended_after : (mine : Bool) (a c : ℕ) (us : List ℕ) → length us ≤ length (s.flow a c).accepted →
      ended s.clock ((s.flow a c).accepted ++ cond mine (record { arrival = s.clock; bytes = b } ∷ []) []) us ≡ ended s.clock (s.flow a c).accepted us
  ended_after true a c us l = ended_more_packets s.clock (s.flow a c).accepted us record { arrival = s.clock; bytes = b } l
  ended_after false a c us l = ap (λ (ps : List Accepted). ended s.clock ps us) (append-nil (s.flow a c).accepted)

  on_line_after : (mine : Bool) (a c : ℕ) (us : List ℕ) (m : Bool) (until : ℕ) → length us ≤ length (s.flow a c).accepted → IsOnLine s.clock (s.flow a c).accepted us m until →
      IsOnLine s.clock ((s.flow a c).accepted ++ cond mine (record { arrival = s.clock; bytes = b } ∷ []) []) us m until
  on_line_after mine a c us m until l o =
      let ps = (s.flow a c).accepted in
      let same = ended_after mine a c us l in
      record {
        count = o.count ∙ ap (λ n. n + cond (m && ltb s.clock until) 1 0) (sym same);
        ends = λ e.
            let one : length us ≡ ended s.clock ps us + 1 = o.count ∙ ap (λ v. ended s.clock ps us + cond v 1 0) e in
            (λ k. get_or us (same k) 0 + (get_or (ps ++ cond mine (record { arrival = s.clock; bytes = b } ∷ []) []) (same k) no_packet).bytes)
            ∙ ap (λ (p : Accepted). get_or us (ended s.clock ps us) 0 + p.bytes) (get_or_append_left ps _ no_packet (ended s.clock ps us) (omega (arith, one, l))) ∙ o.ends e;
      }

  departure_after : (mine : Bool) (a c k : ℕ) → k < length (s.flow a c).accepted →
      departure (plan_of st.plan) a c (s.flow a c) k
      ≡ departure (plan_of st.plan) a c record { accepted = (s.flow a c).accepted ++ cond mine (record { arrival = s.clock; bytes = b } ∷ []) []; crossings = (s.flow a c).crossings; sendings = (s.flow a c).sendings } k
  departure_after true a c k l = departure_grown (plan_of st.plan) a c (s.flow a c) record { arrival = s.clock; bytes = b } k l
  departure_after false a c k l =
      ap (λ (ps : List Accepted). departure (plan_of st.plan) a c record { accepted = ps; crossings = (s.flow a c).crossings; sendings = (s.flow a c).sendings } k) (sym (append-nil (s.flow a c).accepted))

  loads_after : (c : ℕ) → c < st.plan.size.ports → (line : Line Departure) →
      ((a : ℕ) → a < st.plan.size.ports → IsOnLine s.clock (s.flow a c).accepted (s.flow a c).sendings (loaded_with from_input a line) (until_of line)) →
      Loaded (plan_of st.plan) s.clock (λ a. s.flow a c) c line → Loaded (plan_of st.plan) s.clock (λ a. (arrived s i j b).flow a c) c line
  loads_after c hc None o l = tt
  loads_after c hc (Some held) o l = λ before.
      let old = l before in
      let a = held.load.input in
      let few = (long a c old.0 hc).0 in
      let here = o a old.0 in
      let k = departed s.clock (s.flow a c) in
      let on : (eqb a a && ltb s.clock held.until) ≡ true = rw (eq-eqb a a refl, lt-ltb s.clock held.until before) in
      let one : length (s.flow a c).sendings ≡ k + 1 = here.count ∙ ap (λ v. k + cond v 1 0) on in
      (old.0, old.1 ∙ departure_after (eqb a i && eqb c j) a c k (omega (arith, one, few)) ∙ ap (departure (plan_of st.plan) a c ((arrived s i j b).flow a c)) (sym (ended_after (eqb a i && eqb c j) a c (s.flow a c).sendings few)))

  shows_arrived : stored st.lists < MOST_STORED → Shows (accepted_state st i j b) (arrived s i j b)
  shows_arrived room =
      let h = now.shows in
      record {
        clock_is = h.clock_is;
        early = h.early;
        flows = by_flow After mine_after other_after;
        outside = λ a c out.
            by_flow (λ v x y. has_flow st.plan x y ≡ false → (s.flow x y).accepted ++ cond v (record { arrival = s.clock; bytes = b } ∷ []) [] ≡ [])
            (λ o. absurd (true≢false (sym (plan_has st.plan i j hi hj) ∙ o)))
            (λ x y o. append-nil (s.flow x y).accepted ∙ h.outside x y o) a c out;
        few =
            by_flow (λ v x y. length (cond v (st.lists i j ++ numbered (st.counts i j) (incoming (st.ledgers i j).last (weight_of st.plan i j) st.clock b st.plan.size.parts) ∷ []) (st.lists x y)) ≤ MOST_STORED)
            (let few16 : st.plan.size.ports ≤ 16 = st.plan.size.few_ports in
            omega (
              arith,
              length_push (st.lists i j) (numbered (st.counts i j) (incoming (st.ledgers i j).last (weight_of st.plan i j) st.clock b st.plan.size.parts)),
              sums.flow_sum_at_least (λ x y. length (st.lists x y)) i j (omega (arith, hi, few16)) (omega (arith, hj, few16)),
              room,
            ))
            (λ x y. h.few x y);
        inputs = h.inputs;
        outputs = h.outputs;
        across_now = λ a c ha hc. on_line_after (eqb a i && eqb c j) a c (s.flow a c).crossings _ _ (long a c ha hc).1 (h.across_now a c ha hc);
        out_now = λ a c ha hc. on_line_after (eqb a i && eqb c j) a c (s.flow a c).sendings _ _ (long a c ha hc).0 (h.out_now a c ha hc);
        loads = λ c hc. loads_after c hc (st.sending c) (λ a ha. h.out_now a c ha hc) (h.loads c hc);
      }

second_false : (a v : Bool) → a ≡ true → (a && not v) ≡ false → v ≡ true
second_false true v h e = not-false v e
second_false false v h e = absurd (true≢false (sym h))

-- over a store that means what it must: with fewer packets than its stated size M the flow's sign is down, and it is up with as many as any store holds
module _ (M : ℕ) (full : ℕ → ℕ → Bool) (st : State) (i j b : ℕ) (room : stored st.lists < M → in_grid i j ≡ true → full i j ≡ false) (no-room : MOST_STORED ≤ stored st.lists → full i j ≡ true) where
  why : Option ArriveFault
  why = arrive_refusal st.plan.size.ports st.plan.size.longest (weight_of st.plan) i j b

  taken : Bool
  taken = stampable (st.ledgers i j).last (weight_of st.plan i j) st.clock b st.plan.size.parts && not (full i j)

  Leads : Result Unit ArriveFault → Switch → Switch → Type 0
  Leads r = ArriveLeads M (full i j) (plan_of st.plan) i j b r

  many_stored : i < st.plan.size.ports → j < st.plan.size.ports → full i j ≡ true → M ≤ stored st.lists
  many_stored hi hj up =
      let few : st.plan.size.ports ≤ 16 = st.plan.size.few_ports in
      let within : in_grid i j ≡ true = rw (lt-ltb i 16 (omega (arith, hi, few)), lt-ltb j 16 (omega (arith, hj, few))) in
      ⊎_elim (λ (l : stored st.lists < M). absurd (true≢false (sym up ∙ room l within))) (λ (m : M ≤ stored st.lists). m) (cases_lt (stored st.lists) M)

  few_stored : full i j ≡ false → stored st.lists < MOST_STORED
  few_stored down =
      ⊎_elim (λ (l : stored st.lists < MOST_STORED). l) (λ (m : MOST_STORED ≤ stored st.lists). absurd (true≢false (sym (no-room m) ∙ down))) (cases_lt (stored st.lists) MOST_STORED)

  by_judged : (r : Result Unit ArriveFault) → Judged why taken r → CarriesOn (Leads r) M st (arrive_state r st i j b) (arrive i j b) (arrive_told r)
  unfolding why taken Leads
  by_judged (Err e) (stopped e₁ is) = λ log s m.
      let m' : Moment M st ((arrive i j b, refused (arrive_number e)) ∷ log) s = record { run = is_unlawful i j b e m.run is; shows = m.shows } in
      (s, record { leads = refl; signed = λ none. absurd (cc (is, none)); filled = λ none. absurd (cc (is, none)) }, m', keeps m')
  by_judged (Ok x) (let_in is room-left) = λ log s m.
      let good = lawful (plan_of st.plan) i j b is in
      let down = not-true (full i j) (and_parts _ _ room-left).1 in
      let few = few_stored down in
      let m' : Moment M (accepted_state st i j b) ((arrive i j b, granted) ∷ log) (arrived s i j b) = record {
        run = accepts i j b m.run is (omega (arith, stored_inside m.shows, few));
        shows = shows_arrived m i j good.input_in good.output_in b few;
      } in (
        arrived s i j b,
        record {
          leads = refl;
          signed = λ _. ((λ (e : Ok x ≡ Err Full). absurd (cc)), (λ up. absurd (true≢false (sym up ∙ down))));
          filled = λ _ up. absurd (true≢false (sym up ∙ down));
        },
        m',
        keeps m',
      )
  by_judged (Err e) (shut_out is no-room-left) = λ log s m.
      let good = lawful (plan_of st.plan) i j b is in
      let up = second_false _ (full i j) (stamps_there m i j good.input_in good.output_in b good.is_open good.not_long) no-room-left in
      let many : M ≤ all_inside (plan_of st.plan) s = omega (arith, stored_inside m.shows, many_stored good.input_in good.output_in up) in
      let m' : Moment M st ((arrive i j b, refused (arrive_number Full)) ∷ log) s = record { run = is_full i j b m.run is many; shows = m.shows } in
      (s, record { leads = refl; signed = λ _. ((λ _. up), (λ _. refl)); filled = λ _ _. many }, m', keeps m')

  pub arrive_carries : (r : Result Unit ArriveFault) → r ≡ arrive_answer full st i j b →
      CarriesOn (ArriveLeads M (full i j) (plan_of st.plan) i j b r) M st (arrive_state r st i j b) (arrive i j b) (arrive_told r)
  unfolding why taken Leads
  arrive_carries r e =
      subst (λ (x : Result Unit ArriveFault). CarriesOn (ArriveLeads M (full i j) (plan_of st.plan) i j b x) M st (arrive_state x st i j b) (arrive i j b) (arrive_told x)) (sym e)
      (by_judged (arrive_answer full st i j b) (judged why taken))
