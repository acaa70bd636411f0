-- The state after a step stands for the switch of the law a tick later, and the step lists the law's departures of that tick.
use Rattle.std.proofs.Common.{◌≡◌, ℕ, ◌+◌, ◌-◌, ◌<◌, ◌≤◌, max, false, cond, List, [], ◌∷◌, map, length, get_or, drop, Some, None, Option, sym, refl, ap, ◌∙◌, subst, ⊎_elim, add-zero, arith}
use Rattle.std.specs.List.{slice_get, range_with_len, flat_map}
use Rattle.std.proofs.lemmas.List.{length-drop}
use Rattle.std.proofs.lemmas.Bool.{cases_lt, cases_eq, eq-eqb, ne_eqb}
use Rattle.timing.specs.Fluid.{Accepted}
use Rattle.plan.specs.Weights.{weight_of, has_flow}
use Rattle.plan.specs.declared.fault.TheConstants.{LAST_TICK}
use Rattle.store.specs.declared.meaning.TheConstants.{MOST_STORED}
use Rattle.store.specs.declared.packet.Packet.{Packet}
use Rattle.departure.specs.declared.Departure.{Departure}
use Rattle.law.specs.Journeys.{Journeys, ended, departed, held}
use Rattle.law.specs.Plans.{plan_of}
use Rattle.law.specs.Runs.{Call, Answer, Run, no_packet, departure, flow_leaves, leaves}
use Rattle.law.specs.Step.{Plan, Switch, started_flow, after_tick}
use Rattle.law.proofs.DeparturesOfFlow.{joined_one}
use Rattle.law.proofs.EndedPackets.{ended_later}
use Rattle.law.proofs.PromisesKept.{moment}
use Rattle.state.specs.declared.line.Ledger.{Ledger}
use Rattle.state.specs.State.{State}
use Rattle.state.specs.Lines.{until_of, loaded_with, to_output, from_input, Line}
use Rattle.state.specs.Finishes.{ends_at, leaving, departing, listed_with, listed_to}
use Rattle.state.specs.Sends.{ticked}
use Rattle.state.specs.Shows.{packets, IsOnLine, Loaded, FlowShows, Shows, Moment}
use Rattle.state.proofs.AfterInputStarts.{mid_line, mid_until, same_cells}
use Rattle.state.proofs.AfterOutputStarts.{AllStart, input_starts, sent_clock, ended_same, flow_out, line_on, line_load, line_until}
use Rattle.state.proofs.FinishByFlow.{Cell, cell, left_cell, Finish}
use Rattle.state.proofs.FlowOnLine.{line_ticks}
use Rattle.state.proofs.FlowOverTick.{flow_stays, oldest_leaves}
use Rattle.state.proofs.FlowTakesPacket.{packets_length}
use Rattle.state.proofs.ListedByOutput.{listed_joined}
use Rattle.state.proofs.Lists.{nth_drop, joined_same, joined_none}
use Rattle.state.proofs.OutputLineOverTick.{left_line, Outcome, stays, goes, AtLine, outcome, on_after, load_after, until_after}
use Rattle.state.proofs.ShownFlows.{plan_bookable, not_row, not_column, length_listed}
use Rattle.state.proofs.StartedPacket.{nth_there, packet_is}

-- a flow of another input, and the one whose packet leaves
cell_kept : (o : Option Departure) (i : ℕ) (c : Cell) → ((d : Departure) → o ≡ Some d → i ≡ d.input → ⊥) → ((left_cell o i c).list ≡ c.list) × ((left_cell o i c).ledger ≡ c.ledger)
cell_kept None i c ne = (refl, refl)
cell_kept (Some d) i c ne =
    let off = ne_eqb i d.input (ne d refl) in
    (ap (λ v. cond v (drop 1 c.list) c.list) off, ap (λ v. cond v (departing d.bytes c.ledger) c.ledger) off)

cell_left : (d : Departure) (i : ℕ) (c : Cell) → i ≡ d.input → ((left_cell (Some d) i c).list ≡ drop 1 c.list) × ((left_cell (Some d) i c).ledger ≡ departing d.bytes c.ledger)
cell_left d i c e =
    let on = eq-eqb i d.input e in
    (ap (λ v. cond v (drop 1 c.list) c.list) on, ap (λ v. cond v (departing d.bytes c.ledger) c.ledger) on)

cell_line : (o : Option Departure) (i : ℕ) (c : Cell) → (left_cell o i c).line ≡ left_line o c.line
cell_line None i c = refl
cell_line (Some d) i c = refl

-- a flow without packets
ended_empty : (t : ℕ) (ps : List Accepted) (vs : List ℕ) → ps ≡ [] → ended t ps vs ≡ 0
unfolding ended
ended_empty t ps vs e = ap (λ (qs : List Accepted). ended t qs vs) e

-- the oldest packet of a flow of which one more has departed
left_packet : {W w t : ℕ} {f : Journeys} {peak : ℕ} {list : List Packet} {count : ℕ} {l : Ledger} → FlowShows W w t f peak list count l → departed t f < length f.accepted →
    (p : Packet) × (slice_get list 0 ≡ Some p) × (p.bytes ≡ (get_or f.accepted (departed t f) no_packet).bytes)
left_packet {W} {w} {t} {f} h some =
    let d = departed t f in
    let P = packets W w 0 0 f.accepted f.crossings in
    let p = nth_there P d (omega (arith, packets_length W w f.accepted 0 0 f.crossings, some)) in
    (p.0, ap (λ (xs : List Packet). slice_get xs 0) h.listed ∙ nth_drop P d 0 ∙ ap (slice_get P) (add-zero d) ∙ p.1, (packet_is W w 0 0 f.accepted f.crossings d p.0 p.1).bytes_is)

-- what the law lets leave of one flow
pub none_leaves : (plan : Plan) (t i j : ℕ) (f : Journeys) → departed (t + 1) f ≡ departed t f → flow_leaves plan t (t + 1) i j f ≡ []
none_leaves plan t i j f e =
    let z : departed (t + 1) f - departed t f ≡ 0 = omega (arith, e) in
    ap (λ n. map (departure plan i j f) (range_with_len (departed t f) n)) z

one_leaves : (plan : Plan) (t i j : ℕ) (f : Journeys) → departed (t + 1) f ≡ departed t f + 1 → flow_leaves plan t (t + 1) i j f ≡ departure plan i j f (departed t f) ∷ []
one_leaves plan t i j f e =
    let z : departed (t + 1) f - departed t f ≡ 1 = omega (arith, e) in
    ap (λ n. map (departure plan i j f) (range_with_len (departed t f) n)) z

module _ {M : ℕ} {st : State} {log log' : List (Call × Answer)} {s : Switch} (now : Moment M st log s) {cross send : ℕ → Option ℕ} {mid sent : State} (all : AllStart st s cross send mid sent)
    (later : Run (plan_of st.plan) M log' (after_tick (plan_of st.plan) s cross send)) {fin : State} (finish : Finish st.plan.size.ports (ticked sent) fin) where
  abbrev flow : ℕ → ℕ → Journeys
  flow i j = started_flow (plan_of st.plan) s cross send i j

  order : (i j : ℕ) → i < st.plan.size.ports → j < st.plan.size.ports → (length (flow i j).sendings ≤ length (flow i j).crossings) × (length (flow i j).crossings ≤ length (flow i j).accepted)
  order i j hi hj = let t = (moment (plan_of st.plan) M (plan_bookable st.plan) later).told i j hi hj in (t.out_after_across, t.across_after_in)

  at_line : (j : ℕ) → j < st.plan.size.ports → AtLine (plan_of st.plan) s.clock j (λ i. flow i j) (sent.sending j)
  at_line j hj =
      record {
        on = λ i hi. line_on now all i j hi hj;
        load = line_load now all j hj;
        long = λ i hi. let o = order i j hi hj in omega (arith, o.0, o.1);
        few = st.plan.size.few_ports;
      }

  leaving_is : (j : ℕ) → leaving (ticked sent) j ≡ ends_at (s.clock + 1) (sent.sending j)
  leaving_is j = ap (λ n. ends_at (n + 1) (sent.sending j)) (sent_clock now all)

  fate : (j : ℕ) → j < st.plan.size.ports → Outcome (plan_of st.plan) s.clock j (λ i. flow i j) (ends_at (s.clock + 1) (sent.sending j))
  fate j hj = outcome (plan_of st.plan) s.clock j (λ i. flow i j) (sent.sending j) (at_line j hj)

  cell_is : (i j : ℕ) → j < st.plan.size.ports → cell fin i j ≡ left_cell (ends_at (s.clock + 1) (sent.sending j)) i (cell sent i j)
  cell_is i j hj = finish.done i j hj ∙ ap (λ (o : Option Departure). left_cell o i (cell sent i j)) (leaving_is j)

  abbrev After : ℕ → ℕ → Type 0
  After i j = FlowShows st.plan.size.parts (weight_of st.plan i j) (s.clock + 1) (flow i j) (max (s.peak i j) (held s.clock (flow i j))) (fin.lists i j) (fin.counts i j) (fin.ledgers i j)

  counts_kept : (i j : ℕ) → sent.counts i j ≡ fin.counts i j
  counts_kept i j = sym (ap (λ (g : ℕ → ℕ → ℕ). g i j) finish.counts_is)

  -- a flow of which nothing leaves
  after_stays : (i j : ℕ) → departed (s.clock + 1) (flow i j) ≡ departed s.clock (flow i j) → fin.lists i j ≡ sent.lists i j → fin.ledgers i j ≡ sent.ledgers i j → After i j
  after_stays i j e a b =
      same_cells (sym a) (counts_kept i j) (sym b) (flow_stays (flow_out now all i j) e)

  -- a flow whose oldest packet leaves
  after_leaves : (i j : ℕ) (d : Departure) → i < st.plan.size.ports → j < st.plan.size.ports → departed (s.clock + 1) (flow i j) ≡ departed s.clock (flow i j) + 1 →
      length (flow i j).sendings ≡ departed s.clock (flow i j) + 1 → d.bytes ≡ (get_or (flow i j).accepted (departed s.clock (flow i j)) no_packet).bytes →
      fin.lists i j ≡ drop 1 (sent.lists i j) → fin.ledgers i j ≡ departing d.bytes (sent.ledgers i j) → After i j
  after_leaves i j d hi hj went one bytes a b =
      let o = order i j hi hj in
      let p = left_packet (flow_out now all i j) (omega (arith, one, o.0, o.1)) in
      same_cells (sym a) (counts_kept i j) (sym (b ∙ ap (λ n. departing n (sent.ledgers i j)) (bytes ∙ sym p.2)))
      (oldest_leaves (flow_out now all i j) p.0 went (omega (arith, one, o.0)) p.1)

  empty_stays : (i j : ℕ) → has_flow st.plan i j ≡ false → departed (s.clock + 1) (flow i j) ≡ departed s.clock (flow i j)
  empty_stays i j out = ended_empty (s.clock + 1) (flow i j).accepted (flow i j).sendings (now.shows.outside i j out) ∙ sym (ended_empty s.clock (flow i j).accepted (flow i j).sendings (now.shows.outside i j out))

  after_in : (i j : ℕ) → i < st.plan.size.ports → j < st.plan.size.ports → (o : Option Departure) → ends_at (s.clock + 1) (sent.sending j) ≡ o → Outcome (plan_of st.plan) s.clock j (λ a. flow a j) o → After i j
  after_in i j hi hj o e (stays is same) =
      let c = cell_is i j hj ∙ ap (λ (x : Option Departure). left_cell x i (cell sent i j)) (e ∙ is) in
      after_stays i j (same i hi) (ap (λ (x : Cell). x.list) c) (ap (λ (x : Cell). x.ledger) c)
  after_in i j hi hj o e (goes d is in-ports told one went others) =
      let c = cell_is i j hj ∙ ap (λ (x : Option Departure). left_cell x i (cell sent i j)) (e ∙ is) in
      ⊎_elim
      (λ (z : i ≡ d.input).
      let k = cell_left d i (cell sent i j) z in
      after_leaves i j d hi hj (subst (λ a. departed (s.clock + 1) (flow a j) ≡ departed s.clock (flow a j) + 1) (sym z) went)
      (subst (λ a. length (flow a j).sendings ≡ departed s.clock (flow a j) + 1) (sym z) one)
      (subst (λ a. d.bytes ≡ (get_or (flow a j).accepted (departed s.clock (flow a j)) no_packet).bytes) (sym z) (ap (λ (x : Departure). x.bytes) told))
      (ap (λ (x : Cell). x.list) c ∙ k.0) (ap (λ (x : Cell). x.ledger) c ∙ k.1))
      (λ (ne : i ≡ d.input → ⊥).
      let k = cell_kept (Some d) i (cell sent i j) (λ x f z. let y : d ≡ x = cc in ne (z ∙ ap (λ (v : Departure). v.input) (sym y))) in
      after_stays i j (others i hi ne) (ap (λ (x : Cell). x.list) c ∙ k.0) (ap (λ (x : Cell). x.ledger) c ∙ k.1))
      (cases_eq i d.input)

  after_row : (i j : ℕ) → st.plan.size.ports ≤ i → j < st.plan.size.ports → (o : Option Departure) → ends_at (s.clock + 1) (sent.sending j) ≡ o → Outcome (plan_of st.plan) s.clock j (λ a. flow a j) o → After i j
  after_row i j out hj o e (stays is same) =
      let c = cell_is i j hj ∙ ap (λ (x : Option Departure). left_cell x i (cell sent i j)) (e ∙ is) in
      after_stays i j (empty_stays i j (not_row st.plan i j out)) (ap (λ (x : Cell). x.list) c) (ap (λ (x : Cell). x.ledger) c)
  after_row i j out hj o e (goes d is in-ports told one went others) =
      let c = cell_is i j hj ∙ ap (λ (x : Option Departure). left_cell x i (cell sent i j)) (e ∙ is) in
      let k = cell_kept (Some d) i (cell sent i j) (λ x f z. let y : d ≡ x = cc in omega (arith, ap (λ (v : Departure). v.input) y, z, out, in-ports)) in
      after_stays i j (empty_stays i j (not_row st.plan i j out)) (ap (λ (x : Cell). x.list) c ∙ k.0) (ap (λ (x : Cell). x.ledger) c ∙ k.1)

  -- each flow after the step
  pub flow_after : (i j : ℕ) → After i j
  flow_after i j =
      ⊎_elim
      (λ (hj : j < st.plan.size.ports).
      ⊎_elim
      (λ (hi : i < st.plan.size.ports). after_in i j hi hj _ refl (fate j hj))
      (λ (out : st.plan.size.ports ≤ i). after_row i j out hj _ refl (fate j hj))
      (cases_lt i st.plan.size.ports))
      (λ (out : st.plan.size.ports ≤ j).
      let c = finish.rest i j out in
      after_stays i j (empty_stays i j (not_column st.plan i j out)) (ap (λ (x : Cell). x.list) c) (ap (λ (x : Cell). x.ledger) c))
      (cases_lt j st.plan.size.ports)

  line_is : (j : ℕ) → j < st.plan.size.ports → fin.sending j ≡ left_line (ends_at (s.clock + 1) (sent.sending j)) (sent.sending j)
  line_is j hj = ap (λ (x : Cell). x.line) (cell_is 0 j hj) ∙ cell_line (ends_at (s.clock + 1) (sent.sending j)) 0 (cell sent 0 j)

  grows : (i j : ℕ) → departed s.clock (s.flow i j) ≤ departed (s.clock + 1) (flow i j)
  grows i j = omega (arith, ended_same now all i j, ended_later s.clock (flow i j).accepted (flow i j).sendings)

  few_after : (i j : ℕ) → length (fin.lists i j) ≤ MOST_STORED
  few_after i j =
      let f = flow i j in
      let P = packets st.plan.size.parts (weight_of st.plan i j) 0 0 f.accepted f.crossings in
      let now-long : length (fin.lists i j) ≡ length f.accepted - departed (s.clock + 1) f =
      ap length (flow_after i j).listed ∙ length-drop (departed (s.clock + 1) f) P ∙ ap (λ n. n - departed (s.clock + 1) f) (packets_length _ _ f.accepted 0 0 f.crossings) in
      omega (arith, now-long, length_listed now.shows i j, now.shows.few i j, grows i j)

  crossing_line : (i : ℕ) → fin.crossing i ≡ mid.crossing i
  crossing_line i = ap (λ (g : ℕ → Line ℕ). g i) finish.crossing_is ∙ ap (λ (x : State). x.crossing i) all.outputs.beside

  plan_stays : fin.plan ≡ st.plan
  plan_stays = finish.plan_is ∙ ap (λ (x : State). x.plan) all.outputs.beside ∙ all.inputs.beside.plan_is

  abbrev after : State
  after = record fin { plan = st.plan; clock = s.clock + 1 }

  after_is : after ≡ fin
  after_is = λ k. record fin { plan = sym plan_stays k; clock = sym (finish.clock_is ∙ ap (λ n. n + 1) (sent_clock now all)) k }

  shows_so : s.clock < LAST_TICK → Shows after (after_tick (plan_of st.plan) s cross send)
  shows_so early =
      record {
        clock_is = refl;
        early = omega (arith, early);
        flows = flow_after;
        outside = λ i j out. now.shows.outside i j out;
        few = few_after;
        inputs = λ i hi. ap (λ (line : Line ℕ). max (s.clock + 1) (until_of line)) (crossing_line i) ∙ mid_until now (input_starts now all) i hi;
        outputs = λ j hj.
            ap (λ (line : Line Departure). max (s.clock + 1) (until_of line)) (line_is j hj) ∙ until_after (plan_of st.plan) s.clock j (λ i. flow i j) (sent.sending j) (at_line j hj)
            ∙ line_until now all j hj;
        across_now = λ i j hi hj.
            subst (λ (line : Line ℕ). IsOnLine (s.clock + 1) (flow i j).accepted (flow i j).crossings (loaded_with to_output j line) (until_of line)) (sym (crossing_line i))
            (line_ticks s.clock (flow i j).accepted (flow i j).crossings _ _ (order i j hi hj).1 (mid_line now (input_starts now all) i j hi hj));
        out_now = λ i j hi hj.
            subst (λ (line : Line Departure). IsOnLine (s.clock + 1) (flow i j).accepted (flow i j).sendings (loaded_with from_input i line) (until_of line)) (sym (line_is j hj))
            (on_after (plan_of st.plan) s.clock j (λ a. flow a j) (sent.sending j) (at_line j hj) i hi);
        loads = λ j hj.
            subst (Loaded (plan_of st.plan) (s.clock + 1) (λ i. flow i j) j) (sym (line_is j hj)) (load_after (plan_of st.plan) s.clock j (λ a. flow a j) (sent.sending j) (at_line j hj));
      }

  -- the state after the step stands for the switch a tick later
  pub shows_after : s.clock < LAST_TICK → Shows fin (after_tick (plan_of st.plan) s cross send)
  shows_after early = subst (λ (x : State). Shows x (after_tick (plan_of st.plan) s cross send)) after_is (shows_so early)

  column_leaves : (j : ℕ) → j < st.plan.size.ports → (o : Option Departure) → Outcome (plan_of st.plan) s.clock j (λ a. flow a j) o →
      listed_with o ≡ flat_map (λ i. flow_leaves (plan_of st.plan) s.clock (s.clock + 1) i j (flow i j)) (range_with_len 0 st.plan.size.ports)
  column_leaves j hj o (stays is same) =
      ap listed_with is
      ∙ sym (joined_none (λ i. flow_leaves (plan_of st.plan) s.clock (s.clock + 1) i j (flow i j)) 0 st.plan.size.ports
      (λ i _ _. none_leaves (plan_of st.plan) s.clock i j (flow i j)
      (⊎_elim (λ (hi : i < st.plan.size.ports). same i hi) (λ (out : st.plan.size.ports ≤ i). empty_stays i j (not_row st.plan i j out)) (cases_lt i st.plan.size.ports))))
  column_leaves j hj o (goes d is in-ports told one went others) =
      ap listed_with is
      ∙ ap (λ (x : Departure). x ∷ []) told
      ∙ sym (one_leaves (plan_of st.plan) s.clock d.input j (flow d.input j) went)
      ∙ sym (joined_one (λ i. flow_leaves (plan_of st.plan) s.clock (s.clock + 1) i j (flow i j)) d.input 0 st.plan.size.ports (omega arith) (omega (arith, in-ports))
      (λ i ne. none_leaves (plan_of st.plan) s.clock i j (flow i j)
      (⊎_elim (λ (hi : i < st.plan.size.ports). others i hi ne) (λ (out : st.plan.size.ports ≤ i). empty_stays i j (not_row st.plan i j out)) (cases_lt i st.plan.size.ports))))

  -- and what is listed is what the law lets leave
  pub list_leaves : listed_to st.plan.size.ports (ticked sent) ≡ leaves (plan_of st.plan) (after_tick (plan_of st.plan) s cross send) s.clock (s.clock + 1)
  list_leaves =
      let n = st.plan.size.ports in
      let tk = ticked sent in
      listed_joined tk n
      ∙ joined_same (λ j. listed_with (leaving tk j)) (λ j. flat_map (λ i. flow_leaves (plan_of st.plan) s.clock (s.clock + 1) i j (flow i j)) (range_with_len 0 n)) 0 n
      (λ j hj. let within : j < n = omega (arith, hj) in ap listed_with (leaving_is j) ∙ column_leaves j within _ (fate j within))
