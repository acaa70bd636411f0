-- The state after the outputs' starts, flow by flow and line by line: it shows the flows of the law with all starts of the tick.
use Rattle.std.proofs.Common.{◌≡◌, ℕ, zero, suc, ◌+◌, ◌-◌, ◌/◌, ◌%◌, ◌^◌, ◌<◌, ◌≤◌, max, Bool, true, false, cond, ◌&&◌, eqb, List, [], ◌∷◌, ◌++◌, map, length, get_or, drop, Some, None, Option, sym, refl, ap, ◌∙◌, subst, ⊎_elim, mod-eq_of_lt, zero-add, arith}
use Rattle.std.specs.List.{range_with_len, AllByRecursion}
use Rattle.std.proofs.lemmas.List.{get_or_append_left}
use Rattle.std.proofs.Math.Seq.{get_or-append_seam}
use Rattle.std.proofs.ByRecursion.{All-get_or}
use Rattle.std.proofs.lemmas.Bool.{cases_lt, eq-eqb, eqb-true, lt-ltb, true≢false}
use Rattle.timing.specs.Fluid.{Accepted}
use Rattle.timing.specs.declared.Stamp.{Stamp}
use Rattle.timing.proofs.Stamped.{not_zero}
use Rattle.plan.specs.Weights.{weight_of}
use Rattle.store.specs.declared.packet.Packet.{Packet}
use Rattle.departure.specs.declared.Departure.{Departure}
use Rattle.law.specs.Journeys.{Journeys, ended, departed, held}
use Rattle.law.specs.Plans.{plan_of}
use Rattle.law.specs.Queues.{finish, stamps, bytes_of}
use Rattle.law.specs.Runs.{Call, Answer, no_packet, no_stamp, departure}
use Rattle.law.specs.Step.{Plan, Switch, output_mark, at_output, Starts, names, with_start, busy_until, started_flow}
use Rattle.law.proofs.EndedPackets.{ended_more_starts}
use Rattle.state.specs.declared.line.Ledger.{Ledger}
use Rattle.state.specs.State.{State}
use Rattle.state.specs.Lines.{until_of, loaded_with, from_input, Line, busy}
use Rattle.state.specs.Sends.{next_out, departure_of, tick_of}
use Rattle.state.specs.Shows.{packets, first_of, IsOnLine, Loaded, FlowShows, Moment}
use Rattle.state.proofs.AfterInputStarts.{InputsStart, mid_flow, line_takes, head_is}
use Rattle.state.proofs.FlowOnLine.{line_free}
use Rattle.state.proofs.FlowTakesPacket.{packets_length}
use Rattle.state.proofs.InputTurns.{InputsDone}
use Rattle.state.proofs.OutputMarks.{next_is}
use Rattle.state.proofs.OutputTurns.{line_with, line_by, OutputsDone}
use Rattle.state.proofs.ShownFlows.{steady, starts_in_order}
use Rattle.state.proofs.StartedPacket.{begins, row_mark, mark_there, nth_there, IsPacket, packet_is}

-- the tick that a departure names
tick_first : (n : ℕ) (us : List ℕ) → tick_of (first_of (drop n us)) ≡ get_or us n 0
tick_first zero [] = refl
tick_first (suc n) [] = refl
tick_first zero (u ∷ us) = refl
tick_first (suc n) (u ∷ us) = tick_first n us

-- the load of a packet that starts out is its departure
new_load : (plan : Plan) (i j t : ℕ) (ps : List Accepted) (us vs : List ℕ) (n : ℕ) (p : Packet) → 0 < plan.weight i j → IsPacket plan.parts (plan.weight i j) 0 0 ps us n p → n ≡ length vs →
    (t + p.bytes) % 2 ^ 64 ≡ t + p.bytes → departure_of t i j p ≡ departure plan i j record { accepted = ps; crossings = us; sendings = vs ++ t ∷ [] } n
new_load plan i j t ps us vs n p pos is e fits =
    let w = plan.weight i j in
    let v = finish plan.parts (get_or (stamps plan.parts w 0 ps) n no_stamp) in
    let at : t ≡ get_or (vs ++ t ∷ []) n 0 = sym (ap (λ m. get_or (vs ++ t ∷ []) m 0) e ∙ get_or-append_seam vs t [] 0) in
    λ k. record {
      tick = (fits ∙ (λ x. at x + is.bytes_is x)) k;
      input = i;
      output = j;
      serial = (is.serial_is ∙ ap (λ m. m % 2 ^ 64) (zero-add n)) k;
      arrival = is.arrival_is k;
      crossing = (ap tick_of is.crossing_is ∙ tick_first n us) k;
      sending = at k;
      whole = (ap (λ (x : Stamp). x.tick) is.finish_is ∙ ap (λ y. v / y) (not_zero w pos)) k;
      numerator = (ap (λ (x : Stamp). x.numerator) is.finish_is ∙ ap (λ y. v % y) (not_zero w pos)) k;
      bytes = is.bytes_is k;
    }

start_before : (b : Bool) (t : ℕ) (us : List ℕ) (k : ℕ) → k < length us → get_or us k 0 ≡ get_or (with_start b t us) k 0
start_before true t us k l = sym (get_or_append_left us (t ∷ []) 0 k l)
start_before false t us k l = refl

-- a start across leaves the departures of the packets that had crossed
old_load : (plan : Plan) (i j : ℕ) (f : Journeys) (b : Bool) (t k : ℕ) → k < length f.crossings → departure plan i j f k ≡ departure plan i j record { accepted = f.accepted; crossings = with_start b t f.crossings; sendings = f.sendings } k
old_load plan i j f b t k l = λ x. record {
  tick = get_or f.sendings k 0 + (get_or f.accepted k no_packet).bytes;
  input = i;
  output = j;
  serial = k % 2 ^ 64;
  arrival = (get_or f.accepted k no_packet).arrival;
  crossing = start_before b t f.crossings k l x;
  sending = get_or f.sendings k 0;
  whole = finish plan.parts (get_or (stamps plan.parts (plan.weight i j) 0 f.accepted) k no_stamp) / plan.weight i j;
  numerator = finish plan.parts (get_or (stamps plan.parts (plan.weight i j) 0 f.accepted) k no_stamp) % plan.weight i j;
  bytes = (get_or f.accepted k no_packet).bytes;
}

-- a start out changes nothing else
flow_sends : {W w t : ℕ} {f : Journeys} (peak : ℕ) {list : List Packet} {count : ℕ} {l : Ledger} (vs : List ℕ) → ended t f.accepted vs ≡ departed t f → FlowShows W w t f (max peak (held t f)) list count l →
    FlowShows W w t record { accepted = f.accepted; crossings = f.crossings; sendings = vs } (max peak (held t record { accepted = f.accepted; crossings = f.crossings; sendings = vs })) list count l
flow_sends {W} {w} {t} {f} peak {list} {count} {l} vs e h =
    record {
      arrived_by = h.arrived_by;
      listed = h.listed ∙ ap (λ n. drop n (packets W w 0 0 f.accepted f.crossings)) (sym e);
      numbered = h.numbered;
      last_is = h.last_is;
      accepted_is = h.accepted_is;
      started_is = h.started_is;
      departed_is = h.departed_is ∙ ap (λ n. bytes_of f.accepted n % 2 ^ 64) (sym e);
      peak_is = h.peak_is ∙ ap (λ n. max peak (bytes_of f.accepted (length f.crossings) - bytes_of f.accepted n)) (sym e);
      under_way_is = h.under_way_is ∙ ap (λ n. n + l.under_way) (sym e);
    }

-- all starts of a tick: the law lets them start, and the state `sent` is the one after them
pub record AllStart (st : State) (s : Switch) (cross send : ℕ → Option ℕ) (mid sent : State) : Type 0 where
  pub lawful : Starts (plan_of st.plan) s cross send
  pub inputs : InputsDone st cross mid
  pub outputs : OutputsDone mid send sent

module _ {M : ℕ} {st : State} {log : List (Call × Answer)} {s : Switch} (now : Moment M st log s) {cross send : ℕ → Option ℕ} {mid sent : State} (all : AllStart st s cross send mid sent) where
  pub input_starts : InputsStart st s cross mid
  input_starts = record { lawful = all.lawful.inputs; none = all.lawful.no_input; done = all.inputs }

  mid_clock : mid.clock ≡ s.clock
  mid_clock = all.inputs.beside.clock_is ∙ now.shows.clock_is

  pub sent_clock : sent.clock ≡ s.clock
  sent_clock = ap (λ (x : State). x.clock) all.outputs.beside ∙ mid_clock

  -- a packet that starts out
  pub record StartsOut (i j : ℕ) : Type 0 where
    pub input_in : i < st.plan.size.ports
    pub output_in : j < st.plan.size.ports
    pub chosen : send j ≡ Some i
    pub free : s.sending_until j ≤ s.clock
    pub there : length (s.flow i j).sendings < length (s.flow i j).accepted
    pub none_out : length (s.flow i j).sendings ≡ departed s.clock (s.flow i j)
    pub packet : Packet
    pub is : next_out mid i j ≡ Some packet
    pub is_packet : IsPacket st.plan.size.parts (weight_of st.plan i j) 0 0 (s.flow i j).accepted (with_start (names (cross i) j) s.clock (s.flow i j).crossings) (departed s.clock (s.flow i j)) packet
    pub fits : (s.clock + packet.bytes) % 2 ^ 64 ≡ s.clock + packet.bytes

  pub starts_out : (i j : ℕ) → names (send j) i ≡ true → StartsOut i j
  starts_out i j e =
      let n = st.plan.size.ports in
      let hj : j < n = ⊎_elim (λ (l : j < n). l) (λ (l : n ≤ j). absurd (true≢false (sym e ∙ ap (λ (o : Option ℕ). names o i) (all.lawful.no_output j l)))) (cases_lt j n) in
      let f = s.flow i j in
      let W = st.plan.size.parts in
      let w = weight_of st.plan i j in
      let b = begins s.clock (s.sending_until j) (map (output_mark (plan_of st.plan) s j) (range_with_len 0 n)) (send j) i (all.lawful.outputs j hj) e in
      let r = row_mark (output_mark (plan_of st.plan) s j) n i b.2.0 b.2.1 in
      let some : length f.sendings < length f.accepted = mark_there W w _ f.accepted (length f.sendings) b.2.0 r.1 in
      let is_free : until_of (st.sending j) ≤ s.clock = omega (arith, now.shows.outputs j hj, b.1) in
      let d = departed s.clock f in
      let out : length f.sendings ≡ d = line_free s.clock _ _ _ _ (now.shows.out_now i j r.0 hj) is_free in
      let P = packets W w 0 0 f.accepted (with_start (names (cross i) j) s.clock f.crossings) in
      let p = nth_there P d (omega (arith, packets_length W w f.accepted 0 0 (with_start (names (cross i) j) s.clock f.crossings), some, out)) in
      let at = packet_is W w 0 0 f.accepted (with_start (names (cross i) j) s.clock f.crossings) d p.0 p.1 in
      let short : (get_or f.accepted d no_packet).bytes ≤ st.plan.size.longest =
      All-get_or (λ (q : Accepted). q.bytes ≤ st.plan.size.longest) f.accepted d no_packet (omega (arith, some, out)) (steady now i j r.0 hj).short in
      let few : st.plan.size.longest ≤ 1500 = st.plan.size.few_bytes in
      let small : s.clock + p.0.bytes < 2 ^ 64 = omega (arith, at.bytes_is, short, few, now.shows.early) in
      record {
        input_in = r.0;
        output_in = hj;
        chosen = b.0;
        free = b.1;
        there = some;
        none_out = out;
        packet = p.0;
        is = next_is now input_starts i j ∙ p.1;
        is_packet = at;
        fits = mod-eq_of_lt small;
      }

  line_out : (i j : ℕ) (x : StartsOut i j) → sent.sending j ≡ busy (departure_of s.clock i j x.packet) ((s.clock + x.packet.bytes) % 2 ^ 64)
  line_out i j x =
      all.outputs.lines j ∙ ap (λ (o : Option ℕ). line_by o mid j (mid.sending j)) x.chosen
      ∙ ap (λ (o : Option Packet). line_with o mid i j (mid.sending j)) x.is
      ∙ (λ k. busy (departure_of (mid_clock k) i j x.packet) ((mid_clock k + x.packet.bytes) % 2 ^ 64))

  line_kept : (j : ℕ) → j < st.plan.size.ports → send j ≡ None → sent.sending j ≡ st.sending j
  line_kept j hj e = all.outputs.lines j ∙ ap (λ (o : Option ℕ). line_by o mid j (mid.sending j)) e ∙ ap (λ (g : ℕ → Line Departure). g j) all.inputs.beside.sending_is

  some_bytes : (i j : ℕ) → i < st.plan.size.ports → j < st.plan.size.ports → AllByRecursion (λ p. 0 < p.bytes) (s.flow i j).accepted
  some_bytes i j hi hj = (steady now i j hi hj).some

  ended_by_starts : (i j : ℕ) (b : Bool) → names (send j) i ≡ b → ended s.clock (s.flow i j).accepted (with_start b s.clock (s.flow i j).sendings) ≡ departed s.clock (s.flow i j)
  ended_by_starts i j true e = let x = starts_out i j e in ended_more_starts s.clock (s.flow i j).accepted (s.flow i j).sendings (some_bytes i j x.input_in x.output_in)
  ended_by_starts i j false e = refl

  -- the starts of this tick end later
  pub ended_same : (i j : ℕ) → departed s.clock (started_flow (plan_of st.plan) s cross send i j) ≡ departed s.clock (s.flow i j)
  ended_same i j = ended_by_starts i j (names (send j) i) refl

  -- each flow after all starts
  pub flow_out : (i j : ℕ) → FlowShows st.plan.size.parts (weight_of st.plan i j) s.clock (started_flow (plan_of st.plan) s cross send i j)
      (max (s.peak i j) (held s.clock (started_flow (plan_of st.plan) s cross send i j))) (sent.lists i j) (sent.counts i j) (sent.ledgers i j)
  flow_out i j =
      subst (λ (x : State). FlowShows st.plan.size.parts (weight_of st.plan i j) s.clock (started_flow (plan_of st.plan) s cross send i j)
      (max (s.peak i j) (held s.clock (started_flow (plan_of st.plan) s cross send i j))) (x.lists i j) (x.counts i j) (x.ledgers i j)) (sym all.outputs.beside)
      (flow_sends (s.peak i j) (with_start (names (send j) i) s.clock (s.flow i j).sendings) (ended_same i j) (mid_flow now input_starts i j))

  line_on_by : (i j : ℕ) → i < st.plan.size.ports → j < st.plan.size.ports → (o : Option ℕ) → send j ≡ o →
      IsOnLine s.clock (s.flow i j).accepted (with_start (names o i) s.clock (s.flow i j).sendings) (loaded_with from_input i (sent.sending j)) (until_of (sent.sending j))
  line_on_by i j hi hj None e =
      subst (λ (line : Line Departure). IsOnLine s.clock (s.flow i j).accepted (s.flow i j).sendings (loaded_with from_input i line) (until_of line)) (sym (line_kept j hj e)) (now.shows.out_now i j hi hj)
  line_on_by i j hi hj (Some k) e =
      let x = starts_out k j (ap (λ (o : Option ℕ). names o k) e ∙ eq-eqb k k refl) in
      let u : (s.clock + x.packet.bytes) % 2 ^ 64 ≡ s.clock + (get_or (s.flow k j).accepted (length (s.flow k j).sendings) no_packet).bytes =
      x.fits ∙ ap (λ n. s.clock + n) (x.is_packet.bytes_is ∙ ap (λ n. (get_or (s.flow k j).accepted n no_packet).bytes) (sym x.none_out)) in
      subst (λ (line : Line Departure). IsOnLine s.clock (s.flow i j).accepted (with_start (eqb k i) s.clock (s.flow i j).sendings) (loaded_with from_input i line) (until_of line)) (sym (line_out k j x))
      (line_takes (eqb k i) s.clock (s.flow i j).accepted (s.flow i j).sendings _ (until_of (st.sending j)) ((s.clock + x.packet.bytes) % 2 ^ 64)
      (some_bytes i j hi hj) (omega (arith, now.shows.outputs j hj, x.free)) (now.shows.out_now i j hi hj)
      (λ z. let same = eqb-true k i z in (
        subst (λ y. (s.clock + x.packet.bytes) % 2 ^ 64 ≡ s.clock + (get_or (s.flow y j).accepted (length (s.flow y j).sendings) no_packet).bytes) same u,
        subst (λ y. length (s.flow y j).sendings < length (s.flow y j).accepted) same x.there,
      )))

  -- what each output's line carries after the starts
  pub line_on : (i j : ℕ) → i < st.plan.size.ports → j < st.plan.size.ports →
      IsOnLine s.clock (s.flow i j).accepted (with_start (names (send j) i) s.clock (s.flow i j).sendings) (loaded_with from_input i (sent.sending j)) (until_of (sent.sending j))
  line_on i j hi hj = line_on_by i j hi hj (send j) refl

  abbrev flow_with : Option ℕ → ℕ → ℕ → Journeys
  flow_with o i j = record { accepted = (s.flow i j).accepted; crossings = with_start (names (cross i) j) s.clock (s.flow i j).crossings; sendings = with_start (names o i) s.clock (s.flow i j).sendings }

  load_kept : (j : ℕ) → j < st.plan.size.ports → (line : Line Departure) → ((i : ℕ) → i < st.plan.size.ports → IsOnLine s.clock (s.flow i j).accepted (s.flow i j).sendings (loaded_with from_input i line) (until_of line)) →
      Loaded (plan_of st.plan) s.clock (λ i. s.flow i j) j line → Loaded (plan_of st.plan) s.clock (λ i. flow_with None i j) j line
  load_kept j hj None on l = tt
  load_kept j hj (Some b) on l = λ before.
      let old = l before in
      let i = b.load.input in
      let k = departed s.clock (s.flow i j) in
      let one : length (s.flow i j).sendings ≡ k + 1 = (on i old.0).count ∙ (λ x. k + cond (eq-eqb i i refl x && lt-ltb s.clock b.until before x) 1 0) in
      let order = (starts_in_order now i j old.0 hj).0 in
      (old.0, old.1 ∙ old_load (plan_of st.plan) i j (s.flow i j) (names (cross i) j) s.clock k (omega (arith, one, order)))

  line_load_by : (j : ℕ) → j < st.plan.size.ports → (o : Option ℕ) → send j ≡ o → Loaded (plan_of st.plan) s.clock (λ i. flow_with o i j) j (sent.sending j)
  line_load_by j hj None e =
      subst (Loaded (plan_of st.plan) s.clock (λ i. flow_with None i j) j) (sym (line_kept j hj e)) (load_kept j hj (st.sending j) (λ i hi. now.shows.out_now i j hi hj) (now.shows.loads j hj))
  line_load_by j hj (Some i) e =
      let x = starts_out i j (ap (λ (o : Option ℕ). names o i) e ∙ eq-eqb i i refl) in
      let f = s.flow i j in
      let steady = steady now i j x.input_in hj in
      let us = with_start (names (cross i) j) s.clock f.crossings in
      let new = new_load (plan_of st.plan) i j s.clock f.accepted us f.sendings (departed s.clock f) x.packet (steady.is_open (omega (arith, x.there))) x.is_packet (sym x.none_out) x.fits in
      let same = ended_more_starts s.clock f.accepted f.sendings steady.some in
      subst (Loaded (plan_of st.plan) s.clock (λ a. flow_with (Some i) a j) j) (sym (line_out i j x))
      (λ _. (
        x.input_in,
        subst (λ b. departure_of s.clock i j x.packet ≡ departure (plan_of st.plan) i j record { accepted = f.accepted; crossings = us; sendings = with_start b s.clock f.sendings } (ended s.clock f.accepted (with_start b s.clock f.sendings))) (sym (eq-eqb i i refl))
            (new ∙ ap (departure (plan_of st.plan) i j record { accepted = f.accepted; crossings = us; sendings = f.sendings ++ s.clock ∷ [] }) (sym same)),
      ))

  -- and its load
  pub line_load : (j : ℕ) → j < st.plan.size.ports → Loaded (plan_of st.plan) s.clock (λ i. started_flow (plan_of st.plan) s cross send i j) j (sent.sending j)
  line_load j hj = line_load_by j hj (send j) refl

  line_until_by : (j : ℕ) → j < st.plan.size.ports → (o : Option ℕ) → send j ≡ o →
      max (s.clock + 1) (until_of (sent.sending j)) ≡ max (s.clock + 1) (busy_until s.clock (s.sending_until j) (λ i. at_output (plan_of st.plan) s i j) o)
  line_until_by j hj None e = ap (λ (line : Line Departure). max (s.clock + 1) (until_of line)) (line_kept j hj e) ∙ omega (arith, now.shows.outputs j hj)
  line_until_by j hj (Some i) e =
      let x = starts_out i j (ap (λ (o : Option ℕ). names o i) e ∙ eq-eqb i i refl) in
      ap (λ (line : Line Departure). max (s.clock + 1) (until_of line)) (line_out i j x)
      ∙ ap (λ n. max (s.clock + 1) n) (x.fits ∙ ap (λ n. s.clock + n) (x.is_packet.bytes_is ∙ ap (λ n. (get_or (s.flow i j).accepted n no_packet).bytes) (sym x.none_out) ∙ sym (head_is st.plan.size.parts (weight_of st.plan i j) (s.flow i j).accepted (length (s.flow i j).sendings))))

  pub line_until : (j : ℕ) → j < st.plan.size.ports →
      max (s.clock + 1) (until_of (sent.sending j)) ≡ max (s.clock + 1) (busy_until s.clock (s.sending_until j) (λ i. at_output (plan_of st.plan) s i j) (send j))
  line_until j hj = line_until_by j hj (send j) refl
