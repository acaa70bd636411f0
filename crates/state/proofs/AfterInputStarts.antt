-- The state after the inputs' starts, flow by flow and line by line: it shows the flows of the law with these starts.
use Rattle.std.proofs.Common.{◌≡◌, ℕ, ◌+◌, ◌-◌, ◌%◌, ◌^◌, ◌<◌, ◌≤◌, max, Bool, true, false, cond, ◌&&◌, eqb, ltb, List, [], ◌∷◌, ◌++◌, map, length, get_or, drop, Some, None, Option, sym, refl, ap, ◌∙◌, subst, ⊎_elim, mod-eq_of_lt, arith}
use Rattle.std.specs.List.{slice_get, range_with_len, AllByRecursion}
use Rattle.std.proofs.lemmas.List.{length_push}
use Rattle.std.proofs.ByRecursion.{All-get_or}
use Rattle.std.proofs.lemmas.Bool.{cases_lt, eq-eqb, ne_eqb, eqb-true, eqb-false, true≢false}
use Rattle.timing.specs.Fluid.{Accepted, accepted_bytes}
use Rattle.plan.specs.Weights.{weight_of}
use Rattle.store.specs.declared.meaning.TheConstants.{MOST_STORED}
use Rattle.store.specs.Stored.{noted}
use Rattle.store.specs.declared.packet.Packet.{Packet}
use Rattle.law.specs.Journeys.{Journeys, departed, held}
use Rattle.law.specs.Plans.{plan_of}
use Rattle.law.specs.Queues.{bytes_of, stamps}
use Rattle.law.specs.Runs.{Call, Answer, no_packet}
use Rattle.law.specs.Step.{Switch, input_mark, at_input, LineStarts, names, with_start, head_bytes, busy_until}
use Rattle.law.proofs.OneAtATime.{head_at}
use Rattle.law.proofs.StampsOfFlow.{stamp_at_bytes}
use Rattle.state.specs.declared.line.Ledger.{Ledger}
use Rattle.state.specs.State.{State}
use Rattle.state.specs.Lines.{until_of, loaded_with, to_output, Line, busy}
use Rattle.state.specs.Crosses.{next_across, starting, crossed_with, crossed_by}
use Rattle.state.specs.Shows.{packets, IsOnLine, FlowShows, Moment}
use Rattle.state.proofs.ExactTotals.{started_exact, departed_exact}
use Rattle.state.proofs.FlowOnLine.{line_free, off_line, line_starts}
use Rattle.state.proofs.FlowStartsAcross.{flow_starts, packet_bytes}
use Rattle.state.proofs.InputTurns.{Row, InputsDone}
use Rattle.state.proofs.Lists.{nth_drop}
use Rattle.state.proofs.ShownFlows.{bytes_le, length_listed, steady, peak_covered, accepted_fits}
use Rattle.state.proofs.StartedPacket.{begins, row_mark, mark_there, nth_there, packet_is}

-- a line that takes the head of one flow, as each flow sees it
pub line_takes : (b : Bool) (t : ℕ) (ps : List Accepted) (vs : List ℕ) (mine : Bool) (until until' : ℕ) → AllByRecursion (λ p. 0 < p.bytes) ps → until ≤ t → IsOnLine t ps vs mine until →
    (b ≡ true → (until' ≡ t + (get_or ps (length vs) no_packet).bytes) × (length vs < length ps)) → IsOnLine t ps (with_start b t vs) b until'
line_takes true t ps vs mine until until' some free o ends =
    let e = ends refl in
    let pos = All-get_or (λ (p : Accepted). 0 < p.bytes) ps (length vs) no_packet e.1 some in
    line_starts t ps vs true until until' some refl (line_free t ps vs mine until o free) e.0 (omega (arith, e.0, pos))
line_takes false t ps vs mine until until' some free o ends = off_line t ps vs false until' (line_free t ps vs mine until o free) refl

-- the cells of a flow after a choice: its own start, and that of another
here_with : (p : Packet) (st : State) (i j : ℕ) → ((crossed_with (Some p) st i j).lists i j ≡ noted (st.ledgers i j).under_way st.clock (st.lists i j))
    × ((crossed_with (Some p) st i j).ledgers i j ≡ starting p.bytes (st.ledgers i j)) × ((crossed_with (Some p) st i j).crossing i ≡ busy j ((st.clock + p.bytes) % 2 ^ 64))
here_with p st i j =
    let a : eqb i i ≡ true = eq-eqb i i refl in
    let b : eqb j j ≡ true = eq-eqb j j refl in (
      (λ k. cond (a k && b k) (noted (st.ledgers i j).under_way st.clock (st.lists i j)) (st.lists i j)),
      (λ k. cond (a k && b k) (starting p.bytes (st.ledgers i j)) (st.ledgers i j)),
      (λ k. cond (a k) (busy j ((st.clock + p.bytes) % 2 ^ 64)) (st.crossing i)),
    )

beside_with : (o : Option Packet) (st : State) (i k j : ℕ) → eqb j k ≡ false → ((crossed_with o st i k).lists i j ≡ st.lists i j) × ((crossed_with o st i k).ledgers i j ≡ st.ledgers i j)
beside_with None st i k j e = (refl, refl)
beside_with (Some p) st i k j e =
    let a : eqb i i ≡ true = eq-eqb i i refl in (
      (λ x. cond (a x && e x) (noted (st.ledgers i k).under_way st.clock (st.lists i k)) (st.lists i j)),
      (λ x. cond (a x && e x) (starting p.bytes (st.ledgers i k)) (st.ledgers i j)),
    )

beside_by : (o : Option ℕ) (st : State) (i j : ℕ) → names o j ≡ false → ((crossed_by o st i).lists i j ≡ st.lists i j) × ((crossed_by o st i).ledgers i j ≡ st.ledgers i j)
beside_by None st i j e = (refl, refl)
beside_by (Some k) st i j e = beside_with (next_across st i k) st i k j (ne_eqb j k (λ z. eqb-false k j e (sym z)))

pub head_is : (W w : ℕ) (ps : List Accepted) (n : ℕ) → head_bytes (drop n (stamps W w 0 ps)) ≡ (get_or ps n no_packet).bytes
head_is W w ps n = head_at (stamps W w 0 ps) n ∙ stamp_at_bytes W w ps 0 n no_packet refl

-- a flow of which the same is kept, or the same peak
pub same_cells : {W w t : ℕ} {f : Journeys} {peak : ℕ} {list list' : List Packet} {count count' : ℕ} {l l' : Ledger} → list ≡ list' → count ≡ count' → l ≡ l' → FlowShows W w t f peak list count l → FlowShows W w t f peak list' count' l'
same_cells {W} {w} {t} {f} {peak} {list} {list'} {count} {count'} {l} {l'} a b c h =
    subst (λ (x : List Packet). FlowShows W w t f peak x count' l') a (subst (λ (x : ℕ). FlowShows W w t f peak list x l') b (subst (λ (x : Ledger). FlowShows W w t f peak list count x) c h))

pub same_peak : {W w t : ℕ} {f : Journeys} {peak peak' : ℕ} {list : List Packet} {count : ℕ} {l : Ledger} → peak ≡ peak' → FlowShows W w t f peak list count l → FlowShows W w t f peak' list count l
same_peak {W} {w} {t} {f} {list = list} {count = count} {l = l} e h = subst (λ n. FlowShows W w t f n list count l) e h

-- the inputs start what the law lets them start
pub record InputsStart (st : State) (s : Switch) (cross : ℕ → Option ℕ) (mid : State) : Type 0 where
  pub lawful : (i : ℕ) → i < st.plan.size.ports → LineStarts (ltb s.clock (s.crossing_until i)) (map (input_mark (plan_of st.plan) s i) (range_with_len 0 st.plan.size.ports)) (cross i)
  pub none : (i : ℕ) → st.plan.size.ports ≤ i → cross i ≡ None
  pub done : InputsDone st cross mid

module _ {M : ℕ} {st : State} {log : List (Call × Answer)} {s : Switch} (now : Moment M st log s) {cross : ℕ → Option ℕ} {mid : State} (ins : InputsStart st s cross mid) where
  -- a packet that starts across
  pub record StartsAcross (i j : ℕ) : Type 0 where
    pub input_in : i < st.plan.size.ports
    pub output_in : j < st.plan.size.ports
    pub chosen : cross i ≡ Some j
    pub free : s.crossing_until i ≤ s.clock
    pub there : length (s.flow i j).crossings < length (s.flow i j).accepted
    pub packet : Packet
    pub is : next_across st i j ≡ Some packet
    pub bytes_is : packet.bytes ≡ (get_or (s.flow i j).accepted (length (s.flow i j).crossings) no_packet).bytes
    pub is_small : accepted_bytes (s.flow i j).accepted < 2 ^ 63
    pub until_is : (st.clock + packet.bytes) % 2 ^ 64 ≡ s.clock + packet.bytes

  pub starts_across : (i j : ℕ) → names (cross i) j ≡ true → StartsAcross i j
  starts_across i j e =
      let hi : i < st.plan.size.ports = ⊎_elim (λ (l : i < st.plan.size.ports). l) (λ (l : st.plan.size.ports ≤ i). absurd (true≢false (sym e ∙ ap (λ (o : Option ℕ). names o j) (ins.none i l)))) (cases_lt i st.plan.size.ports) in
      let f = s.flow i j in
      let W = st.plan.size.parts in
      let w = weight_of st.plan i j in
      let b = begins s.clock (s.crossing_until i) (map (input_mark (plan_of st.plan) s i) (range_with_len 0 st.plan.size.ports)) (cross i) j (ins.lawful i hi) e in
      let r = row_mark (input_mark (plan_of st.plan) s i) st.plan.size.ports j b.2.0 b.2.1 in
      let some : length f.crossings < length f.accepted = mark_there W w _ f.accepted (length f.crossings) b.2.0 r.1 in
      let sh = now.shows.flows i j in
      let d = departed s.clock f in
      let u = (st.ledgers i j).under_way in
      let P = packets W w 0 0 f.accepted f.crossings in
      let inside : u < length (st.lists i j) = omega (arith, length_listed now.shows i j, sh.under_way_is, some) in
      let p = nth_there (st.lists i j) u inside in
      let at : slice_get P (length f.crossings) ≡ Some p.0 = ap (slice_get P) sh.under_way_is ∙ sym (nth_drop P d u) ∙ ap (λ (xs : List Packet). slice_get xs u) (sym sh.listed) ∙ p.1 in
      let same_bytes = (packet_is W w 0 0 f.accepted f.crossings (length f.crossings) p.0 at).bytes_is in
      let short : (get_or f.accepted (length f.crossings) no_packet).bytes ≤ st.plan.size.longest =
      All-get_or (λ (q : Accepted). q.bytes ≤ st.plan.size.longest) f.accepted (length f.crossings) no_packet some (steady now i j hi r.0).short in
      let few : st.plan.size.longest ≤ 1500 = st.plan.size.few_bytes in
      let fits : s.clock + p.0.bytes < 2 ^ 64 = omega (arith, same_bytes, short, few, now.shows.early) in
      record {
        input_in = hi;
        output_in = r.0;
        chosen = b.0;
        free = b.1;
        there = some;
        packet = p.0;
        is = p.1;
        bytes_is = same_bytes;
        is_small = accepted_fits now i j;
        until_is = ap (λ n. (n + p.0.bytes) % 2 ^ 64) now.shows.clock_is ∙ mod-eq_of_lt fits;
      }

  -- the cells of the state after the starts
  mid_started : (i j : ℕ) (x : StartsAcross i j) → (mid.lists i j ≡ noted (st.ledgers i j).under_way st.clock (st.lists i j))
      × (mid.ledgers i j ≡ starting x.packet.bytes (st.ledgers i j)) × (mid.crossing i ≡ busy j ((st.clock + x.packet.bytes) % 2 ^ 64))
  mid_started i j x =
      let w = here_with x.packet st i j in (
        ap (λ (r : Row). r.lists j) (ins.done.rows i) ∙ ap (λ (o : Option ℕ). (crossed_by o st i).lists i j) x.chosen ∙ ap (λ (o : Option Packet). (crossed_with o st i j).lists i j) x.is ∙ w.0,
        ap (λ (r : Row). r.ledgers j) (ins.done.rows i) ∙ ap (λ (o : Option ℕ). (crossed_by o st i).ledgers i j) x.chosen ∙ ap (λ (o : Option Packet). (crossed_with o st i j).ledgers i j) x.is ∙ w.1,
        ap (λ (r : Row). r.line) (ins.done.rows i) ∙ ap (λ (o : Option ℕ). (crossed_by o st i).crossing i) x.chosen ∙ ap (λ (o : Option Packet). (crossed_with o st i j).crossing i) x.is ∙ w.2,
      )

  mid_same : (i j : ℕ) → names (cross i) j ≡ false → (mid.lists i j ≡ st.lists i j) × (mid.ledgers i j ≡ st.ledgers i j)
  mid_same i j e =
      let w = beside_by (cross i) st i j e in
      (ap (λ (r : Row). r.lists j) (ins.done.rows i) ∙ w.0, ap (λ (r : Row). r.ledgers j) (ins.done.rows i) ∙ w.1)

  abbrev FlowMid : ℕ → ℕ → Bool → Type 0
  FlowMid i j b =
      FlowShows st.plan.size.parts (weight_of st.plan i j) s.clock record { accepted = (s.flow i j).accepted; crossings = with_start b s.clock (s.flow i j).crossings; sendings = (s.flow i j).sendings }
      (max (s.peak i j) (held s.clock record { accepted = (s.flow i j).accepted; crossings = with_start b s.clock (s.flow i j).crossings; sendings = (s.flow i j).sendings }))
      (mid.lists i j) (mid.counts i j) (mid.ledgers i j)

  mid_flow_by : (i j : ℕ) (b : Bool) → names (cross i) j ≡ b → FlowMid i j b
  mid_flow_by i j true e =
      let x = starts_across i j e in
      let c = mid_started i j x in
      let f = s.flow i j in
      let W = st.plan.size.parts in
      let w = weight_of st.plan i j in
      let sh = now.shows.flows i j in
      let t = s.clock in
      let ps = f.accepted in
      let us = f.crossings in
      let d = departed t f in
      let l = st.ledgers i j in
      let u = l.under_way in
      let b = x.packet.bytes in
      let P = packets W w 0 0 ps us in
      let at : slice_get P (length us) ≡ Some x.packet = ap (slice_get P) sh.under_way_is ∙ sym (nth_drop P d u) ∙ ap (λ (xs : List Packet). slice_get xs u) (sym sh.listed) ∙ x.is in
      let more : bytes_of ps (length (us ++ t ∷ [])) ≡ bytes_of ps (length us) + b = ap (bytes_of ps) (length_push us t) ∙ packet_bytes W w ps 0 0 us (length us) x.packet at in
      let small : bytes_of ps (length us) + b < 2 ^ 64 = omega (arith, more, bytes_le ps (length (us ++ t ∷ [])), x.is_small) in
      let peak : max l.peak ((l.started + b) % 2 ^ 64 - l.departed) ≡ max (s.peak i j) (bytes_of ps (length (us ++ t ∷ [])) - bytes_of ps d) =
      (λ k. max (sh.peak_is k) ((started_exact sh x.is_small k + b) % 2 ^ 64 - departed_exact sh x.is_small k))
      ∙ ap (λ n. max (s.peak i j) (n - bytes_of ps d)) (mod-eq_of_lt small ∙ sym more) in
      let few : u < MOST_STORED = omega (arith, length_listed now.shows i j, sh.under_way_is, x.there, now.shows.few i j) in
      let new = flow_starts W w t f (s.peak i j) (max (s.peak i j) (bytes_of ps (length (us ++ t ∷ [])) - bytes_of ps d)) (st.lists i j) (st.counts i j) l x.packet sh x.there few x.is peak in
      let counts = ap (λ (g : ℕ → ℕ → ℕ). g i j) ins.done.beside.counts_is in
      same_cells (sym (c.0 ∙ ap (λ n. noted u n (st.lists i j)) now.shows.clock_is)) (sym counts) (sym c.1) new
  mid_flow_by i j false e =
      let c = mid_same i j e in
      let sh = now.shows.flows i j in
      let covered : s.peak i j ≡ max (s.peak i j) (held s.clock (s.flow i j)) = omega (arith, peak_covered now i j) in
      let counts = ap (λ (g : ℕ → ℕ → ℕ). g i j) ins.done.beside.counts_is in
      same_cells (sym c.0) (sym counts) (sym c.1) (same_peak covered sh)

  -- each flow after the starts of the inputs
  pub mid_flow : (i j : ℕ) → FlowMid i j (names (cross i) j)
  mid_flow i j = mid_flow_by i j (names (cross i) j) refl

  free_input : (i : ℕ) → i < st.plan.size.ports → s.crossing_until i ≤ s.clock → until_of (st.crossing i) ≤ s.clock
  free_input i hi l = omega (arith, now.shows.inputs i hi, l)

  line_is : (i : ℕ) (o : Option ℕ) → cross i ≡ o → mid.crossing i ≡ (crossed_by o st i).crossing i
  line_is i o e = ap (λ (r : Row). r.line) (ins.done.rows i) ∙ ap (λ (x : Option ℕ). (crossed_by x st i).crossing i) e

  mid_line_by : (i j : ℕ) → i < st.plan.size.ports → j < st.plan.size.ports → (o : Option ℕ) → cross i ≡ o →
      IsOnLine s.clock (s.flow i j).accepted (with_start (names o j) s.clock (s.flow i j).crossings) (loaded_with to_output j (mid.crossing i)) (until_of (mid.crossing i))
  mid_line_by i j hi hj None e =
      subst (λ (line : Line ℕ). IsOnLine s.clock (s.flow i j).accepted (s.flow i j).crossings (loaded_with to_output j line) (until_of line)) (sym (line_is i None e)) (now.shows.across_now i j hi hj)
  mid_line_by i j hi hj (Some k) e =
      let x = starts_across i k (ap (λ (o : Option ℕ). names o k) e ∙ eq-eqb k k refl) in
      let c = mid_started i k x in
      let u : (st.clock + x.packet.bytes) % 2 ^ 64 ≡ s.clock + (get_or (s.flow i k).accepted (length (s.flow i k).crossings) no_packet).bytes = x.until_is ∙ ap (λ n. s.clock + n) x.bytes_is in
      subst (λ (line : Line ℕ). IsOnLine s.clock (s.flow i j).accepted (with_start (eqb k j) s.clock (s.flow i j).crossings) (loaded_with to_output j line) (until_of line)) (sym c.2)
      (line_takes (eqb k j) s.clock (s.flow i j).accepted (s.flow i j).crossings _ (until_of (st.crossing i)) ((st.clock + x.packet.bytes) % 2 ^ 64)
      (steady now i j hi hj).some (free_input i hi x.free) (now.shows.across_now i j hi hj)
      (λ z. let same = eqb-true k j z in (
        subst (λ y. (st.clock + x.packet.bytes) % 2 ^ 64 ≡ s.clock + (get_or (s.flow i y).accepted (length (s.flow i y).crossings) no_packet).bytes) same u,
        subst (λ y. length (s.flow i y).crossings < length (s.flow i y).accepted) same x.there,
      )))

  -- what each input's line carries after the starts
  pub mid_line : (i j : ℕ) → i < st.plan.size.ports → j < st.plan.size.ports →
      IsOnLine s.clock (s.flow i j).accepted (with_start (names (cross i) j) s.clock (s.flow i j).crossings) (loaded_with to_output j (mid.crossing i)) (until_of (mid.crossing i))
  mid_line i j hi hj = mid_line_by i j hi hj (cross i) refl

  until_by : (i : ℕ) → i < st.plan.size.ports → (o : Option ℕ) → cross i ≡ o →
      max (s.clock + 1) (until_of (mid.crossing i)) ≡ max (s.clock + 1) (busy_until s.clock (s.crossing_until i) (λ j. at_input (plan_of st.plan) s i j) o)
  until_by i hi None e = ap (λ (line : Line ℕ). max (s.clock + 1) (until_of line)) (line_is i None e) ∙ omega (arith, now.shows.inputs i hi)
  until_by i hi (Some k) e =
      let x = starts_across i k (ap (λ (o : Option ℕ). names o k) e ∙ eq-eqb k k refl) in
      let c = mid_started i k x in
      ap (λ (line : Line ℕ). max (s.clock + 1) (until_of line)) c.2
      ∙ ap (λ n. max (s.clock + 1) n) (x.until_is ∙ ap (λ n. s.clock + n) (x.bytes_is ∙ sym (head_is (plan_of st.plan).parts (weight_of st.plan i k) (s.flow i k).accepted (length (s.flow i k).crossings))))

  -- until when
  pub mid_until : (i : ℕ) → i < st.plan.size.ports →
      max (s.clock + 1) (until_of (mid.crossing i)) ≡ max (s.clock + 1) (busy_until s.clock (s.crossing_until i) (λ j. at_input (plan_of st.plan) s i j) (cross i))
  mid_until i hi = until_by i hi (cross i) refl
