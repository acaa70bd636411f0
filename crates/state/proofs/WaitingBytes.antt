-- The bytes that a rule is told to wait at a port are those of the law.
use Rattle.std.proofs.Common.{◌≡◌, ℕ, zero, suc, ◌+◌, ◌-◌, ◌^◌, ◌<◌, ◌≤◌, Bool, true, false, cond, List, [], ◌∷◌, length, take, drop, Some, Option, sym, refl, ap, ◌∙◌, add-zero, arith}
use Rattle.std.specs.List.{slice_get}
use Rattle.std.proofs.lemmas.List.{length_push}
use Rattle.timing.specs.Fluid.{Accepted, accepted_bytes}
use Rattle.store.specs.declared.packet.Packet.{Packet}
use Rattle.law.specs.Journeys.{Journeys, ended, crossed, departed}
use Rattle.law.specs.Queues.{bytes_of}
use Rattle.law.specs.Rules.{bytes_at_input, bytes_at_output}
use Rattle.law.specs.Runs.{Call, Answer}
use Rattle.law.specs.Step.{Switch, names, with_start}
use Rattle.law.specs.Plans.{plan_of}
use Rattle.law.proofs.EndedPackets.{ended_more_starts}
use Rattle.law.proofs.PromisesKept.{sent_crossed}
use Rattle.state.specs.declared.line.Ledger.{Ledger}
use Rattle.state.specs.State.{State, bytes_in}
use Rattle.state.specs.Lines.{carries, to_output}
use Rattle.state.specs.Sends.{crossing_bytes}
use Rattle.state.specs.Shows.{packets, FlowShows, Moment}
use Rattle.state.proofs.AfterInputStarts.{InputsStart, starts_across, mid_flow, mid_line}
use Rattle.state.proofs.ExactTotals.{accepted_exact, started_exact, departed_exact}
use Rattle.state.proofs.FlowOnLine.{line_free}
use Rattle.state.proofs.FlowStartsAcross.{packet_bytes}
use Rattle.state.proofs.FlowTakesPacket.{packets_length}
use Rattle.state.proofs.Lists.{nth_drop}
use Rattle.state.proofs.ShownFlows.{bytes_le, plan_bookable, not_row, steady, starts_in_order, accepted_fits}
use Rattle.state.proofs.StartedPacket.{nth_there}

-- the bytes of a front and of the rest
split_bytes : (ps : List Accepted) (n : ℕ) → accepted_bytes ps ≡ bytes_of ps n + accepted_bytes (drop n ps)
split_bytes [] zero = refl
split_bytes [] (suc n) = refl
split_bytes (p ∷ ps) zero = omega arith
split_bytes (p ∷ ps) (suc n) = omega (arith, split_bytes ps n)

-- and between two fronts
between_bytes : (ps : List Accepted) (d c : ℕ) → d ≤ c → bytes_of ps c ≡ bytes_of ps d + accepted_bytes (drop d (take c ps))
between_bytes [] zero zero h = refl
between_bytes [] zero (suc c) h = refl
between_bytes [] (suc d) zero h = absurd (omega (arith, h))
between_bytes [] (suc d) (suc c) h = refl
between_bytes (p ∷ ps) zero c h = omega arith
between_bytes (p ∷ ps) (suc d) zero h = absurd (omega (arith, h))
between_bytes (p ∷ ps) (suc d) (suc c) h = omega (arith, between_bytes ps d c (omega (arith, h)))

-- of one flow, at its input
wait_in : {W w t : ℕ} {f : Journeys} {peak : ℕ} {list : List Packet} {count : ℕ} {l : Ledger} → FlowShows W w t f peak list count l → accepted_bytes f.accepted < 2 ^ 63 → l.accepted - l.started ≡ bytes_at_input f
wait_in {f = f} h small = (λ k. accepted_exact h small k - started_exact h small k) ∙ omega (arith, split_bytes f.accepted (length f.crossings))

-- and at its output, where so many of its packets have left and c have wholly crossed
wait_out : {W w t : ℕ} {f : Journeys} {peak : ℕ} {list : List Packet} {count : ℕ} {l : Ledger} (c : ℕ) (on : Bool) → FlowShows W w t f peak list count l → accepted_bytes f.accepted < 2 ^ 63 →
    length f.crossings ≤ length f.accepted → length f.crossings ≡ c + cond on 1 0 → departed t f ≤ c →
    l.started - l.departed - cond on (bytes_in (slice_get list (l.under_way - 1))) 0 ≡ accepted_bytes (drop (departed t f) (take c f.accepted))
wait_out {W} {w} {t} {f} {list = list} {l = l} c on h small long is first =
    (λ k. started_exact h small k - departed_exact h small k - cond on (bytes_in (slice_get list (l.under_way - 1))) 0) ∙ by on is
  where
    by : (b : Bool) → length f.crossings ≡ c + cond b 1 0 → bytes_of f.accepted (length f.crossings) - bytes_of f.accepted (departed t f) - cond b (bytes_in (slice_get list (l.under_way - 1))) 0 ≡ accepted_bytes (drop (departed t f) (take c f.accepted))
    by true e =
        let ps = f.accepted in
        let d = departed t f in
        let P = packets W w 0 0 ps f.crossings in
        let u : d + (l.under_way - 1) ≡ c = omega (arith, h.under_way_is, e, first) in
        let p = nth_there P c (omega (arith, packets_length W w ps 0 0 f.crossings, e, long)) in
        let at : slice_get list (l.under_way - 1) ≡ Some p.0 = ap (λ (xs : List Packet). slice_get xs (l.under_way - 1)) h.listed ∙ nth_drop P d (l.under_way - 1) ∙ ap (slice_get P) u ∙ p.1 in
        let more : bytes_of ps (length f.crossings) ≡ bytes_of ps c + p.0.bytes = ap (bytes_of ps) e ∙ packet_bytes W w ps 0 0 f.crossings c p.0 p.1 in
        let same : bytes_in (slice_get list (l.under_way - 1)) ≡ p.0.bytes = ap bytes_in at in
        omega (arith, more, same, between_bytes ps d c first)
    by false e =
        let same : bytes_of f.accepted (length f.crossings) ≡ bytes_of f.accepted c = ap (bytes_of f.accepted) (e ∙ add-zero c) in
        omega (arith, same, between_bytes f.accepted (departed t f) c first)

module _ {M : ℕ} {st : State} {log : List (Call × Answer)} {s : Switch} (now : Moment M st log s) where
  pub wait_at_input : (i j : ℕ) → (st.ledgers i j).accepted - (st.ledgers i j).started ≡ bytes_at_input (s.flow i j)
  wait_at_input i j = wait_in (now.shows.flows i j) (accepted_fits now i j)

  module _ {cross : ℕ → Option ℕ} {mid : State} (ins : InputsStart st s cross mid) where
    crossed_same : (i j : ℕ) → i < st.plan.size.ports → j < st.plan.size.ports → (b : Bool) → ended s.clock (s.flow i j).accepted (with_start b s.clock (s.flow i j).crossings) ≡ crossed s.clock (s.flow i j)
    crossed_same i j hi hj true = ended_more_starts s.clock (s.flow i j).accepted (s.flow i j).crossings (steady now i j hi hj).some
    crossed_same i j hi hj false = refl

    long : (i j : ℕ) → i < st.plan.size.ports → j < st.plan.size.ports → (b : Bool) → names (cross i) j ≡ b → length (with_start b s.clock (s.flow i j).crossings) ≤ length (s.flow i j).accepted
    long i j hi hj true e = omega (arith, length_push (s.flow i j).crossings s.clock, (starts_across now ins i j e).there)
    long i j hi hj false e = (starts_in_order now i j hi hj).1

    -- at a free output, after the inputs' starts
    pub wait_at_output : (i j : ℕ) → i < st.plan.size.ports → j < st.plan.size.ports → s.sending_until j ≤ s.clock →
        (mid.ledgers i j).started - (mid.ledgers i j).departed - crossing_bytes mid i j ≡ bytes_at_output s.clock (s.flow i j)
    wait_at_output i j hi hj free =
        let f = s.flow i j in
        let t = s.clock in
        let us = with_start (names (cross i) j) t f.crossings in
        let c = crossed t f in
        let line = mid.crossing i in
        let on = carries to_output t j line in
        let o = mid_line now ins i j hi hj in
        let same = crossed_same i j hi hj (names (cross i) j) in
        let now-is = ins.done.beside.clock_is ∙ now.shows.clock_is in
        let out : length f.sendings ≡ departed t f = line_free t _ _ _ _ (now.shows.out_now i j hi hj) (omega (arith, now.shows.outputs j hj, free)) in
        let is : length us ≡ c + cond on 1 0 = o.count ∙ ap (λ n. n + cond on 1 0) same in
        let order = sent_crossed (plan_of st.plan) M (plan_bookable st.plan) now.run i j hi hj in
        (λ k. (mid.ledgers i j).started - (mid.ledgers i j).departed - cond (carries to_output (now-is k) j line) (bytes_in (slice_get (mid.lists i j) ((mid.ledgers i j).under_way - 1))) 0)
        ∙ wait_out c on (mid_flow now ins i j) (accepted_fits now i j) (long i j hi hj (names (cross i) j) refl) is (omega (arith, out, order))
        ∙ ap (λ n. accepted_bytes (drop n (take c f.accepted))) (sym out)

    -- and from an input that the switch has not
    pub no_wait_at_output : (i j : ℕ) → st.plan.size.ports ≤ i → (mid.ledgers i j).started - (mid.ledgers i j).departed - crossing_bytes mid i j ≡ 0
    no_wait_at_output i j out =
        let f = s.flow i j in
        let us = with_start (names (cross i) j) s.clock f.crossings in
        let empty = now.shows.outside i j (not_row st.plan i j out) in
        let none : (mid.ledgers i j).started ≡ bytes_of f.accepted (length us) = started_exact (mid_flow now ins i j) (accepted_fits now i j) in
        omega (arith, none, bytes_le f.accepted (length us), ap accepted_bytes empty)

  -- where there are no packets, no bytes wait
  pub empty_at_input : (i j : ℕ) → (s.flow i j).accepted ≡ [] → bytes_at_input (s.flow i j) ≡ 0
  empty_at_input i j e = ap (λ (ps : List Accepted). accepted_bytes (drop (length (s.flow i j).crossings) ps)) e ∙ none (length (s.flow i j).crossings)
    where
      none : (n : ℕ) → accepted_bytes (drop n []) ≡ 0
      none zero = refl
      none (suc n) = refl
