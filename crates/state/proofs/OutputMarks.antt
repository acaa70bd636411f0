-- The marks at the outputs, after the inputs' starts, are those of the law.
use Rattle.std.proofs.Common.{◌≡◌, ℕ, zero, suc, ◌+◌, ◌*◌, ◌<◌, ◌≤◌, Bool, true, false, cond, ◌&&◌, leb, List, [], ◌∷◌, ◌++◌, length, drop, Some, None, Option, sym, refl, ap, ◌∙◌, ⊎_elim, add-zero, arith}
use Rattle.std.specs.List.{slice_get, AllByRecursion}
use Rattle.std.proofs.ByRecursion.{All-drop}
use Rattle.std.proofs.lemmas.Bool.{lt-leb, cases_lt}
use Rattle.timing.specs.Fluid.{Accepted}
use Rattle.timing.specs.Stamps.{scaled_start, scaled_finish, stamp_at}
use Rattle.timing.proofs.Stamped.{scaled_at, not_zero}
use Rattle.plan.specs.Weights.{weight_of}
use Rattle.store.specs.declared.packet.Packet.{Packet}
use Rattle.law.specs.Journeys.{departed}
use Rattle.law.specs.Plans.{plan_of}
use Rattle.law.specs.Queues.{Queued, stamp, stamps}
use Rattle.law.specs.Runs.{Call, Answer}
use Rattle.law.specs.Step.{Switch, mark_of, ready_out, has_crossed, output_mark, names, with_start}
use Rattle.law.proofs.StampsOfFlow.{stamps_bytes}
use Rattle.state.specs.State.{State}
use Rattle.state.specs.Sends.{mark_out, crossed_by_tick, next_out}
use Rattle.state.specs.Shows.{packets, first_of, packet_of, Moment}
use Rattle.state.proofs.AfterInputStarts.{InputsStart, mid_flow}
use Rattle.state.proofs.FlowOnLine.{line_free}
use Rattle.state.proofs.InputMarks.{as_finish, no_mark}
use Rattle.state.proofs.Lists.{nth_drop, drop_one}
use Rattle.state.proofs.ShownFlows.{not_row, steady, empty_if_shut}

crossed_same : (t : ℕ) (us : List ℕ) (a : Queued) → crossed_by_tick t a.bytes (first_of us) ≡ has_crossed t us a
crossed_same t [] a = refl
crossed_same t (u ∷ us) a = refl

module _ (W w L t : ℕ) (is_open : 0 < w) where
  out_first : (k f : ℕ) (p : Accepted) (us : List ℕ) → as_finish (mark_out L t (Some (packet_of W w k f p (first_of us))))
      ≡ cond (ready_out L w t us (stamp w f p)) (Some record { scaled = scaled_finish W (scaled_start w p.arrival f) p.bytes; weight = w }) None
  out_first k f p us =
      let v = scaled_start w p.arrival f in
      let e = scaled_finish W v p.bytes in
      let n = not_zero w is_open in
      (λ i. as_finish (cond (crossed_same t us (stamp w f p) i && leb (scaled_at w v i + n i * L) (n i * t)) (Some (stamp_at w e)) None))
      ∙ elim (ready_out L w t us (stamp w f p)) as (λ b. as_finish (cond b (Some (stamp_at w e)) None) ≡ cond b (Some record { scaled = e; weight = w }) None) [
        | true ↦ (λ i. Some record { scaled = scaled_at w e i; weight = n i })
        | false ↦ refl
      ]

  -- the mark of the n-th packet at the output
  out_same : (ps : List Accepted) (k f : ℕ) (us : List ℕ) (n : ℕ) → as_finish (mark_out L t (slice_get (packets W w k f ps us) n)) ≡ mark_of W w (ready_out L w t (drop n us)) (drop n (stamps W w f ps))
  out_same [] k f us zero = refl
  out_same [] k f us (suc n) = refl
  out_same (p ∷ ps) k f us zero = out_first k f p us
  out_same (p ∷ ps) k f us (suc n) =
      let f' = scaled_finish W (scaled_start w p.arrival f) p.bytes in
      out_same ps (k + 1) f' (drop 1 us) n ∙ ap (λ (vs : List ℕ). mark_of W w (ready_out L w t vs) (drop n (stamps W w f' ps))) (drop_one n us)

-- a packet that starts across at tick t has not wholly crossed by t
crossed_start : (t : ℕ) (us : List ℕ) (n : ℕ) (a : Queued) → 0 < a.bytes → has_crossed t (drop n (us ++ t ∷ [])) a ≡ has_crossed t (drop n us) a
crossed_start t [] zero a h = lt-leb (t + a.bytes) t (omega (arith, h))
crossed_start t [] (suc zero) a h = refl
crossed_start t [] (suc (suc n)) a h = refl
crossed_start t (u ∷ us) zero a h = refl
crossed_start t (u ∷ us) (suc n) a h = crossed_start t us n a h

-- a start across at t leaves the marks of the outputs at t
mark_kept : (W w L t : ℕ) (b : Bool) (us : List ℕ) (n : ℕ) (qs : List Queued) → AllByRecursion (λ a. 0 < a.bytes) qs → mark_of W w (ready_out L w t (drop n (with_start b t us))) qs ≡ mark_of W w (ready_out L w t (drop n us)) qs
mark_kept W w L t b us n [] some = refl
mark_kept W w L t true us n (a ∷ qs) some =
    ap (λ v. cond (v && leb (a.start + w * L) (w * t)) (Some record { scaled = a.start + W * a.bytes; weight = w }) None) (crossed_start t us n a some.0)
mark_kept W w L t false us n (a ∷ qs) some = refl

module _ {M : ℕ} {st : State} {log : List (Call × Answer)} {s : Switch} (now : Moment M st log s) {cross : ℕ → Option ℕ} {mid : State} (ins : InputsStart st s cross mid) where
  -- the oldest packet of a flow
  pub next_is : (i j : ℕ) → next_out mid i j ≡ slice_get (packets st.plan.size.parts (weight_of st.plan i j) 0 0 (s.flow i j).accepted (with_start (names (cross i) j) s.clock (s.flow i j).crossings)) (departed s.clock (s.flow i j))
  next_is i j =
      let f = mid_flow now ins i j in
      ap (λ (xs : List Packet). slice_get xs 0) f.listed ∙ nth_drop _ (departed s.clock (s.flow i j)) 0 ∙ ap (slice_get (packets _ _ 0 0 (s.flow i j).accepted (with_start (names (cross i) j) s.clock (s.flow i j).crossings))) (add-zero (departed s.clock (s.flow i j)))

  plan_and_clock : (i j : ℕ) → as_finish (mark_out mid.plan.size.longest mid.clock (next_out mid i j)) ≡ as_finish (mark_out st.plan.size.longest s.clock (next_out mid i j))
  plan_and_clock i j = λ k. as_finish (mark_out (ins.done.beside.plan_is k).size.longest ((ins.done.beside.clock_is ∙ now.shows.clock_is) k) (next_out mid i j))

  -- at a free output
  pub output_mark_same : (i j : ℕ) → i < st.plan.size.ports → j < st.plan.size.ports → s.sending_until j ≤ s.clock → as_finish (mark_out mid.plan.size.longest mid.clock (next_out mid i j)) ≡ output_mark (plan_of st.plan) s j i
  output_mark_same i j hi hj free =
      let f = s.flow i j in
      let W = st.plan.size.parts in
      let L = st.plan.size.longest in
      let w = weight_of st.plan i j in
      let t = s.clock in
      let d = departed t f in
      let us = f.crossings in
      let b = names (cross i) j in
      let some : AllByRecursion (λ (a : Queued). 0 < a.bytes) (drop d (stamps W w 0 f.accepted)) = All-drop (λ (a : Queued). 0 < a.bytes) d (stamps W w 0 f.accepted) (stamps_bytes (λ n. 0 < n) W w f.accepted 0 (steady now i j hi hj).some) in
      let none_out : length f.sendings ≡ d = line_free t _ _ _ _ (now.shows.out_now i j hi hj) (omega (arith, now.shows.outputs j hj, free)) in
      plan_and_clock i j
      ∙ ap (λ (o : Option Packet). as_finish (mark_out L t o)) (next_is i j)
      ∙ ⊎_elim
      (λ (pos : 0 < w).
      out_same W w L t pos f.accepted 0 0 (with_start b t us) d ∙ mark_kept W w L t b us d (drop d (stamps W w 0 f.accepted)) some
      ∙ ap (λ n. mark_of W w (ready_out L w t (drop n us)) (drop n (stamps W w 0 f.accepted))) (sym none_out))
      (λ (shut : w ≤ 0).
      let empty : f.accepted ≡ [] = empty_if_shut now i j shut in
      ap (λ (ps : List Accepted). as_finish (mark_out L t (slice_get (packets W w 0 0 ps (with_start b t us)) d))) empty ∙ sym (no_mark W w (ready_out L w t (drop (length f.sendings) us)) f.accepted (length f.sendings) empty))
      (cases_lt 0 w)

  -- and from an input that the switch has not
  pub output_mark_none : (i j : ℕ) → st.plan.size.ports ≤ i → as_finish (mark_out mid.plan.size.longest mid.clock (next_out mid i j)) ≡ None
  output_mark_none i j out =
      let empty = now.shows.outside i j (not_row st.plan i j out) in
      plan_and_clock i j
      ∙ ap (λ (o : Option Packet). as_finish (mark_out st.plan.size.longest s.clock o)) (next_is i j)
      ∙ ap (λ (ps : List Accepted). as_finish (mark_out st.plan.size.longest s.clock (slice_get (packets st.plan.size.parts (weight_of st.plan i j) 0 0 ps (with_start (names (cross i) j) s.clock (s.flow i j).crossings)) (departed s.clock (s.flow i j))))) empty
