-- The marks at the inputs, which are stamps, are those of the law, which are fractions.
use Rattle.std.proofs.Common.{◌≡◌, ℕ, zero, suc, ◌+◌, ◌*◌, ◌<◌, ◌≤◌, Bool, true, false, cond, not, ◌&&◌, leb, List, [], ◌∷◌, map, length, drop, Some, None, Option, sym, refl, ap, ◌∙◌, ⊎_elim}
use Rattle.std.specs.List.{slice_get}
use Rattle.std.proofs.lemmas.Bool.{cases_lt}
use Rattle.timing.specs.Fluid.{Accepted}
use Rattle.timing.specs.Marks.{none_before, stands_first, tied}
use Rattle.timing.specs.Order.{earlier_is_before}
use Rattle.timing.specs.Stamps.{scaled, earlier, scaled_start, scaled_finish, stamp_at}
use Rattle.timing.specs.declared.Stamp.{Stamp}
use Rattle.timing.proofs.Stamped.{scaled_at, not_zero}
use Rattle.plan.specs.Weights.{weight_of}
use Rattle.store.specs.declared.packet.Packet.{Packet}
use Rattle.law.specs.Journeys.{departed}
use Rattle.law.specs.Plans.{plan_of}
use Rattle.law.specs.Queues.{stamps, Queued}
use Rattle.law.specs.Runs.{Call, Answer}
use Rattle.law.specs.Step.{Switch, VirtualFinish, sooner, mark_of, ready_across, input_mark}
use Rattle.state.specs.State.{State}
use Rattle.state.specs.Crosses.{mark_across, next_across}
use Rattle.state.specs.Shows.{packets, first_of, packet_of, Moment}
use Rattle.state.proofs.Lists.{nth_drop}
use Rattle.state.proofs.ShownFlows.{empty_if_shut}

-- a stamp as a fraction
abbrev pub finish_of_stamp : Stamp → VirtualFinish
finish_of_stamp m = record { scaled = scaled m; weight = m.weight }

abbrev pub as_finish : Option Stamp → Option VirtualFinish
as_finish None = None
as_finish (Some m) = Some (finish_of_stamp m)

none_same : (row : List (Option Stamp)) (m : Stamp) → none_before sooner (map as_finish row) (finish_of_stamp m) ≡ none_before earlier row m
none_same [] m = refl
none_same (None ∷ row) m = none_same row m
none_same (Some x ∷ row) m = ap (λ v. not v && none_before sooner (map as_finish row) (finish_of_stamp m)) (sym (earlier_is_before x m)) ∙ ap (λ v. not (earlier x m) && v) (none_same row m)

stands_same : (row : List (Option Stamp)) (o : Option Stamp) → stands_first sooner (map as_finish row) (as_finish o) ≡ stands_first earlier row o
stands_same row None = refl
stands_same row (Some m) = none_same row m

tied_go : (row part : List (Option Stamp)) → map (stands_first sooner (map as_finish row)) (map as_finish part) ≡ map (stands_first earlier row) part
tied_go row [] = refl
tied_go row (o ∷ part) = λ k. stands_same row o k ∷ tied_go row part k

-- so the same marks are tied
pub tied_same : (row : List (Option Stamp)) → tied sooner (map as_finish row) ≡ tied earlier row
tied_same row = tied_go row row

-- the mark of a flow's n-th packet at its input
module _ (W w t : ℕ) (is_open : 0 < w) where
  mark_first : (k f : ℕ) (p : Accepted) (across : Option ℕ) → as_finish (mark_across t (Some (packet_of W w k f p across)))
      ≡ cond (leb (scaled_start w p.arrival f) (w * t)) (Some record { scaled = scaled_finish W (scaled_start w p.arrival f) p.bytes; weight = w }) None
  mark_first k f p across =
      let v = scaled_start w p.arrival f in
      let e = scaled_finish W v p.bytes in
      let n = not_zero w is_open in
      (λ i. as_finish (cond (leb (scaled_at w v i) (n i * t)) (Some (stamp_at w e)) None))
      ∙ elim (leb v (w * t)) as (λ b. as_finish (cond b (Some (stamp_at w e)) None) ≡ cond b (Some record { scaled = e; weight = w }) None) [
        | true ↦ (λ i. Some record { scaled = scaled_at w e i; weight = n i })
        | false ↦ refl
      ]

  pub mark_same : (ps : List Accepted) (k f : ℕ) (us : List ℕ) (n : ℕ) → as_finish (mark_across t (slice_get (packets W w k f ps us) n)) ≡ mark_of W w (ready_across w t) (drop n (stamps W w f ps))
  mark_same [] k f us zero = refl
  mark_same [] k f us (suc n) = refl
  mark_same (p ∷ ps) k f us zero = mark_first k f p (first_of us)
  mark_same (p ∷ ps) k f us (suc n) = mark_same ps (k + 1) _ (drop 1 us) n

-- a flow that has no packets has no mark
pub no_mark : (W w : ℕ) (ready : Queued → Bool) (ps : List Accepted) (n : ℕ) → ps ≡ [] → mark_of W w ready (drop n (stamps W w 0 ps)) ≡ None
no_mark W w ready ps zero e = ap (λ (qs : List Accepted). mark_of W w ready (stamps W w 0 qs)) e
no_mark W w ready ps (suc n) e = ap (λ (qs : List Accepted). mark_of W w ready (drop (suc n) (stamps W w 0 qs))) e

-- the mark at input i of its next packet to output j
pub input_mark_same : {M : ℕ} {st : State} {log : List (Call × Answer)} {s : Switch} → Moment M st log s → (i j : ℕ) → as_finish (mark_across st.clock (next_across st i j)) ≡ input_mark (plan_of st.plan) s i j
input_mark_same {M} {st} {log} {s} now i j =
    let f = s.flow i j in
    let w = weight_of st.plan i j in
    let W = st.plan.size.parts in
    let sh = now.shows.flows i j in
    let d = departed s.clock f in
    let there : next_across st i j ≡ slice_get (packets W w 0 0 f.accepted f.crossings) (length f.crossings) =
    ap (λ (xs : List Packet). slice_get xs (st.ledgers i j).under_way) sh.listed ∙ nth_drop _ d (st.ledgers i j).under_way ∙ ap (slice_get (packets W w 0 0 f.accepted f.crossings)) (sym sh.under_way_is) in
    (λ k. as_finish (mark_across (now.shows.clock_is k) (there k)))
    ∙ ⊎_elim
    (λ (pos : 0 < w). mark_same W w s.clock pos f.accepted 0 0 f.crossings (length f.crossings))
    (λ (shut : w ≤ 0).
    let empty : f.accepted ≡ [] = empty_if_shut now i j shut in
    ap (λ (ps : List Accepted). as_finish (mark_across s.clock (slice_get (packets W w 0 0 ps f.crossings) (length f.crossings)))) empty
    ∙ sym (no_mark W w (ready_across w s.clock) f.accepted (length f.crossings) empty))
    (cases_lt 0 w)
