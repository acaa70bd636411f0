-- A flow over a tick: nothing of it leaves, or its oldest packet does.
use Rattle.std.proofs.Common.{◌≡◌, ℕ, zero, suc, ◌+◌, ◌%◌, ◌^◌, ◌<◌, ◌≤◌, true, false, cond, leb, List, [], ◌∷◌, length, get_or, drop, Some, sym, refl, ap, ◌∙◌, ⊎_elim, add-zero, zero-add, arith}
use Rattle.std.proofs.lemmas.Bool.{cases_lt, le-leb, lt-leb}
use Rattle.law.specs.Journeys.{ended}
use native.Mathlib.Nat.{mod-add-mod}
use Rattle.std.proofs.ByRecursion.{All-weaker}
use Rattle.std.specs.List.{slice_get}
use Rattle.std.proofs.lemmas.List.{drop-drop, nil_from_length}
use Rattle.timing.specs.Fluid.{Accepted}
use Rattle.store.specs.declared.packet.Packet.{Packet}
use Rattle.law.specs.Journeys.{Journeys, departed}
use Rattle.law.specs.Queues.{bytes_of}
use Rattle.state.specs.declared.line.Ledger.{Ledger}
use Rattle.state.specs.Finishes.{departing}
use Rattle.state.specs.Shows.{packets, FlowShows}
use Rattle.state.proofs.Lists.{nth_drop}
use Rattle.state.proofs.FlowStartsAcross.{packet_bytes}

module _ {W w t : ℕ} {f : Journeys} {peak : ℕ} {list : List Packet} {count : ℕ} {l : Ledger} (h : FlowShows W w t f peak list count l) where
  -- nothing leaves
  pub flow_stays : departed (t + 1) f ≡ departed t f → FlowShows W w (t + 1) f peak list count l
  flow_stays e =
      record {
        arrived_by = All-weaker (λ (p : Accepted). p.arrival ≤ t) (λ (p : Accepted). p.arrival ≤ t + 1) (λ p a. omega (arith, a)) f.accepted h.arrived_by;
        listed = h.listed ∙ ap (λ n. drop n (packets W w 0 0 f.accepted f.crossings)) (sym e);
        numbered = h.numbered;
        last_is = h.last_is;
        accepted_is = h.accepted_is;
        started_is = h.started_is;
        departed_is = h.departed_is ∙ ap (λ n. bytes_of f.accepted n % 2 ^ 64) (sym e);
        peak_is = h.peak_is;
        under_way_is = h.under_way_is ∙ ap (λ n. n + l.under_way) (sym e);
      }

  -- its oldest packet leaves
  pub oldest_leaves : (p : Packet) → departed (t + 1) f ≡ departed t f + 1 → departed t f < length f.crossings → slice_get list 0 ≡ Some p → FlowShows W w (t + 1) f peak (drop 1 list) count (departing p.bytes l)
  oldest_leaves p e some is =
      let d = departed t f in
      let P = packets W w 0 0 f.accepted f.crossings in
      let there : slice_get P d ≡ Some p = ap (slice_get P) (sym (add-zero d)) ∙ sym (nth_drop P d 0) ∙ ap (λ (xs : List Packet). slice_get xs 0) (sym h.listed) ∙ is in
      let more = packet_bytes W w f.accepted 0 0 f.crossings d p there in
      record {
        arrived_by = All-weaker (λ (q : Accepted). q.arrival ≤ t) (λ (q : Accepted). q.arrival ≤ t + 1) (λ q a. omega (arith, a)) f.accepted h.arrived_by;
        listed = ap (drop 1) h.listed ∙ drop-drop 1 d P ∙ ap (λ n. drop n P) (sym e);
        numbered = h.numbered;
        last_is = h.last_is;
        accepted_is = h.accepted_is;
        started_is = h.started_is;
        departed_is = ap (λ n. (n + p.bytes) % 2 ^ 64) h.departed_is ∙ mod-add-mod (bytes_of f.accepted d) (2 ^ 64) p.bytes ∙ ap (λ n. n % 2 ^ 64) (sym more) ∙ ap (λ n. bytes_of f.accepted n % 2 ^ 64) (sym e);
        peak_is = h.peak_is;
        under_way_is = omega (arith, h.under_way_is, e, some);
      }

-- nothing that has not started has ended
ended_none : (t : ℕ) (ps : List Accepted) → ended t ps [] ≡ 0
unfolding ended
ended_none t [] = refl
ended_none t (p ∷ ps) = refl

-- all that was sent but the last had ended by t: by t + 1 the last has too, or not
pub ended_next : (t : ℕ) (ps : List Accepted) (vs : List ℕ) (n : ℕ) (d : Accepted) → ended t ps vs ≡ n → length vs ≡ n + 1 → n < length ps →
    ended (t + 1) ps vs ≡ n + cond (leb (get_or vs n 0 + (get_or ps n d).bytes) (t + 1)) 1 0
unfolding ended
ended_next t [] vs n d e l h = absurd (omega arith)
ended_next t (p ∷ ps) [] n d e l h = absurd (omega arith)
ended_next t (p ∷ ps) (v ∷ vs) zero d e l h =
    let alone : vs ≡ [] = nil_from_length vs (omega (arith, l)) in
    ap (λ (us : List ℕ). cond (leb (v + p.bytes) (t + 1)) (suc (ended (t + 1) ps us)) 0) alone
    ∙ ap (λ m. cond (leb (v + p.bytes) (t + 1)) (suc m) 0) (ended_none (t + 1) ps)
    ∙ sym (zero-add (cond (leb (v + p.bytes) (t + 1)) 1 0))
ended_next t (p ∷ ps) (v ∷ vs) (suc n) d e l h =
    ⊎_elim
    (λ (not-yet : t < v + p.bytes).
    let no-end : leb (v + p.bytes) t ≡ false = lt-leb (v + p.bytes) t not-yet in
    let z : 0 ≡ suc n = ap (λ b. cond b (suc (ended t ps vs)) 0) (sym no-end) ∙ e in
    absurd (omega (arith, z)))
    (λ (done : v + p.bytes ≤ t).
    let now-ended : leb (v + p.bytes) t ≡ true = le-leb (v + p.bytes) t done in
    let still : leb (v + p.bytes) (t + 1) ≡ true = le-leb (v + p.bytes) (t + 1) (omega (arith, done)) in
    let rest : suc (ended t ps vs) ≡ suc n = ap (λ b. cond b (suc (ended t ps vs)) 0) (sym now-ended) ∙ e in
    let more = ended_next t ps vs n d (omega (arith, rest)) (omega (arith, l)) (omega (arith, h)) in
    ap (λ b. cond b (suc (ended (t + 1) ps vs)) 0) still ∙ omega (arith, more))
    (cases_lt t (v + p.bytes))
