-- A flow that takes a packet: what is kept of it shows one packet more.
use Rattle.std.proofs.Common.{◌≡◌, ℕ, suc, ◌+◌, ◌%◌, ◌^◌, ◌≤◌, List, [], ◌∷◌, ◌++◌, length, drop, Some, None, sym, refl, ap, ◌∙◌, zero-add, arith}
use native.Mathlib.Nat.{mod-add-mod}
use Rattle.std.proofs.lemmas.List.{length_push, drop-append-le, take-append-le}
use Rattle.std.proofs.ByRecursion.{All-push}
use Rattle.timing.specs.Fluid.{Accepted, accepted_bytes, last_finish}
use Rattle.timing.proofs.Served.{last_finish_push}
use Rattle.timing.specs.Stamps.{last_scaled, scaled_start, scaled_finish, stamp_at}
use Rattle.store.specs.Stored.{numbered}
use Rattle.store.specs.declared.packet.Packet.{Packet}
use Rattle.law.specs.Journeys.{Journeys, departed}
use Rattle.law.specs.Queues.{bytes_of}
use Rattle.law.proofs.EndedPackets.{ended_more_packets, ended_le_packets}
use Rattle.state.specs.declared.line.Ledger.{Ledger}
use Rattle.state.specs.Stamping.{incoming}
use Rattle.state.specs.Arrives.{accepting}
use Rattle.state.specs.Shows.{packet_of, packets, last_stamp, FlowShows}
use Rattle.timing.proofs.Stamped.{scaled_at}

module _ (W w : ℕ) where
  pub last_known : (ps : List Accepted) → last_scaled (last_stamp W w ps) ≡ last_finish W w 0 ps
  last_known [] = refl
  last_known (p ∷ ps) = scaled_at w _

  last_pushed : (ps : List Accepted) (q : Accepted) → last_stamp W w (ps ++ q ∷ []) ≡ Some (stamp_at w (last_finish W w 0 (ps ++ q ∷ [])))
  last_pushed [] q = refl
  last_pushed (p ∷ ps) q = refl

  pub packets_length : (ps : List Accepted) (k f : ℕ) (us : List ℕ) → length (packets W w k f ps us) ≡ length ps
  packets_length [] k f us = refl
  packets_length (p ∷ ps) k f us = ap suc (packets_length ps (k + 1) _ (drop 1 us))

  packets_push : (ps : List Accepted) (k f : ℕ) (us : List ℕ) (q : Accepted) → length us ≤ length ps →
      packets W w k f (ps ++ q ∷ []) us ≡ packets W w k f ps us ++ packet_of W w (k + length ps) (last_finish W w f ps) q None ∷ []
  packets_push [] k f [] q h = ap (λ n. packet_of W w n f q None ∷ []) (omega arith)
  packets_push [] k f (u ∷ us) q h = absurd (omega arith)
  packets_push (p ∷ ps) k f [] q h =
      let f' = scaled_finish W (scaled_start w p.arrival f) p.bytes in
      ap (λ rest. packet_of W w k f p None ∷ rest)
      (packets_push ps (k + 1) f' [] q (omega arith)
      ∙ ap (λ n. packets W w (k + 1) f' ps [] ++ packet_of W w n (last_finish W w f' ps) q None ∷ []) (omega arith))
  packets_push (p ∷ ps) k f (u ∷ us) q h =
      let f' = scaled_finish W (scaled_start w p.arrival f) p.bytes in
      ap (λ rest. packet_of W w k f p (Some u) ∷ rest)
      (packets_push ps (k + 1) f' us q (omega arith)
      ∙ ap (λ n. packets W w (k + 1) f' ps us ++ packet_of W w n (last_finish W w f' ps) q None ∷ []) (omega arith))

  accepted_push : (ps : List Accepted) (q : Accepted) → accepted_bytes (ps ++ q ∷ []) ≡ accepted_bytes ps + q.bytes
  accepted_push [] q = omega arith
  accepted_push (p ∷ ps) q = omega (arith, accepted_push ps q)

  -- a packet of b bytes comes to a flow at tick t
  pub flow_accepts : (t b : ℕ) (f : Journeys) (peak : ℕ) (list : List Packet) (count : ℕ) (l : Ledger) →
      length f.sendings ≤ length f.accepted → length f.crossings ≤ length f.accepted → FlowShows W w t f peak list count l →
      FlowShows W w t record { accepted = f.accepted ++ record { arrival = t; bytes = b } ∷ []; crossings = f.crossings; sendings = f.sendings } peak
      (list ++ numbered count (incoming l.last w t b W) ∷ []) ((count + 1) % 2 ^ 64) (accepting l w t b W)
  flow_accepts t b f peak list count l out across h =
      let q : Accepted = record { arrival = t; bytes = b } in
      let ps = f.accepted in
      let us = f.crossings in
      let f' : Journeys = record { accepted = ps ++ q ∷ []; crossings = us; sendings = f.sendings } in
      let left : departed t f' ≡ departed t f = ended_more_packets t ps f.sendings q out in
      let few : departed t f ≤ length (packets W w 0 0 ps us) = omega (arith, ended_le_packets t ps f.sendings, packets_length ps 0 0 us) in
      let last : last_scaled l.last ≡ last_finish W w 0 ps = ap last_scaled h.last_is ∙ last_known ps in
      let put : numbered count (incoming l.last w t b W) ≡ packet_of W w (length ps) (last_finish W w 0 ps) q None =
      (λ k. record {
        serial = h.numbered k;
        arrival = t;
        bytes = b;
        start = stamp_at w (scaled_start w t (last k));
        finish = stamp_at w (scaled_finish W (scaled_start w t (last k)) b);
        crossing = None;
      }) in
      let pushed : packets W w 0 0 (ps ++ q ∷ []) us ≡ packets W w 0 0 ps us ++ packet_of W w (length ps) (last_finish W w 0 ps) q None ∷ [] =
      packets_push ps 0 0 us q across ∙ ap (λ n. packets W w 0 0 ps us ++ packet_of W w n (last_finish W w 0 ps) q None ∷ []) (zero-add (length ps)) in
      record {
        arrived_by = All-push (λ (p : Accepted). p.arrival ≤ t) ps q h.arrived_by (omega arith);
        listed = (λ k. h.listed k ++ put k ∷ []) ∙ sym ((λ k. drop (left k) (pushed k)) ∙ drop-append-le (departed t f) (packets W w 0 0 ps us) _ few);
        numbered = ap (λ n. (n + 1) % 2 ^ 64) h.numbered ∙ mod-add-mod (length ps) (2 ^ 64) 1 ∙ ap (λ n. n % 2 ^ 64) (sym (length_push ps q));
        last_is = ap (λ v. Some (stamp_at w (scaled_finish W (scaled_start w t v) b))) last ∙ ap (λ v. Some (stamp_at w v)) (sym (last_finish_push W w ps 0 q)) ∙ sym (last_pushed ps q);
        accepted_is = ap (λ n. (n + b) % 2 ^ 64) h.accepted_is ∙ mod-add-mod (accepted_bytes ps) (2 ^ 64) b ∙ ap (λ n. n % 2 ^ 64) (sym (accepted_push ps q));
        started_is = h.started_is ∙ ap (λ (xs : List Accepted). accepted_bytes xs % 2 ^ 64) (sym (take-append-le (length us) ps (q ∷ []) across));
        departed_is = h.departed_is ∙ sym ((λ k. bytes_of (ps ++ q ∷ []) (left k) % 2 ^ 64) ∙ ap (λ (xs : List Accepted). accepted_bytes xs % 2 ^ 64) (take-append-le (departed t f) ps (q ∷ []) (ended_le_packets t ps f.sendings)));
        peak_is = h.peak_is;
        under_way_is = h.under_way_is ∙ ap (λ n. n + l.under_way) (sym left);
      }
