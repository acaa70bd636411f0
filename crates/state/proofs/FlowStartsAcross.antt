-- A flow of which a packet starts across: what is kept of it shows one start more.
use Rattle.std.proofs.Common.{◌≡◌, ℕ, zero, suc, ◌+◌, ◌-◌, ◌%◌, ◌^◌, ◌<◌, max, List, [], ◌∷◌, ◌++◌, length, drop, Some, sym, refl, ap, ◌∙◌, mod-eq_of_lt, zero-add, arith}
use native.Mathlib.Nat.{mod-add-mod}
use Rattle.std.proofs.lemmas.List.{length_push}
use Rattle.std.specs.List.{slice_get}
use Rattle.timing.specs.Fluid.{Accepted}
use Rattle.store.specs.declared.meaning.TheConstants.{MOST_STORED}
use Rattle.store.specs.Stored.{noted}
use Rattle.store.specs.declared.packet.Packet.{Packet}
use Rattle.law.specs.Journeys.{Journeys, departed}
use Rattle.law.specs.Queues.{bytes_of}
use Rattle.state.specs.declared.line.Ledger.{Ledger}
use Rattle.state.specs.Crosses.{starting}
use Rattle.state.specs.Shows.{packets, packet_of, first_of, FlowShows}
use Rattle.state.proofs.Lists.{nth_drop}

noted_drop : (u t d : ℕ) (xs : List Packet) → noted u t (drop d xs) ≡ drop d (noted (d + u) t xs)
noted_drop u t zero xs = ap (λ n. noted n t xs) (sym (zero-add u))
noted_drop u t (suc d) [] = refl
noted_drop u t (suc d) (x ∷ xs) = noted_drop u t d xs ∙ ap (λ n. drop (suc d) (noted n t (x ∷ xs))) e
  where
    e : suc (d + u) ≡ suc d + u
    e = omega arith

module _ (W w : ℕ) where
  packets_start : (t : ℕ) (ps : List Accepted) (k f : ℕ) (us : List ℕ) → length us < length ps → packets W w k f ps (us ++ t ∷ []) ≡ noted (length us) t (packets W w k f ps us)
  packets_start t [] k f us h = absurd (omega arith)
  packets_start t (p ∷ ps) k f [] h = refl
  packets_start t (p ∷ ps) k f (u ∷ us) h = ap (λ rest. packet_of W w k f p (Some u) ∷ rest) (packets_start t ps (k + 1) _ us (omega arith))

  pub packet_bytes : (ps : List Accepted) (k f : ℕ) (us : List ℕ) (n : ℕ) (p : Packet) → slice_get (packets W w k f ps us) n ≡ Some p → bytes_of ps (n + 1) ≡ bytes_of ps n + p.bytes
  packet_bytes [] k f us n p e = absurd (cc)
  packet_bytes (a ∷ ps) k f us zero p e = let same : packet_of W w k f a (first_of us) ≡ p = cc in omega (arith, ap (λ (x : Packet). x.bytes) same)
  packet_bytes (a ∷ ps) k f us (suc n) p e = omega (arith, packet_bytes ps (k + 1) _ (drop 1 us) n p e, ap (λ m. bytes_of (a ∷ ps) m) s)
    where
      s : suc n + 1 ≡ suc (n + 1)
      s = omega arith

  pub flow_starts : (t : ℕ) (f : Journeys) (peak peak' : ℕ) (list : List Packet) (count : ℕ) (l : Ledger) (p : Packet) →
      FlowShows W w t f peak list count l → length f.crossings < length f.accepted → l.under_way < MOST_STORED → slice_get list l.under_way ≡ Some p →
      max l.peak ((l.started + p.bytes) % 2 ^ 64 - l.departed) ≡ peak' →
      FlowShows W w t record { accepted = f.accepted; crossings = f.crossings ++ t ∷ []; sendings = f.sendings } peak' (noted l.under_way t list) count (starting p.bytes l)
  flow_starts t f peak peak' list count l p h some few is pe =
      let ps = f.accepted in
      let us = f.crossings in
      let d = departed t f in
      let small : l.under_way + 1 < 2 ^ 64 = omega (arith, few) in
      let wrap : (l.under_way + 1) % 2 ^ 64 ≡ l.under_way + 1 = mod-eq_of_lt small in
      let u = l.under_way in
      let P = packets W w 0 0 ps us in
      let there : slice_get P (length us) ≡ Some p = ap (slice_get P) h.under_way_is ∙ sym (nth_drop P d u) ∙ ap (λ (xs : List Packet). slice_get xs u) (sym h.listed) ∙ is in
      let more : bytes_of ps (length (us ++ t ∷ [])) ≡ bytes_of ps (length us) + p.bytes = ap (bytes_of ps) (length_push us t) ∙ packet_bytes ps 0 0 us (length us) p there in
      record {
        arrived_by = h.arrived_by;
        listed = ap (noted u t) h.listed ∙ noted_drop u t d P ∙ ap (λ n. drop d (noted n t P)) (sym h.under_way_is) ∙ ap (drop d) (sym (packets_start t ps 0 0 us some));
        numbered = h.numbered;
        last_is = h.last_is;
        accepted_is = h.accepted_is;
        started_is = ap (λ n. (n + p.bytes) % 2 ^ 64) h.started_is ∙ mod-add-mod (bytes_of ps (length us)) (2 ^ 64) p.bytes ∙ ap (λ n. n % 2 ^ 64) (sym more);
        departed_is = h.departed_is;
        peak_is = pe;
        under_way_is = omega (arith, length_push us t, h.under_way_is, wrap);
      }
