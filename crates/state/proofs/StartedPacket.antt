-- What is known of a packet that starts: its line was free, it is there, and it is stored with its number, length and stamps.
use Rattle.std.proofs.Common.{◌≡◌, ℕ, zero, suc, ◌+◌, ◌%◌, ◌^◌, ◌<◌, ◌≤◌, Bool, true, false, ltb, List, [], ◌∷◌, map, length, get_or, drop, Some, None, Option, sym, refl, ap, ◌∙◌, subst, ⊎_elim, arith}
use Rattle.std.proofs.lemmas.List.FromFn.{get_or-map-range_with_len, length-map-range_with_len}
use Rattle.std.proofs.lemmas.List.{get_or_past, length-drop}
use Rattle.std.proofs.lemmas.Bool.{cases_lt, ltb-false, true≢false, eqb-true}
use Rattle.std.specs.List.{slice_get, range_with_len}
use Rattle.timing.specs.Fluid.{Accepted}
use Rattle.timing.specs.Stamps.{stamp_at}
use Rattle.law.specs.Queues.{Queued, finish, stamps}
use Rattle.law.specs.Runs.{no_packet, no_stamp}
use Rattle.law.specs.Step.{VirtualFinish, mark_of, LineStarts, names}
use Rattle.law.proofs.StampsOfFlow.{stamps_length}
use Rattle.store.specs.declared.packet.Packet.{Packet}
use Rattle.state.proofs.Lists.{drop_one}
use Rattle.state.specs.Shows.{packets, packet_of, first_of}

-- a line that starts position k was free, and its row has a mark there
pub begins : (t until : ℕ) (row : List (Option VirtualFinish)) (o : Option ℕ) (k : ℕ) → LineStarts (ltb t until) row o → names o k ≡ true → (o ≡ Some k) × (until ≤ t) × ((m : VirtualFinish) × (get_or row k None ≡ Some m))
begins t until row o k h n = go (ltb t until) refl o h n
  where
    go : (b : Bool) → ltb t until ≡ b → (q : Option ℕ) → LineStarts b row q → names q k ≡ true → (q ≡ Some k) × (until ≤ t) × ((m : VirtualFinish) × (get_or row k None ≡ Some m))
    go b e None l x = absurd (true≢false (sym x))
    go true e (Some c) l x = absurd (cc)
    go false e (Some c) l x =
        let same : c ≡ k = eqb-true c k x in
        (ap (λ (v : ℕ). Some v) same, ltb-false t until e, (l.0, subst (λ v. get_or row v None ≡ Some l.0) same l.1))

pub row_mark : (g : ℕ → Option VirtualFinish) (n k : ℕ) (m : VirtualFinish) → get_or (map g (range_with_len 0 n)) k None ≡ Some m → (k < n) × (g k ≡ Some m)
row_mark g n k m e =
    ⊎_elim
    (λ (l : k < n). (l, sym (get_or-map-range_with_len g 0 n k k None l (omega arith)) ∙ e))
    (λ (l : n ≤ k). absurd (cc (get_or_past (map g (range_with_len 0 n)) k None (omega (arith, length-map-range_with_len g 0 n, l)), e)))
    (cases_lt k n)

mark_some : (W w : ℕ) (ready : Queued → Bool) (qs : List Queued) (m : VirtualFinish) → mark_of W w ready qs ≡ Some m → 0 < length qs
mark_some W w ready [] m e = absurd (cc)
mark_some W w ready (q ∷ qs) m e = omega arith

-- so there is a packet behind the first n
pub mark_there : (W w : ℕ) (ready : Queued → Bool) (ps : List Accepted) (n : ℕ) (m : VirtualFinish) → mark_of W w ready (drop n (stamps W w 0 ps)) ≡ Some m → n < length ps
mark_there W w ready ps n m e = omega (arith, mark_some W w ready (drop n (stamps W w 0 ps)) m e, length-drop n (stamps W w 0 ps), stamps_length W w ps 0)

pub nth_there : {X : Type 0} (xs : List X) (k : ℕ) → k < length xs → (x : X) × (slice_get xs k ≡ Some x)
nth_there [] k l = absurd (omega (arith, l))
nth_there (x ∷ xs) zero l = (x, refl)
nth_there (x ∷ xs) (suc k) l = nth_there xs k (omega (arith, l))

-- the n-th packet of a flow, as it is stored
pub record IsPacket (W w k f : ℕ) (ps : List Accepted) (us : List ℕ) (n : ℕ) (p : Packet) : Type 0 where
  pub serial_is : p.serial ≡ (k + n) % 2 ^ 64
  pub arrival_is : p.arrival ≡ (get_or ps n no_packet).arrival
  pub bytes_is : p.bytes ≡ (get_or ps n no_packet).bytes
  pub finish_is : p.finish ≡ stamp_at w (finish W (get_or (stamps W w f ps) n no_stamp))
  pub crossing_is : p.crossing ≡ first_of (drop n us)

-- so it is stored
pub packet_is : (W w k f : ℕ) (ps : List Accepted) (us : List ℕ) (n : ℕ) (p : Packet) → slice_get (packets W w k f ps us) n ≡ Some p → IsPacket W w k f ps us n p
packet_is W w k f [] us n p e = absurd (cc)
packet_is W w k f (a ∷ ps) us zero p e =
    let same : packet_of W w k f a (first_of us) ≡ p = cc in
    let z : k ≡ k + 0 = omega arith in
    subst (IsPacket W w k f (a ∷ ps) us zero) same
    record { serial_is = ap (λ v. v % 2 ^ 64) z; arrival_is = refl; bytes_is = refl; finish_is = refl; crossing_is = refl }
packet_is W w k f (a ∷ ps) us (suc n) p e =
    let r = packet_is W w (k + 1) _ ps (drop 1 us) n p e in
    let z : k + 1 + n ≡ k + suc n = omega arith in
    record { serial_is = r.serial_is ∙ ap (λ v. v % 2 ^ 64) z; arrival_is = r.arrival_is; bytes_is = r.bytes_is; finish_is = r.finish_is; crossing_is = r.crossing_is ∙ ap first_of (drop_one n us) }
