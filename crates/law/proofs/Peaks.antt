-- What a crosspoint holds and its peak, and the order of a packet's starts, at every moment of a run.
use Rattle.std.proofs.Common.{◌≡◌, ℕ, zero, suc, ◌+◌, ◌-◌, ◌*◌, ◌<◌, ◌≤◌, max, Bool, true, false, cond, ◌&&◌, eqb, leb, ltb, ◌⊎◌, List, [], ◌∷◌, ◌++◌, length, get_or, take, drop, map, Some, None, count_by, Option, sym, refl, ap, ◌∙◌, subst, inl, inr, ⊎_elim, arith}
use Rattle.std.proofs.lemmas.List.{append-nil, take-append-le}
use Rattle.std.proofs.lemmas.List.Sums.{sum_by-cons, sum_by_push, count_by-le-length}
use Rattle.std.proofs.lemmas.Bool.{leb-true, le-leb, lt-leb, cases_lt, cond-false, both_ways, and_parts, eqb-true}
use Rattle.std.specs.List.{range_with_len, AllByRecursion}
use Rattle.std.proofs.ByRecursion.{All-weaker}
use Rattle.timing.specs.Fluid.{Accepted, accepted_bytes}
use Rattle.law.specs.Queues.{Queued, stamps, bytes_of}
use Rattle.law.specs.Journeys.{Journeys, ended, departed, held, held_at, started_by}
use Rattle.law.specs.Step.{Plan, Switch, sealed, has_crossed, ready_out, at_output, output_mark, head_bytes, names, with_start, LineStarts, Starts, started_flow, after_tick}
use Rattle.law.specs.Runs.{Call, Answer, arrived, no_packet}
use Rattle.law.proofs.EndedPackets.{ended_le_starts, ended_more_packets, ended_later}
use Rattle.law.proofs.StampsOfFlow.{stamp_at_bytes}
use Rattle.law.proofs.StartsOfFlow.{Along}
use Rattle.law.proofs.LineByMarks.{chosen}
use Rattle.law.proofs.SwitchInvariant.{Moment}
use Rattle.law.proofs.OneAtATime.{head_at}

-- starts at tick t or later were not made by a tick before t
count_by_push : (u t : ℕ) (us : List ℕ) → u < t → count_by (λ c. leb c u) (us ++ t ∷ []) ≡ count_by (λ c. leb c u) us
count_by_push u t us h = sum_by_push (λ c. cond (leb c u) 1 0) us t ∙ ap (λ b. count_by (λ c. leb c u) us + cond b 1 0) (lt-leb t u h) ∙ omega arith

-- all starts have been made
count_all : (t : ℕ) (us : List ℕ) → AllByRecursion (λ u. u ≤ t) us → count_by (λ c. leb c t) us ≡ length us
count_all t [] all = refl
count_all t (u ∷ us) all = sum_by-cons (λ c. cond (leb c t) 1 0) u us ∙ rw (le-leb u t all.0) (omega (arith, count_all t us all.1))

-- a start at t ends no packet by u, up to t
ended_push : (u t : ℕ) (ps : List Accepted) (vs : List ℕ) → u ≤ t → AllByRecursion (λ p. 0 < p.bytes) ps → ended u ps (vs ++ t ∷ []) ≡ ended u ps vs
unfolding ended
ended_push u t [] vs l some = refl
ended_push u t (p ∷ ps) [] l some = cond-false {A = ℕ} (leb (t + p.bytes) u) _ _ (lt-leb (t + p.bytes) u (omega (arith, some.0)))
ended_push u t (p ∷ ps) (v ∷ vs) l some = ap (λ (n : ℕ). cond (leb (v + p.bytes) u) (suc n) 0) (ended_push u t ps vs l some.1)

-- bytes between two fronts of a list
pub bytes_between : (d n : ℕ) (ps : List Accepted) → d ≤ n → bytes_of ps d + accepted_bytes (drop d (take n ps)) ≡ bytes_of ps n
bytes_between zero n ps l = omega arith
bytes_between (suc d) zero ps l = absurd (omega arith)
bytes_between (suc d) (suc n) [] l = refl
bytes_between (suc d) (suc n) (p ∷ ps) l = omega (arith, bytes_between d n ps (omega arith))

fewer_bytes : (d e : ℕ) (ps : List Accepted) → d ≤ e → accepted_bytes (drop e ps) ≤ accepted_bytes (drop d ps)
fewer_bytes zero zero ps l = omega arith
fewer_bytes zero (suc e) [] l = omega arith
fewer_bytes zero (suc e) (p ∷ ps) l = omega (arith, fewer_bytes zero e ps (omega arith))
fewer_bytes (suc d) zero ps l = absurd (omega arith)
fewer_bytes (suc d) (suc e) [] l = omega arith
fewer_bytes (suc d) (suc e) (p ∷ ps) l = fewer_bytes d e ps (omega arith)

-- What was held at tick u stays as it is: packets that come
pub held_at_arrives : (u : ℕ) (f : Journeys) (mine : Bool) (p : Accepted) → length f.crossings ≤ length f.accepted → length f.sendings ≤ length f.accepted →
    held_at u record { accepted = f.accepted ++ cond mine (p ∷ []) []; crossings = f.crossings; sendings = f.sendings } ≡ held_at u f
held_at_arrives u f true p lc ls =
    let n = started_by u f in
    let few = count_by-le-length (λ c. leb c u) f.crossings in
    (λ k. accepted_bytes (drop (ended_more_packets u f.accepted f.sendings p ls k) (take-append-le n f.accepted (p ∷ []) (omega arith) k)))
held_at_arrives u f false p lc ls = ap (λ (ps : List Accepted). held_at u record { accepted = ps; crossings = f.crossings; sendings = f.sendings }) (append-nil f.accepted)

-- starts at a later tick
started_later : (u t : ℕ) (us : List ℕ) (b : Bool) → u < t → count_by (λ c. leb c u) (with_start b t us) ≡ count_by (λ c. leb c u) us
started_later u t us true h = count_by_push u t us h
started_later u t us false h = refl

ended_with_later_start : (u t : ℕ) (ps : List Accepted) (vs : List ℕ) (b : Bool) → u < t → AllByRecursion (λ p. 0 < p.bytes) ps → ended u ps (with_start b t vs) ≡ ended u ps vs
ended_with_later_start u t ps vs true h some = ended_push u t ps vs (omega arith) some
ended_with_later_start u t ps vs false h some = refl

pub held_at_ticks : (u t : ℕ) (f : Journeys) (across out : Bool) → u < t → AllByRecursion (λ p. 0 < p.bytes) f.accepted →
    held_at u record { accepted = f.accepted; crossings = with_start across t f.crossings; sendings = with_start out t f.sendings } ≡ held_at u f
held_at_ticks u t f across out h some =
    (λ k. accepted_bytes (drop (ended_with_later_start u t f.accepted f.sendings out h some k) (take (started_later u t f.crossings across h k) f.accepted)))

-- what is held once all starts so far have been made
pub held_is : (t : ℕ) (f : Journeys) → AllByRecursion (λ u. u ≤ t) f.crossings → departed t f ≤ length f.crossings → held t f ≡ held_at t f
held_is t f all order =
    let n = count_all t f.crossings all in
    omega (arith, bytes_between (departed t f) (length f.crossings) f.accepted order)
    ∙ ap (λ (k : ℕ). accepted_bytes (drop (departed t f) (take k f.accepted))) (sym n)

-- each packet that has started out had wholly crossed, and started out before t
abbrev pub CrossedFirst : ℕ → List Accepted → List ℕ → List ℕ → Type 0
CrossedFirst t ps us [] = Unit {0}
CrossedFirst t [] us (v ∷ vs) = ⊥
CrossedFirst t (p ∷ ps) [] (v ∷ vs) = ⊥
CrossedFirst t (p ∷ ps) (u ∷ us) (v ∷ vs) = (u + p.bytes ≤ v) × (v < t) × CrossedFirst t ps us vs

first_later : (t t' : ℕ) (ps : List Accepted) (us vs : List ℕ) → t ≤ t' → CrossedFirst t ps us vs → CrossedFirst t' ps us vs
first_later t t' ps us [] l h = tt
first_later t t' [] us (v ∷ vs) l h = absurd h
first_later t t' (p ∷ ps) [] (v ∷ vs) l h = absurd h
first_later t t' (p ∷ ps) (u ∷ us) (v ∷ vs) l h = (h.0, omega (arith, h.1), first_later t t' ps us vs l h.2)

-- packets that come
first_packets : (t : ℕ) (ps qs : List Accepted) (us vs : List ℕ) → CrossedFirst t ps us vs → CrossedFirst t (ps ++ qs) us vs
first_packets t ps qs us [] h = tt
first_packets t [] qs us (v ∷ vs) h = absurd h
first_packets t (p ∷ ps) qs [] (v ∷ vs) h = absurd h
first_packets t (p ∷ ps) qs (u ∷ us) (v ∷ vs) h = (h.0, h.1, first_packets t ps qs us vs h.2)

-- a start across, or none
first_across : (t x : ℕ) (ps : List Accepted) (us vs : List ℕ) → CrossedFirst t ps us vs → CrossedFirst t ps (us ++ x ∷ []) vs
first_across t x ps us [] h = tt
first_across t x [] us (v ∷ vs) h = absurd h
first_across t x (p ∷ ps) [] (v ∷ vs) h = absurd h
first_across t x (p ∷ ps) (u ∷ us) (v ∷ vs) h = (h.0, h.1, first_across t x ps us vs h.2)

first_with_start : (t x : ℕ) (ps : List Accepted) (us vs : List ℕ) (b : Bool) → CrossedFirst t ps us vs → CrossedFirst t ps (with_start b x us) vs
first_with_start t x ps us vs true h = first_across t x ps us vs h
first_with_start t x ps us vs false h = h

-- the next packet has wholly crossed
abbrev NextCrossed : ℕ → Journeys → Type 0
NextCrossed t f =
    (length f.sendings < length f.crossings) × (get_or f.crossings (length f.sendings) 0 + (get_or f.accepted (length f.sendings) no_packet).bytes ≤ t)

first_push : (t : ℕ) (ps : List Accepted) (us vs : List ℕ) → length vs < length ps → length vs < length us → get_or us (length vs) 0 + (get_or ps (length vs) no_packet).bytes ≤ t →
    CrossedFirst t ps us vs → CrossedFirst (t + 1) ps us (vs ++ t ∷ [])
first_push t [] us vs lp lu by h = absurd (omega arith)
first_push t (p ∷ ps) [] vs lp lu by h = absurd (omega arith)
first_push t (p ∷ ps) (u ∷ us) [] lp lu by h = (by, omega arith, tt)
first_push t (p ∷ ps) (u ∷ us) (v ∷ vs) lp lu by h = (h.0, omega (arith, h.1), first_push t ps us vs (omega arith) (omega arith) by h.2)

-- a start out, or none
first_sends : (t : ℕ) (f : Journeys) (b : Bool) → length f.crossings ≤ length f.accepted → (b ≡ true → NextCrossed t f) →
    CrossedFirst t f.accepted f.crossings f.sendings → CrossedFirst (t + 1) f.accepted f.crossings (with_start b t f.sendings)
first_sends t f true order next h = let n = next refl in first_push t f.accepted f.crossings f.sendings (omega (arith, n.0)) n.0 n.1 h
first_sends t f false order next h = first_later t (t + 1) f.accepted f.crossings f.sendings (omega arith) h

pub first_at : (t : ℕ) (ps : List Accepted) (us vs : List ℕ) (k : ℕ) → k < length vs → CrossedFirst t ps us vs → get_or us k 0 + (get_or ps k no_packet).bytes ≤ get_or vs k 0
first_at t ps us [] k l h = absurd (omega arith)
first_at t [] us (v ∷ vs) k l h = absurd h
first_at t (p ∷ ps) [] (v ∷ vs) k l h = absurd h
first_at t (p ∷ ps) (u ∷ us) (v ∷ vs) zero l h = h.0
first_at t (p ∷ ps) (u ∷ us) (v ∷ vs) (suc k) l h = first_at t ps us vs k (omega arith) h.2

-- so all that have started out have crossed
pub first_crossed : (t : ℕ) (ps : List Accepted) (us vs : List ℕ) → CrossedFirst t ps us vs → length vs ≤ ended t ps us
unfolding ended
first_crossed t ps us [] h = omega arith
first_crossed t [] us (v ∷ vs) h = absurd h
first_crossed t (p ∷ ps) [] (v ∷ vs) h = absurd h
first_crossed t (p ∷ ps) (u ∷ us) (v ∷ vs) h = rw (le-leb (u + p.bytes) t (omega (arith, h.0, h.1))) (omega (arith, first_crossed t ps us vs h.2))

has_crossed_at : (t n : ℕ) (us : List ℕ) (a : Queued) → has_crossed t (drop n us) a ≡ true → (n < length us) × (get_or us n 0 + a.bytes ≤ t)
has_crossed_at t zero [] a e = absurd (both_ways false refl e)
has_crossed_at t zero (u ∷ us) a e = (omega arith, leb-true (u + a.bytes) t e)
has_crossed_at t (suc n) [] a e = absurd (both_ways false refl e)
has_crossed_at t (suc n) (u ∷ us) a e = let r = has_crossed_at t n us a e in (omega (arith, r.0), r.1)

along_all : (R : Queued → ℕ → Type 0) (P : ℕ → Type 0) → ((a : Queued) (u : ℕ) → R a u → P u) → (ps : List Queued) (us : List ℕ) → Along R ps us → AllByRecursion P us
along_all R P f ps [] h = tt
along_all R P f [] (u ∷ us) h = absurd h
along_all R P f (a ∷ ps) (u ∷ us) h = (f a u h.0, along_all R P f ps us h.1)

-- held bytes are no more than what the last step read
held_covered : (t peak : ℕ) (f : Journeys) → AllByRecursion (λ u. u < t) f.crossings → departed t f ≤ length f.crossings → ((u : ℕ) → u < t → held_at u f ≤ peak) → held t f ≤ peak
held_covered t peak f all order reads =
    ⊎_elim
    (λ (later : 0 < t).
    let u = t - 1 in
    let next : u + 1 ≡ t = omega arith in
    let by-u = count_all u f.crossings (All-weaker (λ c. c < t) (λ c. c ≤ u) (λ c l. omega arith) f.crossings all) in
    let old = reads u (omega arith) in
    let grows : departed u f ≤ departed t f = subst (λ (v : ℕ). departed u f ≤ departed v f) next (ended_later u f.accepted f.sendings) in
    let now = bytes_between (departed t f) (length f.crossings) f.accepted order in
    let before = ap (λ (n : ℕ). accepted_bytes (drop (departed u f) (take n f.accepted))) by-u in
    omega (arith, now, before, fewer_bytes (departed u f) (departed t f) (take (length f.crossings) f.accepted) grows))
    (λ (first : t ≤ 0). omega (arith, none f.crossings (omega arith) all))
    (cases_lt 0 t)
  where
    none : (us : List ℕ) → t ≡ 0 → AllByRecursion (λ u. u < t) us → bytes_of f.accepted (length us) ≡ 0
    none [] z h = refl
    none (u ∷ us) z h = absurd (omega (arith, h.0))

module _ (plan : Plan) where
  -- what every moment of a run keeps of its peaks and of the order of starts
  pub record Peaked (s : Switch) : Type 0 where
    pub firsts : (i j : ℕ) → i < plan.ports → j < plan.ports → CrossedFirst s.clock (s.flow i j).accepted (s.flow i j).crossings (s.flow i j).sendings
    pub bounds : (i j : ℕ) → i < plan.ports → j < plan.ports → (u : ℕ) → u < s.clock → held_at u (s.flow i j) ≤ s.peak i j
    pub reached : (i j : ℕ) → i < plan.ports → j < plan.ports → ((u : ℕ) × (u < s.clock) × (s.peak i j ≡ held_at u (s.flow i j))) ⊎ ((s.clock ≡ 0) × (s.peak i j ≡ 0))

  pub peaked_seal : Peaked sealed
  peaked_seal = record { firsts = λ i j hi hj. tt; bounds = λ i j hi hj u l. absurd (omega arith); reached = λ i j hi hj. inr (refl, refl) }

  module _ (log : List (Call × Answer)) (s : Switch) (m : Moment plan log s) where
    started_before : (i j : ℕ) → i < plan.ports → j < plan.ports → AllByRecursion (λ u. u < s.clock) (s.flow i j).crossings
    started_before i j hi hj =
        along_all (λ a u. (a.start ≤ plan.weight i j * u) × (u < s.clock)) (λ u. u < s.clock) (λ a u r. r.1) (stamps plan.parts (plan.weight i j) 0 (s.flow i j).accepted) (s.flow i j).crossings (m.flows i j hi hj).begun

    pub in_order : (i j : ℕ) → i < plan.ports → j < plan.ports → departed s.clock (s.flow i j) ≤ length (s.flow i j).crossings
    in_order i j hi hj = omega (arith, ended_le_starts s.clock (s.flow i j).accepted (s.flow i j).sendings, (m.told i j hi hj).out_after_across)

    pub held_as_told : (i j : ℕ) → i < plan.ports → j < plan.ports → held s.clock (s.flow i j) ≡ held_at s.clock (s.flow i j)
    held_as_told i j hi hj =
        held_is s.clock (s.flow i j) (All-weaker (λ u. u < s.clock) (λ u. u ≤ s.clock) (λ u l. omega arith) (s.flow i j).crossings (started_before i j hi hj)) (in_order i j hi hj)

    module _ (p : Peaked s) where
      pub peak_covers_held : (i j : ℕ) → i < plan.ports → j < plan.ports → held s.clock (s.flow i j) ≤ s.peak i j
      peak_covers_held i j hi hj = held_covered s.clock (s.peak i j) (s.flow i j) (started_before i j hi hj) (in_order i j hi hj) (p.bounds i j hi hj)

      pub peaked_arrives : (i₀ j₀ b : ℕ) → Peaked (arrived s i₀ j₀ b)
      peaked_arrives i₀ j₀ b =
          record {
            firsts = λ i j hi hj.
                first_packets s.clock (s.flow i j).accepted (cond (eqb i i₀ && eqb j j₀) (record { arrival = s.clock; bytes = b } ∷ []) []) (s.flow i j).crossings (s.flow i j).sendings (p.firsts i j hi hj);
            bounds = λ i j hi hj u l. subst (λ (n : ℕ). n ≤ s.peak i j) (sym (same i j hi hj u)) (p.bounds i j hi hj u l);
            reached = λ i j hi hj.
                ⊎_elim
                (λ (at : (u : ℕ) × (u < s.clock) × (s.peak i j ≡ held_at u (s.flow i j))). inl (at.0, at.1, at.2 ∙ sym (same i j hi hj at.0)))
                (λ none. inr none)
                (p.reached i j hi hj);
          }
        where
          same : (i j : ℕ) → i < plan.ports → j < plan.ports → (u : ℕ) → held_at u ((arrived s i₀ j₀ b).flow i j) ≡ held_at u (s.flow i j)
          same i j hi hj u =
              let t = m.told i j hi hj in
              held_at_arrives u (s.flow i j) (eqb i i₀ && eqb j j₀) record { arrival = s.clock; bytes = b } t.across_after_in (omega (arith, t.out_after_across, t.across_after_in))

    next_crossed : (j : ℕ) (o : Option ℕ) (busy : Bool) → LineStarts busy (map (output_mark plan s j) (range_with_len 0 plan.ports)) o → (i : ℕ) → names o i ≡ true → NextCrossed s.clock (s.flow i j)
    next_crossed j None busy h i e = absurd (both_ways false refl e)
    next_crossed j (Some k) true h i e = absurd (let z : ◌≡◌ {A = ℕ} 0 1 = cc in omega arith)
    next_crossed j (Some k) false h i e = subst (λ (a : ℕ). NextCrossed s.clock (s.flow a j)) (eqb-true k i e) at_k
      where
        at_k : NextCrossed s.clock (s.flow k j)
        at_k =
            let f = s.flow k j in
            let marked = chosen plan.parts plan.ports (λ a. plan.weight a j) (λ a. at_output plan s a j)
            (λ a. ready_out plan.longest (plan.weight a j) s.clock (drop (length (s.flow a j).sendings) (s.flow a j).crossings)) k h in
            let crossed-by = has_crossed_at s.clock (length f.sendings) f.crossings marked.head (and_parts _ _ marked.is_ready).0 in
            let bytes : marked.head.bytes ≡ (get_or f.accepted (length f.sendings) no_packet).bytes =
            sym (ap head_bytes marked.is_head) ∙ head_at (stamps plan.parts (plan.weight k j) 0 f.accepted) (length f.sendings) ∙ stamp_at_bytes plan.parts (plan.weight k j) f.accepted 0 (length f.sendings) no_packet refl in
            (crossed-by.0, omega (arith, crossed-by.1, bytes))

    -- a tick with its starts, to another moment of the run
    pub peaked_ticks : Peaked s → (cross send : ℕ → Option ℕ) → Starts plan s cross send → (log' : List (Call × Answer)) → Moment plan log' (after_tick plan s cross send) → Peaked (after_tick plan s cross send)
    peaked_ticks p cross send st log' m' =
        record {
          firsts = λ i j hi hj.
              let f = s.flow i j in
              first_with_start (s.clock + 1) s.clock f.accepted f.crossings (with_start (names (send j) i) s.clock f.sendings) (names (cross i) j)
              (first_sends s.clock f (names (send j) i) (m.told i j hi hj).across_after_in (next_crossed j (send j) (ltb s.clock (s.sending_until j)) (st.outputs j hj) i) (p.firsts i j hi hj));
          bounds = λ i j hi hj u l.
              let peak = max (s.peak i j) (held s.clock (next i j)) in
              ⊎_elim
              (λ (old : u < s.clock). omega (arith, p.bounds i j hi hj u old, stays i j hi hj u old))
              (λ (now : s.clock ≤ u). let is : s.clock ≡ u = omega arith in subst (λ (v : ℕ). held_at v (next i j) ≤ peak) is (omega (arith, read i j hi hj)))
              (cases_lt u s.clock);
          reached = λ i j hi hj.
              inl
              (⊎_elim
              (λ (more : s.peak i j < held s.clock (next i j)). (s.clock, omega arith, omega (arith, read i j hi hj)))
              (λ (less : held s.clock (next i j) ≤ s.peak i j).
              ⊎_elim
              (λ (at : (u : ℕ) × (u < s.clock) × (s.peak i j ≡ held_at u (s.flow i j))). (at.0, omega (arith, at.1), omega (arith, at.2, stays i j hi hj at.0 at.1)))
              (λ (none : (s.clock ≡ 0) × (s.peak i j ≡ 0)). (s.clock, omega arith, omega (arith, none.1, read i j hi hj)))
              (p.reached i j hi hj))
              (cases_lt (s.peak i j) (held s.clock (next i j))));
        }
      where
        next : ℕ → ℕ → Journeys
        next i j = started_flow plan s cross send i j

        stays : (i j : ℕ) → i < plan.ports → j < plan.ports → (u : ℕ) → u < s.clock → held_at u (started_flow plan s cross send i j) ≡ held_at u (s.flow i j)
        stays i j hi hj u l = held_at_ticks u s.clock (s.flow i j) (names (cross i) j) (names (send j) i) l (m.told i j hi hj).some_bytes

        -- what the step reads
        read : (i j : ℕ) → i < plan.ports → j < plan.ports → held s.clock (started_flow plan s cross send i j) ≡ held_at s.clock (started_flow plan s cross send i j)
        read i j hi hj =
            let f = started_flow plan s cross send i j in
            let told = m'.told i j hi hj in
            let starts = along_all (λ a u. (a.start ≤ plan.weight i j * u) × (u < s.clock + 1)) (λ u. u ≤ s.clock) (λ a u r. omega (arith, r.1)) (stamps plan.parts (plan.weight i j) 0 f.accepted) f.crossings (m'.flows i j hi hj).begun in
            held_is s.clock f starts (omega (arith, ended_le_starts s.clock f.accepted f.sendings, told.out_after_across))
