-- A line of the switch as a port: it keeps the invariant of a port, and what it starts is on time.
use Rattle.std.proofs.Common.{◌≡◌, ℕ, ◌+◌, ◌*◌, ◌<◌, ◌≤◌, Bool, true, false, cond, ltb, List, [], ◌∷◌, ◌++◌, map, length, drop, set, sym, refl, ap, ◌∙◌, subst, inl, inr, ⊎_elim, arith}
use Rattle.std.specs.List.{range_with_len, AllByRecursion}
use Rattle.std.proofs.lemmas.List.FromFn.{get_or-map-range_with_len, length-map-range_with_len}
use Rattle.std.proofs.ByRecursion.{All-get_or, All-weaker}
use Rattle.std.proofs.lemmas.List.{length_push, drop-append-le, drop-drop}
use Rattle.std.proofs.lemmas.Bool.{cases_eq, cases_Bool, ltb-true, lt-ltb}
use Rattle.std.proofs.lemmas.Simd.{map-map}
use Rattle.grid.specs.Flows.{sum_below}
use Rattle.timing.specs.Fluid.{Accepted, last_finish}
use Rattle.timing.proofs.Served.{last_finish_push}
use Rattle.law.specs.Queues.{Queued, finish, stamp, stamps}
use Rattle.law.specs.Port.{Side, Head, Within, lateness}
use Rattle.law.proofs.Service.{Carried}
use Rattle.law.proofs.PortSteps.{ServedFlow, ServedPort, ServedUnready, DueBy, ServedPrecedes, ServedTakes, InTime, served_unused, closed, served_flow_at, served_accepting, served_taking}
use Rattle.law.proofs.ConstantShare.{at_share, constant, constants_open, on_one_line, within, due_before}
use Rattle.law.proofs.Lists.{map_same, map_set_at, all_map_counting, sum_counting, count_counting}
use Rattle.law.proofs.StampsOfFlow.{stamps_length, stamps_push}
use Rattle.law.proofs.PortInvariant.{Chain, Chained, Sound}
use Rattle.law.proofs.StartsOfFlow.{Along, along_push}
use Rattle.law.proofs.LineSteps.{First, Starts}
use Rattle.law.proofs.PortInvariantKept.{opened_sound, arrives_sound, sends_sound, idles_sound, takes_sound}
use Rattle.law.proofs.PortOnTime.{head_within, flow_within}

-- the packets behind the next one
drop_next : {X : Type 0} (xs rest : List X) (k : ℕ) (a : X) → drop k xs ≡ a ∷ rest → drop (k + 1) xs ≡ rest
drop_next xs rest k a e = sym (drop-drop 1 k xs) ∙ ap (drop 1) e

head_join : (P Q : Queued → Type 0) (R : Queued → Type 0) → ((a : Queued) → P a → Q a → R a) → (ps : List Queued) → Head P ps → Head Q ps → Head R ps
head_join P Q R f [] p q = tt
head_join P Q R f (a ∷ ps) p q = f a p q

-- the flow at a port that has taken the first k of its packets
abbrev pub seen : ℕ → ℕ → List Accepted → ℕ → ServedFlow
seen W w ps k = record { carried = at_share w; is_open = ltb 0 w; waiting = drop k (stamps W w 0 ps); last = last_finish W w 0 ps }

-- a packet accepted at tick t comes to it
pub seen_accepts : (W w : ℕ) (ps : List Accepted) (k t b : ℕ) → k ≤ length ps → seen W w (ps ++ record { arrival = t; bytes = b } ∷ []) k ≡ served_accepting W t b (seen W w ps k)
seen_accepts W w ps k t b h =
    let q : Accepted = record { arrival = t; bytes = b } in
    let within : k ≤ length (stamps W w 0 ps) = rw stamps_length h in
    let waits : drop k (stamps W w 0 (ps ++ q ∷ [])) ≡ drop k (stamps W w 0 ps) ++ stamp w (last_finish W w 0 ps) q ∷ [] =
    ap (drop k) (stamps_push W w ps 0 q) ∙ drop-append-le k (stamps W w 0 ps) (stamp w (last_finish W w 0 ps) q ∷ []) within in
    λ i. record { carried = at_share w; is_open = ltb 0 w; waiting = waits i; last = last_finish_push W w ps 0 q i }

-- the line as a port: of each flow, the packets not started yet
abbrev pub view : ℕ → ℕ → (ℕ → ℕ) → (ℕ → List Accepted) → (ℕ → List ℕ) → ℕ → ℕ → ServedPort
view W n weight ps starts l t =
    record { flows = map (λ m. seen W (weight m) (ps m) (length (starts m))) (range_with_len 0 n); left = l; clock = t }

module _ (side : Side) (W L n o : ℕ) (weight : ℕ → ℕ) (ps : ℕ → List Accepted) (ready : ℕ → Queued → Bool) (starts starts' : ℕ → List ℕ) (l l' t : ℕ) (some : 0 < L) (s : Sound side W L o (view W n weight ps starts l t)) where
  abbrev waits : ℕ → List Queued
  waits m = drop (length (starts m)) (stamps W (weight m) 0 (ps m))

  abbrev flow : ℕ → ServedFlow
  flow m = seen W (weight m) (ps m) (length (starts m))

  abbrev flow' : ℕ → ServedFlow
  flow' m = seen W (weight m) (ps m) (length (starts' m))

  flow_is : (k : ℕ) → k < n → served_flow_at (view W n weight ps starts l t) k ≡ flow k
  flow_is k h = get_or-map-range_with_len flow 0 n k k (served_unused closed) h (omega arith)

  same_flows : ((m : ℕ) → m < n → starts' m ≡ starts m) → map flow' (range_with_len 0 n) ≡ map flow (range_with_len 0 n)
  same_flows same = map_same flow' flow n (λ m h. ap (λ us. seen W (weight m) (ps m) (length us)) (same m h))

  -- a flow that has a packet is open
  open_heads : (m : ℕ) → m < n → Head (λ _. 0 < weight m) (waits m)
  open_heads m h =
      let p = view W n weight ps starts l t in
      let long : m < length p.flows = rw length-map-range_with_len h in
      head_open (weight m) (waits m) (last_finish W (weight m) 0 (ps m)) (subst (Chained W L) (flow_is m h) (All-get_or (Chained W L) p.flows m (served_unused closed) long s.chains))
    where
      head_open : (w : ℕ) (qs : List Queued) (last : ℕ) → Chain W L (ltb 0 w) 0 qs last → Head (λ _. 0 < w) qs
      head_open w [] last c = tt
      head_open w (a ∷ more) last c = ltb-true 0 w c.0

  -- the head that the line takes ends on time
  pub start_within : (k : ℕ) (a : Queued) (rest : List Queued) → k < n → l ≡ 0 → waits k ≡ a ∷ rest → Within (lateness side L o) (weight k) (finish W a) (t + a.bytes)
  start_within k a rest h free e =
      let p = view W n weight ps starts l t in
      let long : k < length p.flows = rw length-map-range_with_len h in
      let on_time = head_within side W L o p s k a rest long (ap (λ (f : ServedFlow). f.waiting) (flow_is k h) ∙ e) in
      let here = subst (λ (c : Carried). InTime (lateness side L o) c (finish W a) (t + l + a.bytes)) (ap (λ (f : ServedFlow). f.carried) (flow_is k h)) on_time in
      subst (λ (v : ℕ). Within (lateness side L o) (weight k) (finish W a) (v + a.bytes)) (free_is free) (within (lateness side L o) (weight k) (finish W a) (t + l + a.bytes) here)
    where
      free_is : l ≡ 0 → t + l ≡ t
      free_is z = omega arith

  module _ (unready : (m : ℕ) → m < n → Head (λ b. ready m b ≡ false → ServedUnready side W L t (at_share (weight m)) b) (waits m)) where
    line_takes : (k : ℕ) (a : Queued) (rest : List Queued) → k < n → l ≡ 0 → waits k ≡ a ∷ rest → First W n weight waits ready t k a → l' + 1 ≡ a.bytes → starts' k ≡ starts k ++ t ∷ [] → ((m : ℕ) → m < n → (m ≡ k → ⊥) → starts' m ≡ starts m) → ServedTakes side W L k a (view W n weight ps starts l t) (view W n weight ps starts' l' (t + 1))
    line_takes k a rest h free e first left here others =
        let p = view W n weight ps starts l t in
        let is-flow = flow_is k h in
        let precedes : AllByRecursion (λ f. Head (ServedPrecedes side W L t (at_share (weight k)) a f.carried) f.waiting) p.flows =
        all_map_counting (λ f. Head (ServedPrecedes side W L t (at_share (weight k)) a f.carried) f.waiting) flow n (served_unused closed)
        (λ m i. head_join (λ b. ready m b ≡ false → ServedUnready side W L t (at_share (weight m)) b)
        (λ b. ready m b ≡ true → (num den : ℕ) → 0 < den → DueBy W num den (at_share (weight m)) b → DueBy W num den (at_share (weight k)) a)
        (ServedPrecedes side W L t (at_share (weight k)) a (at_share (weight m)))
        (λ b u v. ⊎_elim (λ (yes' : ready m b ≡ true). inr (v yes')) (λ (no' : ready m b ≡ false). inl (u no')) (cases_Bool (ready m b)))
        (waits m) (unready m i)
        (head_join (λ _. 0 < weight m) (λ b. ready m b ≡ true → finish W a * weight m ≤ finish W b * weight k)
        (λ b. ready m b ≡ true → (num den : ℕ) → 0 < den → DueBy W num den (at_share (weight m)) b → DueBy W num den (at_share (weight k)) a)
        (λ b pos v is_ready. due_before W (weight k) (weight m) a b pos (v is_ready))
        (waits m) (open_heads m i) (first m i))) in
        let next : length (starts' k) ≡ length (starts k) + 1 = ap length here ∙ length_push (starts k) t in
        let rest-is : drop (length (starts' k)) (stamps W (weight k) 0 (ps k)) ≡ rest =
        ap (λ v. drop v (stamps W (weight k) 0 (ps k))) next ∙ drop_next (stamps W (weight k) 0 (ps k)) rest (length (starts k)) a e in
        let taken : flow' k ≡ served_taking rest (served_flow_at p k) =
        ap (λ more. served_taking more (flow k)) rest-is ∙ ap (served_taking rest) (sym is-flow) in
        record {
          free = free;
          among = rw length-map-range_with_len h;
          rest = rest;
          is_head = ap (λ (f : ServedFlow). f.waiting) is-flow ∙ e;
          first = subst (λ (c : Carried). AllByRecursion (λ f. Head (ServedPrecedes side W L t c a f.carried) f.waiting) p.flows) (ap (λ (f : ServedFlow). f.carried) (sym is-flow)) precedes;
          flows_are =
              map_set_at flow flow' n k h (λ m i ne. ap (λ us. seen W (weight m) (ps m) (length us)) (others m i ne))
              ∙ ap (set p.flows k) taken;
          left_is = left;
          clock_is = refl;
        }

    -- the line is sound after the tick
    pub line_sound : Starts W n weight waits ready t starts starts' l l' → Sound side W L o (view W n weight ps starts' l' (t + 1))
    line_sound (Starts.busy left same) =
        sends_sound W L side o (view W n weight ps starts l t) (view W n weight ps starts' l' (t + 1)) s
        (record { flows_are = same_flows same; left_is = left; clock_is = refl })
    line_sound (Starts.idle free left none same) =
        idles_sound side W L o (view W n weight ps starts l t) (view W n weight ps starts' l' (t + 1)) some s
        (record {
          free = free;
          none_ready =
              all_map_counting (λ f. Head (ServedUnready side W L t f.carried) f.waiting) flow n (served_unused closed)
              (λ m i. head_join (λ b. ready m b ≡ false → ServedUnready side W L t (at_share (weight m)) b) (λ b. ready m b ≡ false) (ServedUnready side W L t (at_share (weight m)))
              (λ b u v. u v) (waits m) (unready m i) (none m i));
          flows_are = same_flows same;
          left_is = left;
          clock_is = refl;
        })
    line_sound (Starts.takes k a rest h free e is_ready first left here others) =
        takes_sound side W L o k a (view W n weight ps starts l t) (view W n weight ps starts' l' (t + 1)) s
        (line_takes k a rest h free e first left here others)

  -- what holds of each start so far, and of a ready head that ends on time and starts now, holds of each start after the tick
  pub starts_along : (R : ℕ → Queued → ℕ → Type 0) → ((k : ℕ) (a : Queued) → k < n → ready k a ≡ true → Within (lateness side L o) (weight k) (finish W a) (t + a.bytes) → R k a t) → ((m : ℕ) → m < n → Along (R m) (stamps W (weight m) 0 (ps m)) (starts m)) → Starts W n weight waits ready t starts starts' l l' → (m : ℕ) → m < n → Along (R m) (stamps W (weight m) 0 (ps m)) (starts' m)
  starts_along R now before (Starts.busy left same) m i = subst (Along (R m) (stamps W (weight m) 0 (ps m))) (sym (same m i)) (before m i)
  starts_along R now before (Starts.idle free left none same) m i = subst (Along (R m) (stamps W (weight m) 0 (ps m))) (sym (same m i)) (before m i)
  starts_along R now before (Starts.takes k a rest h free e is_ready first left here others) m i =
      ⊎_elim
      (λ (z : m ≡ k).
      let at_k : Along (R k) (stamps W (weight k) 0 (ps k)) (starts k ++ t ∷ []) =
      along_push (R k) (stamps W (weight k) 0 (ps k)) (starts k) a rest t (before k h) e (now k a h is_ready (start_within k a rest h free e)) in
      let there : Along (R k) (stamps W (weight k) 0 (ps k)) (starts' k) = subst (Along (R k) (stamps W (weight k) 0 (ps k))) (sym here) at_k in
      subst (λ (v : ℕ). Along (R v) (stamps W (weight v) 0 (ps v)) (starts' v)) (sym z) there)
      (λ (ne : m ≡ k → ⊥). subst (Along (R m) (stamps W (weight m) 0 (ps m))) (sym (others m i ne)) (before m i))
      (cases_eq m k)

-- the line before anything has come
pub line_opens : (side : Side) (W L n : ℕ) (weight : ℕ → ℕ) (ps : ℕ → List Accepted) (starts : ℕ → List ℕ) (l t : ℕ) → sum_below n weight ≤ W → ((m : ℕ) → ps m ≡ []) → ((m : ℕ) → starts m ≡ []) → l ≡ 0 → t ≡ 0 → Sound side W L (sum_below n (λ k. cond (ltb 0 (weight k)) 1 0)) (view W n weight ps starts l t)
line_opens side W L n weight ps starts l t h no-ps no-starts free zero-clock =
    let weights = map weight (range_with_len 0 n) in
    opened_sound W L side (sum_below n (λ k. cond (ltb 0 (weight k)) 1 0)) (map constant weights) (view W n weight ps starts l t)
    (on_one_line W weights (omega (arith, sum_counting weight n, h)))
    (omega (arith, constants_open weights, count_counting weight n))
    (record {
      flows_are =
          map_same (λ m. seen W (weight m) (ps m) (length (starts m))) (λ m. served_unused (constant (weight m))) n
          (λ m _. ap (λ us. seen W (weight m) (ps m) (length us)) (no-starts m) ∙ ap (λ as'. seen W (weight m) as' 0) (no-ps m))
          ∙ sym (map-map (λ w. served_unused (constant w)) weight (range_with_len 0 n))
          ∙ sym (map-map served_unused constant weights);
      left_is = free;
      clock_is = zero-clock;
    })

-- a packet comes to the line, or to none of its flows
module _ (side : Side) (W L n o : ℕ) (weight : ℕ → ℕ) (ps ps' : ℕ → List Accepted) (starts : ℕ → List ℕ) (l t : ℕ) (s : Sound side W L o (view W n weight ps starts l t)) where
  pub line_stays : ((m : ℕ) → m < n → ps' m ≡ ps m) → Sound side W L o (view W n weight ps' starts l t)
  line_stays same =
      subst (λ fs. Sound side W L o (record { flows = fs; left = l; clock = t }))
      (map_same (λ m. seen W (weight m) (ps m) (length (starts m))) (λ m. seen W (weight m) (ps' m) (length (starts m))) n
      (λ m h. ap (λ as'. seen W (weight m) as' (length (starts m))) (sym (same m h))))
      s

  pub line_gets : (k b : ℕ) → k < n → 0 < weight k → 0 < b → b ≤ L → length (starts k) ≤ length (ps k) → ps' k ≡ ps k ++ record { arrival = t; bytes = b } ∷ [] → ((m : ℕ) → m < n → (m ≡ k → ⊥) → ps' m ≡ ps m) → Sound side W L o (view W n weight ps' starts l t)
  line_gets k b h pos some short room here others =
      let p = view W n weight ps starts l t in
      let is-flow = flow_of k h in
      let came : seen W (weight k) (ps' k) (length (starts k)) ≡ served_accepting W t b (served_flow_at p k) =
      ap (λ as'. seen W (weight k) as' (length (starts k))) here
      ∙ seen_accepts W (weight k) (ps k) (length (starts k)) t b room
      ∙ ap (served_accepting W t b) (sym is-flow) in
      arrives_sound W L side o k b p (view W n weight ps' starts l t) s
      (record {
        among = rw length-map-range_with_len h;
        is_open = ap (λ (f : ServedFlow). f.is_open) is-flow ∙ lt-ltb 0 (weight k) pos;
        some_bytes = some;
        not_long = short;
        flows_are =
            map_set_at (λ m. seen W (weight m) (ps m) (length (starts m))) (λ m. seen W (weight m) (ps' m) (length (starts m))) n k h
            (λ m i ne. ap (λ as'. seen W (weight m) as' (length (starts m))) (others m i ne))
            ∙ ap (set p.flows k) came;
        left_is = refl;
        clock_is = refl;
      })
    where
      flow_of : (m : ℕ) → m < n → served_flow_at (view W n weight ps starts l t) m ≡ seen W (weight m) (ps m) (length (starts m))
      flow_of m i = get_or-map-range_with_len (λ m. seen W (weight m) (ps m) (length (starts m))) 0 n m m (served_unused closed) i (omega arith)

  -- each packet that waits at the line can be on time
  pub line_within : (k : ℕ) → k < n → AllByRecursion (λ a. Within (lateness side L o) (weight k) (finish W a) (t + l + a.bytes)) (drop (length (starts k)) (stamps W (weight k) 0 (ps k)))
  line_within k h =
      let p = view W n weight ps starts l t in
      let long : k < length p.flows = rw length-map-range_with_len h in
      let c = lateness side L o in
      let waits = drop (length (starts k)) (stamps W (weight k) 0 (ps k)) in
      let in_time = subst (λ (f : ServedFlow). AllByRecursion (λ a. InTime c f.carried (finish W a) (t + l + a.bytes)) f.waiting)
      (get_or-map-range_with_len (λ m. seen W (weight m) (ps m) (length (starts m))) 0 n k k (served_unused closed) h (omega arith))
      (flow_within side W L o p s k long) in
      All-weaker (λ a. InTime c (at_share (weight k)) (finish W a) (t + l + a.bytes)) (λ a. Within c (weight k) (finish W a) (t + l + a.bytes))
      (λ a i. within c (weight k) (finish W a) (t + l + a.bytes) i) waits in_time
