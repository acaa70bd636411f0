-- What the log tells of a flow is what its journeys are.
use Rattle.std.proofs.Common.{◌≡◌, ℕ, ◌+◌, ◌-◌, ◌<◌, ◌≤◌, Bool, true, false, cond, List, [], ◌∷◌, ◌++◌, map, length, get_or, sym, refl, ap, ◌∙◌, subst, arith}
use Rattle.std.proofs.ByRecursion.{All-push}
use Rattle.std.proofs.lemmas.List.{append-nil, get_or_append_left, length_push, map-append}
use Rattle.std.specs.List.{range_with_len, AllByRecursion}
use Rattle.timing.specs.Fluid.{Accepted}
use Rattle.law.specs.Queues.{finish, stamps}
use Rattle.law.specs.Journeys.{Journeys, departed}
use Rattle.law.specs.Step.{Plan, with_start}
use Rattle.departure.specs.declared.Departure.{Departure}
use Rattle.law.specs.Runs.{departure_with, departure, finish_at, flow_leaves, no_packet, no_stamp}
use Rattle.law.proofs.EndedPackets.{ended_le_starts, ended_le_packets, ended_more_packets, ended_more_starts, ended_later}
use Rattle.law.proofs.Lists.{counting_parts, map_same}
use Rattle.law.proofs.StampsOfFlow.{stamps_length, stamps_push}

-- the accepted packets and the departures of flow (i, j) with journeys f at tick t
pub record Told (plan : Plan) (t : ℕ) (acc : List Accepted) (deps : List Departure) (i j : ℕ) (f : Journeys) : Type 0 where
  pub out_after_across : length f.sendings ≤ length f.crossings
  pub across_after_in : length f.crossings ≤ length f.accepted
  pub some_bytes : AllByRecursion (λ p. 0 < p.bytes) f.accepted
  pub accepted_is : acc ≡ f.accepted
  pub departures_is : deps ≡ map (departure plan i j f) (range_with_len 0 (departed t f))

module _ (plan : Plan) (i j : ℕ) where
  -- a packet more
  module _ (f : Journeys) (p : Accepted) where
    grown : Journeys
    grown = record { accepted = f.accepted ++ p ∷ []; crossings = f.crossings; sendings = f.sendings }

    grown_departure : (k : ℕ) → k < length f.accepted → departure plan i j f k ≡ departure plan i j grown k
    unfolding grown
    grown_departure k l =
        let W = plan.parts in
        let w = plan.weight i j in
        let packet = get_or_append_left f.accepted (p ∷ []) no_packet k l in
        let stamp = ap (λ xs. get_or xs k no_stamp) (stamps_push W w f.accepted 0 p)
        ∙ get_or_append_left (stamps W w 0 f.accepted) _ no_stamp k (rw stamps_length l) in
        ap (λ (q : Accepted). departure_with plan i j k q (get_or f.crossings k 0) (get_or f.sendings k 0) (finish_at plan i j f k)) (sym packet)
        ∙ ap (λ (v : ℕ). departure_with plan i j k (get_or (f.accepted ++ p ∷ []) k no_packet) (get_or f.crossings k 0) (get_or f.sendings k 0) v) (ap (finish W) (sym stamp))

    pub departure_grown : (k : ℕ) → k < length f.accepted → departure plan i j f k ≡ departure plan i j record { accepted = f.accepted ++ p ∷ []; crossings = f.crossings; sendings = f.sendings } k
    unfolding grown
    departure_grown k l = grown_departure k l

    pub told_arrival : (t : ℕ) (acc : List Accepted) (deps : List Departure) → 0 < p.bytes → Told plan t acc deps i j f →
        Told plan t (acc ++ p ∷ []) (deps ++ []) i j record { accepted = f.accepted ++ p ∷ []; crossings = f.crossings; sendings = f.sendings }
    unfolding grown
    told_arrival t acc deps some h =
        let same = ended_more_packets t f.accepted f.sendings p (omega (arith, h.out_after_across, h.across_after_in)) in
        record {
          out_after_across = h.out_after_across;
          across_after_in = omega (arith, h.across_after_in, length_push f.accepted p);
          some_bytes = All-push (λ (q : Accepted). 0 < q.bytes) f.accepted p h.some_bytes some;
          accepted_is = ap (λ (xs : List Accepted). xs ++ p ∷ []) h.accepted_is;
          departures_is =
              append-nil deps ∙ h.departures_is
              ∙ map_same (departure plan i j f) (departure plan i j grown) (departed t f)
              (λ k l. grown_departure k (omega (arith, ended_le_packets t f.accepted f.sendings)))
              ∙ ap (λ (n : ℕ). map (departure plan i j grown) (range_with_len 0 n)) (sym same);
        }

  -- nothing for this flow
  pub told_other : (t : ℕ) (acc : List Accepted) (deps : List Departure) (f : Journeys) → Told plan t acc deps i j f → Told plan t (acc ++ []) (deps ++ []) i j f
  told_other t acc deps f h =
      record {
        out_after_across = h.out_after_across;
        across_after_in = h.across_after_in;
        some_bytes = h.some_bytes;
        accepted_is = append-nil acc ∙ h.accepted_is;
        departures_is = append-nil deps ∙ h.departures_is;
      }

  -- an arrival, to this flow or to another
  pub told_arrives : (b : Bool) (p : Accepted) (t : ℕ) (acc : List Accepted) (deps : List Departure) (f : Journeys) → (b ≡ true → 0 < p.bytes) → Told plan t acc deps i j f →
      Told plan t (acc ++ cond b (p ∷ []) []) (deps ++ []) i j record { accepted = f.accepted ++ cond b (p ∷ []) []; crossings = f.crossings; sendings = f.sendings }
  told_arrives true p t acc deps f some h = told_arrival f p t acc deps (some refl) h
  told_arrives false p t acc deps f some h =
      subst (λ (xs : List Accepted). Told plan t (acc ++ []) (deps ++ []) i j record { accepted = xs; crossings = f.crossings; sendings = f.sendings })
      (sym (append-nil f.accepted)) (told_other t acc deps f h)

get_or_noted : (b : Bool) (t : ℕ) (us : List ℕ) (k : ℕ) → k < length us → get_or (with_start b t us) k 0 ≡ get_or us k 0
get_or_noted true t us k l = get_or_append_left us (t ∷ []) 0 k l
get_or_noted false t us k l = refl

length_noted : (b : Bool) (t : ℕ) (us : List ℕ) → length us ≤ length (with_start b t us)
length_noted true t us = omega (arith, length_push us t)
length_noted false t us = omega arith

noted_le : (b : Bool) (t : ℕ) (us : List ℕ) (n : ℕ) → length us ≤ n → (b ≡ true → length us < n) → length (with_start b t us) ≤ n
noted_le true t us n l h = omega (arith, length_push us t, h refl)
noted_le false t us n l h = l

pub ended_noted : (b : Bool) (t : ℕ) (f : Journeys) (us : List ℕ) → AllByRecursion (λ p. 0 < p.bytes) f.accepted → departed t record { accepted = f.accepted; crossings = us; sendings = with_start b t f.sendings } ≡ departed t f
ended_noted true t f us some = ended_more_starts t f.accepted f.sendings some
ended_noted false t f us some = refl

-- a tick, with the starts of this flow
module _ (plan : Plan) (i j t : ℕ) (f : Journeys) (across out : Bool) where
  ticked : Journeys
  ticked = record { accepted = f.accepted; crossings = with_start across t f.crossings; sendings = with_start out t f.sendings }

  pub told_tick : (acc : List Accepted) (deps : List Departure) → (across ≡ true → length f.crossings < length f.accepted) → (out ≡ true → length f.sendings < length f.crossings) →
      Told plan t acc deps i j f →
      Told plan (t + 1) (acc ++ []) (deps ++ flow_leaves plan t (t + 1) i j record { accepted = f.accepted; crossings = with_start across t f.crossings; sendings = with_start out t f.sendings }) i j
      record { accepted = f.accepted; crossings = with_start across t f.crossings; sendings = with_start out t f.sendings }
  unfolding ticked
  told_tick acc deps more-across more-out h =
      let d = departed t f in
      let e = departed (t + 1) ticked in
      let same : departed t ticked ≡ d = ended_noted out t f (with_start across t f.crossings) h.some_bytes in
      let grows : d ≤ e = omega (arith, ended_later t f.accepted (with_start out t f.sendings)) in
      let started = ended_le_starts t f.accepted f.sendings in
      let old = map_same (departure plan i j f) (departure plan i j ticked) d
      (λ k l.
      ap (λ (v : ℕ). departure_with plan i j k (get_or f.accepted k no_packet) v (get_or f.sendings k 0) (finish_at plan i j f k))
      (sym (get_or_noted across t f.crossings k (omega (arith, h.out_after_across))))
      ∙ ap (λ (v : ℕ). departure_with plan i j k (get_or f.accepted k no_packet) (get_or (with_start across t f.crossings) k 0) v (finish_at plan i j f k))
      (sym (get_or_noted out t f.sendings k (omega arith)))) in
      let parts : range_with_len 0 d ++ range_with_len d (e - d) ≡ range_with_len 0 e =
      let z : 0 + d ≡ d = omega arith in
      let y : d + (e - d) ≡ e = omega arith in
      ap (λ (n : ℕ). range_with_len 0 d ++ range_with_len n (e - d)) (sym z) ∙ counting_parts 0 d (e - d) ∙ ap (λ (n : ℕ). range_with_len 0 n) y in
      record {
        out_after_across = noted_le out t f.sendings _ (omega (arith, h.out_after_across, length_noted across t f.crossings)) (λ b. omega (arith, more-out b, length_noted across t f.crossings));
        across_after_in = noted_le across t f.crossings _ h.across_after_in more-across;
        some_bytes = h.some_bytes;
        accepted_is = append-nil acc ∙ h.accepted_is;
        departures_is =
            ap (λ (xs : List Departure). xs ++ flow_leaves plan t (t + 1) i j ticked) (h.departures_is ∙ old)
            ∙ ap (λ (n : ℕ). map (departure plan i j ticked) (range_with_len 0 d) ++ map (departure plan i j ticked) (range_with_len n (e - n))) same
            ∙ sym (map-append (departure plan i j ticked) (range_with_len 0 d) (range_with_len d (e - d)))
            ∙ ap (λ (ks : List ℕ). map (departure plan i j ticked) ks) parts;
      }
