-- The bytes of what has left. Assumes nothing.
use Rattle.std.proofs.Common.{◌≡◌, ℕ, zero, suc, ◌+◌, ◌<◌, ◌≤◌, true, false, eqb, List, [], ◌∷◌, map, length, get_or, take, sum_by, filter, sym, refl, ap, ◌∙◌, ⊎_elim, add-one, arith}
use Rattle.std.proofs.lemmas.Bool.{cond-true, cond-false, eq-eqb, and_from, cases_Bool, and_parts, eqb-true}
use Rattle.std.proofs.lemmas.List.FromFn.{sum_by-map-range_with_len_more}
use Rattle.std.proofs.lemmas.List.Recursion.{is_sum_by}
use Rattle.std.proofs.lemmas.List.Sums.{sum_by-cons, sum_by_more}
use Rattle.std.proofs.lemmas.List.Elements.{All-head, All-tail}
use Rattle.std.specs.List.{range_with_len, All}
use Rattle.departure.specs.declared.Departure.{Departure}
use Rattle.timing.specs.Fluid.{Accepted, accepted_bytes}
use Rattle.law.specs.Journeys.{Journeys}
use Rattle.law.specs.Queues.{bytes_of}
use Rattle.law.specs.Step.{Plan}
use Rattle.law.specs.Runs.{departure, no_packet}
use Rattle.law.specs.Promises.{of_flow}
use Rattle.replay.specs.Events.{bytes_in}
use Rattle.replay.specs.Follows.{over_flows}
use Rattle.replay.proofs.Sums.{flows_none, flows_gain}
use Rattle.replay.proofs.Leaving.{OfPlan}

-- bytes of departures are those of the departures of each flow
module _ (plan : Plan) where
  pub by_flow : (ds : List Departure) → All (OfPlan plan) ds → bytes_in ds ≡ over_flows plan (λ i j. bytes_in (filter (of_flow i j) ds))
  by_flow [] all = sym (flows_none plan)
  by_flow (d ∷ ds) all =
      let here = All-head (OfPlan plan) d ds all in
      let rest = by_flow ds (All-tail (OfPlan plan) d ds all) in
      let gain = flows_gain plan (λ i j. bytes_in (filter (of_flow i j) (d ∷ ds))) (λ i j. bytes_in (filter (of_flow i j) ds)) d.bytes d.input d.output here.0 here.1 mine other in
      omega (arith, sum_by-cons (λ (e : Departure). e.bytes) d ds, rest, gain)
    where
      mine : bytes_in (filter (of_flow d.input d.output) (d ∷ ds)) ≡ d.bytes + bytes_in (filter (of_flow d.input d.output) ds)
      mine =
          ap bytes_in (cond-true (of_flow d.input d.output d) (d ∷ filter (of_flow d.input d.output) ds) (filter (of_flow d.input d.output) ds) (and_from (eqb d.input d.input) (eqb d.output d.output) (eq-eqb d.input d.input refl) (eq-eqb d.output d.output refl)))
          ∙ sum_by-cons (λ (e : Departure). e.bytes) d (filter (of_flow d.input d.output) ds)

      other : (a c : ℕ) → ((a ≡ d.input) × (c ≡ d.output) → ⊥) → bytes_in (filter (of_flow a c) (d ∷ ds)) ≡ bytes_in (filter (of_flow a c) ds)
      other a c ne =
          ⊎_elim
          (λ (t : of_flow a c d ≡ true). let both = and_parts (eqb d.input a) (eqb d.output c) t in absurd (ne (sym (eqb-true d.input a both.0), sym (eqb-true d.output c both.1))))
          (λ (f : of_flow a c d ≡ false). ap bytes_in (cond-false (of_flow a c d) (d ∷ filter (of_flow a c) ds) (filter (of_flow a c) ds) f))
          (cases_Bool (of_flow a c d))

-- those of a flow's first n departures are those of its first n packets
pub accepted_sum : (ps : List Accepted) → accepted_bytes ps ≡ sum_by (λ (p : Accepted). p.bytes) ps
accepted_sum = is_sum_by accepted_bytes (λ (p : Accepted). p.bytes) refl (λ _ _. refl)

pub bytes_more : (ps : List Accepted) (n : ℕ) → n < length ps → bytes_of ps (n + 1) ≡ bytes_of ps n + (get_or ps n no_packet).bytes
bytes_more ps n h = accepted_sum (take (n + 1) ps) ∙ sum_by_more (λ (p : Accepted). p.bytes) ps n no_packet h ∙ ap (λ m. m + (get_or ps n no_packet).bytes) (sym (accepted_sum (take n ps)))

pub bytes_departed : (plan : Plan) (i j : ℕ) (f : Journeys) (n : ℕ) → n ≤ length f.accepted → bytes_in (map (departure plan i j f) (range_with_len 0 n)) ≡ bytes_of f.accepted n
bytes_departed plan i j f zero h = refl
bytes_departed plan i j f (suc n) h =
    let rest = bytes_departed plan i j f n (omega arith) in
    let z : 0 + n ≡ n = omega arith in
    ap (λ m. bytes_in (map (departure plan i j f) (range_with_len 0 m))) (sym (add-one n))
    ∙ sum_by-map-range_with_len_more (λ (d : Departure). d.bytes) (departure plan i j f) 0 n n z
    ∙ ap (λ m. m + (get_or f.accepted n no_packet).bytes) rest
    ∙ sym (bytes_more f.accepted n (omega arith)) ∙ ap (bytes_of f.accepted) (add-one n)
