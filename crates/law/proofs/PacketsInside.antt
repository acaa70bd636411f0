-- How many packets are inside, by arrivals and ticks.
use Rattle.std.proofs.Common.{◌≡◌, ℕ, zero, suc, ◌+◌, ◌<◌, ◌≤◌, Bool, true, false, cond, ◌&&◌, eqb, List, [], ◌∷◌, ◌++◌, sum_by, Option, sym, refl, ap, ◌∙◌, subst, ⊎_elim, arith}
use Rattle.std.proofs.lemmas.List.Sums.{sum_by-cons}
use Rattle.std.proofs.lemmas.List.{append-nil, length_push}
use Rattle.std.proofs.lemmas.Bool.{and_left, and_right, ne_eqb, cases_eq}
use Rattle.std.specs.List.{range_with_len}
use Rattle.timing.specs.Fluid.{Accepted}
use Rattle.law.specs.Journeys.{inside}
use Rattle.law.specs.Step.{Plan, Switch, sealed, names, with_start, started_flow, after_tick}
use Rattle.law.specs.Runs.{Call, Answer, arrived, all_inside}
use Rattle.law.proofs.EndedPackets.{ended_more_packets, ended_later}
use Rattle.law.proofs.LogOfFlow.{ended_noted}
use Rattle.law.proofs.SwitchInvariant.{Moment}

-- sums over the numbers from a on, term by term
sum_none : (f : ℕ → ℕ) (a n : ℕ) → ((k : ℕ) → f k ≡ 0) → sum_by f (range_with_len a n) ≡ 0
sum_none f a zero h = refl
sum_none f a (suc n) h = omega (arith, sum_by-cons f a (range_with_len (a + 1) n), h a, sum_none f (a + 1) n h)

sum_no_more : (f g : ℕ → ℕ) (a n : ℕ) → ((k : ℕ) → a ≤ k → k < a + n → f k ≤ g k) → sum_by f (range_with_len a n) ≤ sum_by g (range_with_len a n)
sum_no_more f g a zero h = omega arith
sum_no_more f g a (suc n) h =
    omega (
      arith,
      sum_by-cons f a (range_with_len (a + 1) n),
      sum_by-cons g a (range_with_len (a + 1) n),
      h a (omega arith) (omega arith),
      sum_no_more f g (a + 1) n (λ k low high. h k (omega arith) (omega arith)),
    )

-- the same, where the term at i may be one more
sum_one_more : (f g : ℕ → ℕ) (i a n : ℕ) → ((k : ℕ) → k < a + n → (k ≡ i → ⊥) → f k ≤ g k) → (i < a + n → f i ≤ g i + 1) → sum_by f (range_with_len a n) ≤ sum_by g (range_with_len a n) + 1
sum_one_more f g i a zero h one = omega arith
sum_one_more f g i a (suc n) h one =
    let heads = sum_by-cons f a (range_with_len (a + 1) n) in
    let heads' = sum_by-cons g a (range_with_len (a + 1) n) in
    ⊎_elim
    (λ (e : a ≡ i).
    let here : f a ≤ g a + 1 = subst (λ (k : ℕ). f k ≤ g k + 1) (sym e) (one (omega (arith, e))) in
    omega (arith, heads, heads', here, sum_no_more f g (a + 1) n (λ k low high. h k (omega arith) (λ same. omega (arith, same, e)))))
    (λ (ne : a ≡ i → ⊥). omega (arith, heads, heads', h a (omega arith) ne, sum_one_more f g i (a + 1) n (λ k l. h k (omega arith)) (λ l. one (omega arith))))
    (cases_eq a i)

pub none_inside : (plan : Plan) → all_inside plan sealed ≡ 0
none_inside plan = sum_none (λ i. sum_by (λ j. inside 0 (sealed.flow i j)) (range_with_len 0 plan.ports)) 0 plan.ports (λ i. sum_none (λ j. inside 0 (sealed.flow i j)) 0 plan.ports (λ j. omega arith))

module _ (plan : Plan) (log : List (Call × Answer)) (s : Switch) (m : Moment plan log s) where
  -- an arrival adds one packet
  module _ (i₀ j₀ b : ℕ) where
    comes : (i j : ℕ) (mine : Bool) → (eqb i i₀ && eqb j j₀) ≡ mine → i < plan.ports → j < plan.ports → inside s.clock ((arrived s i₀ j₀ b).flow i j) ≤ inside s.clock (s.flow i j) + cond mine 1 0
    comes i j true e hi hj =
        let f = s.flow i j in
        let t = m.told i j hi hj in
        let p : Accepted = record { arrival = s.clock; bytes = b } in
        let here = ap (λ (v : Bool). inside s.clock record { accepted = f.accepted ++ cond v (p ∷ []) []; crossings = f.crossings; sendings = f.sendings }) e in
        omega (arith, here, length_push f.accepted p, ended_more_packets s.clock f.accepted f.sendings p (omega (arith, t.out_after_across, t.across_after_in)))
    comes i j false e hi hj =
        let f = s.flow i j in
        let none = ap (λ (v : Bool). inside s.clock record { accepted = f.accepted ++ cond v (record { arrival = s.clock; bytes = b } ∷ []) []; crossings = f.crossings; sendings = f.sendings }) e
        ∙ ap (λ (ps : List Accepted). inside s.clock record { accepted = ps; crossings = f.crossings; sendings = f.sendings }) (append-nil f.accepted) in
        omega (arith, none)

    pub one_more_inside : all_inside plan (arrived s i₀ j₀ b) ≤ all_inside plan s + 1
    one_more_inside =
        sum_one_more (λ i. sum_by (λ j. inside s.clock ((arrived s i₀ j₀ b).flow i j)) (range_with_len 0 plan.ports)) (λ i. sum_by (λ j. inside s.clock (s.flow i j)) (range_with_len 0 plan.ports)) i₀ 0 plan.ports
        (λ i hi ne. sum_no_more (λ j. inside s.clock ((arrived s i₀ j₀ b).flow i j)) (λ j. inside s.clock (s.flow i j)) 0 plan.ports
        (λ j _ hj. omega (arith, comes i j false (and_left (eqb i i₀) (eqb j j₀) (ne_eqb i i₀ ne)) (omega (arith, hi)) (omega (arith, hj)))))
        (λ hi. sum_one_more (λ j. inside s.clock ((arrived s i₀ j₀ b).flow i₀ j)) (λ j. inside s.clock (s.flow i₀ j)) j₀ 0 plan.ports
        (λ j hj ne. omega (arith, comes i₀ j false (and_right (eqb i₀ i₀) (eqb j j₀) (ne_eqb j j₀ ne)) (omega (arith, hi)) (omega (arith, hj))))
        (λ hj. omega (arith, comes i₀ j₀ (eqb i₀ i₀ && eqb j₀ j₀) refl (omega (arith, hi)) (omega (arith, hj)), most (eqb i₀ i₀ && eqb j₀ j₀))))
      where
        most : (b : Bool) → cond b 1 0 ≤ 1
        most true = omega arith
        most false = omega arith

  -- a tick adds none
  pub no_more_inside : (cross send : ℕ → Option ℕ) → all_inside plan (after_tick plan s cross send) ≤ all_inside plan s
  no_more_inside cross send =
      sum_no_more (λ i. sum_by (λ j. inside (s.clock + 1) (started_flow plan s cross send i j)) (range_with_len 0 plan.ports)) (λ i. sum_by (λ j. inside s.clock (s.flow i j)) (range_with_len 0 plan.ports)) 0 plan.ports
      (λ i _ hi. sum_no_more (λ j. inside (s.clock + 1) (started_flow plan s cross send i j)) (λ j. inside s.clock (s.flow i j)) 0 plan.ports
      (λ j _ hj.
      let f = s.flow i j in
      let same = ended_noted (names (send j) i) s.clock f (with_start (names (cross i) j) s.clock f.crossings) (m.told i j (omega (arith, hi)) (omega (arith, hj))).some_bytes in
      omega (arith, same, ended_later s.clock f.accepted (with_start (names (send j) i) s.clock f.sendings))))
