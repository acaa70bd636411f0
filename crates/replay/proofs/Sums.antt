-- Sums over all flows of a plan. Assumes nothing.
use Rattle.std.proofs.Common.{◌≡◌, ℕ, zero, suc, ◌+◌, ◌*◌, ◌<◌, ◌≤◌, sum_by, refl, ap, ⊎_elim, arith}
use Rattle.std.proofs.lemmas.List.Sums.{sum_by-cons}
use Rattle.std.proofs.lemmas.Bool.{cases_eq}
use Rattle.std.specs.List.{range_with_len}
use Rattle.law.specs.Step.{Plan}
use Rattle.replay.specs.Follows.{over_flows}

sum_alike : (f g : ℕ → ℕ) (a n : ℕ) → ((k : ℕ) → a ≤ k → k < a + n → f k ≡ g k) → sum_by f (range_with_len a n) ≡ sum_by g (range_with_len a n)
sum_alike f g a zero same = refl
sum_alike f g a (suc n) same =
    omega (
      arith,
      sum_by-cons f a (range_with_len (a + 1) n),
      sum_by-cons g a (range_with_len (a + 1) n),
      same a (omega arith) (omega arith),
      sum_alike f g (a + 1) n (λ k low high. same k (omega arith) (omega arith)),
    )

sum_most : (f : ℕ → ℕ) (m a n : ℕ) → ((k : ℕ) → a ≤ k → k < a + n → f k ≤ m) → sum_by f (range_with_len a n) ≤ n * m
sum_most f m a zero h = omega arith
sum_most f m a (suc n) h =
    omega (arith, sum_by-cons f a (range_with_len (a + 1) n), h a (omega arith) (omega arith), sum_most f m (a + 1) n (λ k low high. h k (omega arith) (omega arith)))

sum_part : (f : ℕ → ℕ) (k a n : ℕ) → a ≤ k → k < a + n → f k ≤ sum_by f (range_with_len a n)
sum_part f k a zero low high = absurd (omega arith)
sum_part f k a (suc n) low high =
    ⊎_elim
    (λ (e : k ≡ a). omega (arith, sum_by-cons f a (range_with_len (a + 1) n), ap f e))
    (λ (ne : k ≡ a → ⊥). omega (arith, sum_by-cons f a (range_with_len (a + 1) n), sum_part f k (a + 1) n (omega arith) (omega arith)))
    (cases_eq k a)

-- two sums that differ at k alone, by x
sum_gains : (f g : ℕ → ℕ) (x k a n : ℕ) → a ≤ k → k < a + n → f k ≡ x + g k → ((m : ℕ) → (m ≡ k → ⊥) → f m ≡ g m) → sum_by f (range_with_len a n) ≡ x + sum_by g (range_with_len a n)
sum_gains f g x k a zero low high here other = absurd (omega arith)
sum_gains f g x k a (suc n) low high here other =
    ⊎_elim
    (λ (e : k ≡ a).
    let rest = sum_alike f g (a + 1) n (λ m l u. other m (λ (bad : m ≡ k). omega arith)) in
    omega (arith, sum_by-cons f a (range_with_len (a + 1) n), sum_by-cons g a (range_with_len (a + 1) n), ap f e, ap g e, rest))
    (λ (ne : k ≡ a → ⊥).
    let first = other a (λ (bad : a ≡ k). omega arith) in
    omega (arith, sum_by-cons f a (range_with_len (a + 1) n), sum_by-cons g a (range_with_len (a + 1) n), first, sum_gains f g x k (a + 1) n (omega arith) (omega arith) here other))
    (cases_eq k a)

module _ (plan : Plan) where
  pub flows_alike : (f g : ℕ → ℕ → ℕ) → ((i j : ℕ) → i < plan.ports → j < plan.ports → f i j ≡ g i j) → over_flows plan f ≡ over_flows plan g
  flows_alike f g same =
      sum_alike (λ i. sum_by (λ j. f i j) (range_with_len 0 plan.ports)) (λ i. sum_by (λ j. g i j) (range_with_len 0 plan.ports)) 0 plan.ports
      (λ i _ hi. sum_alike (λ j. f i j) (λ j. g i j) 0 plan.ports (λ j _ hj. same i j (omega (arith, hi)) (omega (arith, hj))))

  pub flows_none : over_flows plan (λ _ _. 0) ≡ 0
  flows_none =
      let rows = sum_most (λ i. sum_by (λ j. 0) (range_with_len 0 plan.ports)) 0 0 plan.ports (λ i _ hi. let row = sum_most (λ j. 0) 0 0 plan.ports (λ j _ hj. omega arith) in omega (arith, row)) in
      omega (arith, rows)

  pub flows_most : (f : ℕ → ℕ → ℕ) (m : ℕ) → ((i j : ℕ) → i < plan.ports → j < plan.ports → f i j ≤ m) → over_flows plan f ≤ plan.ports * (plan.ports * m)
  flows_most f m h =
      sum_most (λ i. sum_by (λ j. f i j) (range_with_len 0 plan.ports)) (plan.ports * m) 0 plan.ports
      (λ i _ hi. sum_most (λ j. f i j) m 0 plan.ports (λ j _ hj. h i j (omega (arith, hi)) (omega (arith, hj))))

  pub flows_part : (f : ℕ → ℕ → ℕ) (i j : ℕ) → i < plan.ports → j < plan.ports → f i j ≤ over_flows plan f
  flows_part f i j hi hj =
      let row = sum_part (λ c. f i c) j 0 plan.ports (omega arith) (omega arith) in
      let rows = sum_part (λ a. sum_by (λ c. f a c) (range_with_len 0 plan.ports)) i 0 plan.ports (omega arith) (omega arith) in
      omega (arith, row, rows)

  pub flows_gain : (f g : ℕ → ℕ → ℕ) (x i j : ℕ) → i < plan.ports → j < plan.ports → f i j ≡ x + g i j → ((a c : ℕ) → ((a ≡ i) × (c ≡ j) → ⊥) → f a c ≡ g a c) → over_flows plan f ≡ x + over_flows plan g
  flows_gain f g x i j hi hj here other =
      sum_gains (λ a. sum_by (λ c. f a c) (range_with_len 0 plan.ports)) (λ a. sum_by (λ c. g a c) (range_with_len 0 plan.ports)) x i 0 plan.ports (omega arith) (omega arith)
      (sum_gains (λ c. f i c) (λ c. g i c) x j 0 plan.ports (omega arith) (omega arith) here (λ c ne. other i c (λ both. ne both.1)))
      (λ a ne. sum_alike (λ c. f a c) (λ c. g a c) 0 plan.ports (λ c _ _. other a c (λ both. ne both.0)))
