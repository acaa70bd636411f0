-- Laws of sums over flows. Assumes nothing.
use Rattle.std.proofs.Common.{◌≡◌, ℕ, zero, suc, ◌+◌, ◌*◌, ◌<◌, ◌≤◌, sym, refl, ap, ◌∙◌, ⊎_elim, add-zero, add-suc, add-one, arith}
use Rattle.std.proofs.lemmas.Bool.{cases_eq}
use Rattle.grid.specs.Flows.{sum_below, flow_sum}

pub sum_none : (f : ℕ → ℕ) → sum_below 0 f ≡ 0
unfolding sum_below
sum_none f = refl

pub sum_zero : (n : ℕ) → sum_below n (λ _. 0) ≡ 0
unfolding sum_below
sum_zero zero = refl
sum_zero (suc n) = omega (arith, sum_zero n)

pub sum_same : (n : ℕ) (f g : ℕ → ℕ) → ((k : ℕ) → k < n → f k ≡ g k) → sum_below n f ≡ sum_below n g
unfolding sum_below
sum_same zero f g same = refl
sum_same (suc n) f g same =
    let e = sum_same n f g (λ k h. same k (omega arith)) in
    let d = same n (omega arith) in
    cc

pub sum_le : (n m : ℕ) (f : ℕ → ℕ) → ((k : ℕ) → f k ≤ m) → sum_below n f ≤ n * m
unfolding sum_below
sum_le zero m f small = omega arith
sum_le (suc n) m f small = omega (arith, sum_le n m f small, small n)

-- one term is at most the sum
pub sum_at_least : (n k : ℕ) (f : ℕ → ℕ) → k < n → f k ≤ sum_below n f
unfolding sum_below
sum_at_least zero k f h = omega arith
sum_at_least (suc n) k f h =
    ⊎_elim
    (λ (e : k ≡ n). omega (arith, ap f e))
    (λ (ne : k ≡ n → ⊥). omega (arith, sum_at_least n k f (omega arith)))
    (cases_eq k n)

-- two functions that differ at k alone
pub sum_change : (n k : ℕ) (f g : ℕ → ℕ) → k < n → ((m : ℕ) → (m ≡ k → ⊥) → f m ≡ g m) → sum_below n f + g k ≡ sum_below n g + f k
unfolding sum_below
sum_change zero k f g h other = omega arith
sum_change (suc n) k f g h other =
    ⊎_elim
    (λ (e : k ≡ n).
    let rest = sum_same n f g (λ m lt. other m (λ (bad : m ≡ k). omega arith)) in
    omega (arith, ap f e, ap g e))
    (λ (ne : k ≡ n → ⊥).
    let here = other n (λ (bad : n ≡ k). omega arith) in
    omega (arith, sum_change n k f g (omega arith) other))
    (cases_eq k n)

pub flow_sum_same : (f g : ℕ → ℕ → ℕ) → ((i j : ℕ) → i < 16 → j < 16 → f i j ≡ g i j) → flow_sum f ≡ flow_sum g
unfolding flow_sum
flow_sum_same f g same = sum_same 16 _ _ (λ i hi. sum_same 16 _ _ (λ j hj. same i j hi hj))

module _ (f : ℕ → ℕ → ℕ) where
  pub flow_sum_at_least : (i j : ℕ) → i < 16 → j < 16 → f i j ≤ flow_sum f
  unfolding flow_sum
  flow_sum_at_least i j hi hj =
      let row = sum_at_least 16 j (f i) hj in
      let rows = sum_at_least 16 i (λ a. sum_below 16 (f a)) hi in
      omega arith

  pub flow_sum_le : (m : ℕ) → ((i j : ℕ) → f i j ≤ m) → flow_sum f ≤ 256 * m
  unfolding flow_sum
  flow_sum_le m small = omega (arith, sum_le 16 (16 * m) (λ a. sum_below 16 (f a)) (λ a. sum_le 16 m (f a) (small a)))

pub sum_more : (n : ℕ) (f : ℕ → ℕ) → sum_below (n + 1) f ≡ sum_below n f + f n
unfolding sum_below
sum_more n f = rw add-one

-- a sum in two parts
sum_append : (n m : ℕ) (f : ℕ → ℕ) → sum_below (n + m) f ≡ sum_below n f + sum_below m (λ k. f (n + k))
unfolding sum_below
sum_append n zero f = rw (add-zero n) (omega arith)
sum_append n (suc m) f = rw add-suc (omega (arith, sum_append n m f))

-- a sum over cells, row by row
sum_rows : (n : ℕ) (f : ℕ → ℕ) → sum_below (16 * n) f ≡ sum_below n (λ i. sum_below 16 (λ j. f (16 * i + j)))
unfolding sum_below
sum_rows zero f = refl
sum_rows (suc n) f =
    let size : 16 * suc n ≡ 16 * n + 16 = omega arith in
    ap (λ (m : ℕ). sum_below m f) size ∙ sum_append (16 * n) 16 f ∙ ap (λ (m : ℕ). m + sum_below 16 (λ j. f (16 * n + j))) (sum_rows n f)

pub flow_sum_cells : (f : ℕ → ℕ) → flow_sum (λ i j. f (16 * i + j)) ≡ sum_below 256 f
unfolding flow_sum
flow_sum_cells f = sym (sum_rows 16 f)
