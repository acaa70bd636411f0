-- What chains over the numbers below n come to: row sums, column sums and open flows. Assumes nothing.
use Rattle.std.proofs.Common.{◌≡◌, ℕ, add-one, zero, suc, ◌+◌, ◌*◌, ◌<◌, ◌≤◌, cond, ltb, List, get_or, map, sum, count_by, sym, refl, ap, ◌∙◌, arith}
use Rattle.std.specs.List.{sum_by, range_with_len}
use Rattle.std.proofs.lemmas.List.Sums.{sum-map}
use Rattle.std.proofs.lemmas.List.FromFn.{sum_by-map-range_with_len_more}
use Rattle.grid.specs.Flows.{sum_below}
use Rattle.grid.proofs.Sums.{sum_same}
use Rattle.grid.proofs.Flows.{flow_cell}
use Rattle.plan.specs.Table.{weight_in, row_sum, column_sum, open_into}

-- a sum of numbers f k is one below n
summed : (n : ℕ) (f : ℕ → ℕ) → sum (map f (range_with_len 0 n)) ≡ sum_below n f
unfolding sum_below
summed zero f = refl
summed (suc n) f =
    let one_more : sum (map f (range_with_len 0 (n + 1))) ≡ sum (map f (range_with_len 0 n)) + f n = sum_by-map-range_with_len_more (λ x. x) f 0 n n (omega arith) in
    sym (ap (λ m. sum (map f (range_with_len 0 m))) (add-one n)) ∙ one_more ∙ ap (λ s. s + f n) (summed n f)

counted : (n : ℕ) (f : ℕ → ℕ) → sum_by f (range_with_len 0 n) ≡ sum_below n f
counted n f = sym (sum-map f (range_with_len 0 n)) ∙ summed n f

module _ (n : ℕ) (cells : List ℕ) (few : n ≤ 16) where
  cell : (k i j : ℕ) → k ≡ 16 * i + j → i < 16 → j < 16 → get_or cells k 0 ≡ weight_in cells i j
  cell k i j e hi hj = ap (λ m. get_or cells m 0) e ∙ sym (flow_cell 0 (λ m. get_or cells m 0) i j hi hj)

  pub row_summed : (i : ℕ) → i < 16 → sum (map (λ k. get_or cells (16 * i + k * 1) 0) (range_with_len 0 n)) ≡ row_sum n (weight_in cells) i
  row_summed i hi = summed n _ ∙ sum_same n _ _ (λ k h. cell (16 * i + k * 1) i k (omega arith) hi (omega arith))

  pub column_summed : (j : ℕ) → j < 16 → sum (map (λ k. get_or cells (j + k * 16) 0) (range_with_len 0 n)) ≡ column_sum n (weight_in cells) j
  column_summed j hj = summed n _ ∙ sum_same n _ _ (λ k h. cell (j + k * 16) k j (omega arith) (omega arith) hj)

  pub open_counted : (j : ℕ) → j < 16 → count_by (λ i. ltb 0 (get_or cells (16 * i + j) 0)) (range_with_len 0 n) ≡ open_into n (weight_in cells) j
  open_counted j hj = counted n _ ∙ sum_same n _ _ (λ i h. ap (λ w. cond (ltb 0 w) 1 0) (cell (16 * i + j) i j refl (omega arith) hj))
