-- A share that has passed some of its tests: which refusal comes, and what a booking leaves. Assumes nothing.
use Rattle.std.proofs.Common.{◌≡◌, ℕ, ◌+◌, ◌*◌, ◌<◌, ◌≤◌, List, length, map, get_or, set, sum, Some, None, sym, ap, ◌∙◌, subst, arith}
use Rattle.std.specs.List.{range_with_len}
use Rattle.std.proofs.lemmas.Bool.Decides.{nat_tests}
use Rattle.plan.specs.Table.{weight_in, row_sum, column_sum}
use Rattle.plan.specs.Weights.{weight_of, refusal_of}
use Rattle.plan.specs.declared.fault.ShareFault.TheVariants.{Row, Column}
use Rattle.plan.specs.declared.table.Plan.{Plan}
use Rattle.grid.proofs.Flows.{flows_set}
use Rattle.grid.specs.Flows.{with_flow}
use Rattle.plan.proofs.Changed.{row_changed, column_changed}
use Rattle.plan.proofs.Sums.{row_summed, column_summed}

-- the weight w of flow (i, j), which stands at k
module _ (p : Plan) (i j w k : ℕ) (long : length p.weights ≡ 256) (at : (i < p.size.ports) × (j < p.size.ports) × (k ≡ 16 * i + j)) (hw : w ≤ p.size.parts) where
  abbrev n : ℕ
  n = p.size.ports

  abbrev W : ℕ
  W = p.size.parts

  -- the cells with the new weight in place, and the weights as they have them
  abbrev cells : List ℕ
  cells = set p.weights k w

  abbrev weights : ℕ → ℕ → ℕ
  weights = with_flow (weight_of p) i j w

  few : n ≤ 16
  few = p.size.few_ports

  pub booked_weights : weight_in cells ≡ weights
  booked_weights =
      ap (λ (m : ℕ). weight_in (set p.weights m w)) at.2
      ∙ flows_set 0 p.weights i j w (omega (arith, at.0, few)) (omega (arith, at.1, few)) long

  -- the two sums, as the program takes them
  abbrev row : ℕ
  row = sum (map (λ m. get_or cells (16 * i + m * 1) 0) (range_with_len 0 n))

  abbrev column : ℕ
  column = sum (map (λ m. get_or cells (j + m * 16) 0) (range_with_len 0 n))

  row_is : row ≡ row_sum n weights i
  row_is = row_summed n cells few i (omega (arith, at.0, few)) ∙ ap (λ (f : ℕ → ℕ → ℕ). row_sum n f i) booked_weights

  column_is : column ≡ column_sum n weights j
  column_is = column_summed n cells few j (omega (arith, at.1, few)) ∙ ap (λ (f : ℕ → ℕ → ℕ). column_sum n f j) booked_weights

  pub row_full : W < row → refusal_of p i j w ≡ Some Row
  row_full h = grind (arith, nat_tests, row_is)

  module _ (row_fits : row ≤ W) where
    pub column_full : W < column → refusal_of p i j w ≡ Some Column
    column_full h = grind (arith, nat_tests, row_is, column_is)

    pub rows_kept : (a : ℕ) → a < n → row_sum n (weight_in cells) a ≤ W
    rows_kept a h =
        subst (λ (f : ℕ → ℕ → ℕ). row_sum n f a ≤ W) (sym booked_weights) (row_changed n W i j w (weight_of p) p.rows (omega (arith, row_is)) a h)

    module _ (column_fits : column ≤ W) where
      pub no_refusal : refusal_of p i j w ≡ None
      no_refusal = grind (arith, nat_tests, row_is, column_is)

      pub columns_kept : (b : ℕ) → b < n → column_sum n (weight_in cells) b ≤ W
      columns_kept b h =
          subst (λ (f : ℕ → ℕ → ℕ). column_sum n f b ≤ W) (sym booked_weights) (column_changed n W i j w (weight_of p) p.columns (omega (arith, column_is)) b h)
