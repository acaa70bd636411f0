-- A change of one weight leaves the other rows and the other columns. Assumes nothing.
use Rattle.std.proofs.Common.{◌≡◌, ℕ, ◌<◌, ◌≤◌, ◌&&◌, eqb, sym, subst, ⊎_elim, arith}
use Rattle.std.proofs.lemmas.Bool.{ne_eqb, cases_eq, and_right, cond-false}
use Rattle.grid.proofs.Sums.{sum_same}
use Rattle.grid.specs.Flows.{with_flow}
use Rattle.plan.specs.Table.{row_sum, column_sum}

module _ (n W i j w : ℕ) (weight : ℕ → ℕ → ℕ) where
  pub row_changed : ((a : ℕ) → a < n → row_sum n weight a ≤ W) → row_sum n (with_flow weight i j w) i ≤ W → (a : ℕ) → a < n → row_sum n (with_flow weight i j w) a ≤ W
  row_changed old new a h =
      ⊎_elim
      (λ (e : a ≡ i). subst (λ (k : ℕ). row_sum n (with_flow weight i j w) k ≤ W) (sym e) new)
      (λ (ne : a ≡ i → ⊥).
      let same = sum_same n (λ b. with_flow weight i j w a b) (λ b. weight a b) (λ b _. rw (ne_eqb a i ne)) in
      omega (arith, old a h))
      (cases_eq a i)

  pub column_changed : ((b : ℕ) → b < n → column_sum n weight b ≤ W) → column_sum n (with_flow weight i j w) j ≤ W → (b : ℕ) → b < n → column_sum n (with_flow weight i j w) b ≤ W
  column_changed old new b h =
      ⊎_elim
      (λ (e : b ≡ j). subst (λ (k : ℕ). column_sum n (with_flow weight i j w) k ≤ W) (sym e) new)
      (λ (ne : b ≡ j → ⊥).
      let same = sum_same n (λ a. with_flow weight i j w a b) (λ a. weight a b) (λ a _. cond-false (eqb a i && eqb b j) w (weight a b) (and_right (eqb a i) (eqb b j) (ne_eqb b j ne))) in
      omega (arith, old b h))
      (cases_eq b j)
