use Rattle.std.proofs.Common.{ℕ, ◌≤◌, sym, subst, arith}
use Rattle.plan.specs.Table.{row_sum, column_sum}
use Rattle.grid.proofs.Sums.{sum_zero}
use Rattle.grid.proofs.Flows.{flows_same}
use Rattle.plan.proofs.table.Plan.new.Goals as goal

pub invariant_of-result : goal.invariant_of-result
invariant_of-result c =
    let n = c.args.size.ports in
    let low = λ (i : ℕ). subst (λ (f : ℕ → ℕ → ℕ). row_sum n f i ≤ c.args.size.parts) (sym (flows_same 0)) (omega (arith, sum_zero n)) in
    let high = λ (j : ℕ). subst (λ (f : ℕ → ℕ → ℕ). column_sum n f j ≤ c.args.size.parts) (sym (flows_same 0)) (omega (arith, sum_zero n)) in
    record { rows = λ i _. low i; columns = λ j _. high j }

pub returns-clause-weights : goal.returns-clause-weights
returns-clause-weights c = flows_same 0
