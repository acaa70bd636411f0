use Rattle.std.proofs.Common.{◌≡◌, ℕ, ◌+◌, ◌<◌, ◌≤◌, List, get_or, set, replicate, sym, refl, ap, subst, ⊎_elim, arith, rules}
use Rattle.std.proofs.Math.Path.{subst₂, subst₃}
use Rattle.std.proofs.lemmas.Bool.{cases_lt}
use Rattle.std.proofs.lemmas.List.{get_or_past}
use Rattle.grid.specs.Flows.{sum_below}
use Rattle.pool.specs.Queues.{Cells, OneQueue, OnePlace, Ended}
use Rattle.pool.proofs.Shifts.{cells_set}
use Rattle.pool.proofs.Fresh.{zero_cells, fresh_queues, fresh_places, fresh_ended, total_fresh}
use Rattle.pool.proofs.links.Links.new.Goals as goal

-- 257 times n, and v the last
abbrev row : ℕ → ℕ → List ℕ
row n v = set (replicate 257 n) 256 v

pub invariant_of-result : goal.invariant_of-result
invariant_of-result c =
    let next = c.from_fn.result in
    let made = c.from_fn.ensures.items in
    let linked : (k : ℕ) → k < 511 → get_or next k 0 ≡ k + 1 = λ k h. let here = made.at k 0 (omega arith) in search rules in
    let first = sym c.default-queues.ensures.0 in
    let last = sym c.default-queues.ensures.1.0 in
    let count = sym c.default-queues.ensures.1.1 in
    record {
      long = refl;
      nexts = λ k. ⊎_elim (λ (h : k < 512). let here = made.at k 0 h in search rules) (λ (h : 512 ≤ k). omega (arith, get_or_past next k 0 (omega (arith, made.long)))) (cases_lt k 512);
      firsts = subst (λ (n : ℕ). Cells (row n 0)) first (zero_cells 257);
      lasts = subst (λ (n : ℕ). Cells (row n 511)) last (cells_set (replicate 257 0) 256 511 (zero_cells 257) (omega arith) (omega arith));
      queued = subst₂ (λ (n m : ℕ). OneQueue next (row n 0) (row m 512)) first count (fresh_queues next linked);
      places = subst₂ (λ (n m : ℕ). OnePlace next (row n 0) (row m 512)) first count (fresh_places next linked);
      ended = subst₃ (λ (n l m : ℕ). Ended next (row n 0) (row l 511) (row m 512)) first last count (fresh_ended next linked);
      total = subst (λ (m : ℕ). sum_below 257 (λ q. get_or (row m 512) q 0) ≡ 512) count total_fresh;
    }

pub returns : goal.returns
returns c = ap (λ (n : ℕ). row n 512) c.default-queues.ensures.1.1
