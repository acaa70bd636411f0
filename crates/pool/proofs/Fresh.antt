-- All cells in the last queue, in order. Assumes nothing.
use Rattle.std.proofs.Common.{◌≡◌, ℕ, zero, suc, ◌+◌, ◌<◌, ◌≤◌, List, get_or, set, replicate, sym, refl, ap, ◌∙◌, ⊎_elim, arith}
use Rattle.std.proofs.lemmas.Bool.{cases_eq, cases_lt}
use Rattle.std.proofs.lemmas.List.{get_or-set_other, get_or-replicate, get_or_past, length-replicate}
use Rattle.grid.specs.Flows.{sum_below}
use Rattle.pool.specs.Queues.{walk, cell_in, Cells, OneQueue, OnePlace, Ended}

-- the counts
abbrev pub counts_fresh : List ℕ
counts_fresh = set (replicate 257 0) 256 512

pub zeros : (n k : ℕ) → ◌≡◌ {A = ℕ} (get_or (replicate n 0) k 0) 0
zeros n k =
    ⊎_elim
    (λ (h : k < n). get_or-replicate n k 0 0 h)
    (λ (h : n ≤ k). get_or_past (replicate n 0) k 0 (rw length-replicate h))
    (cases_lt k n)

pub zero_cells : (n : ℕ) → Cells (replicate n 0)
zero_cells n k = omega (arith, zeros n k)

pub count_other : (q : ℕ) → (q ≡ 256 → ⊥) → get_or counts_fresh q 0 ≡ 0
count_other q ne = get_or-set_other (replicate 257 0) 256 q 512 0 ne ∙ zeros 257 q

-- only the last queue has cells
pub queue_is : (q k : ℕ) → k < get_or counts_fresh q 0 → (q ≡ 256) × (k < 512)
queue_is q k h =
    ⊎_elim
    (λ (e : q ≡ 256). let long : get_or counts_fresh q 0 ≡ 512 = ap (λ (p : ℕ). get_or counts_fresh p 0) e in (e, omega arith))
    (λ (ne : q ≡ 256 → ⊥). absurd (omega (arith, count_other q ne)))
    (cases_eq q 256)

pub total_fresh : sum_below 257 (λ q. get_or counts_fresh q 0) ≡ 512
unfolding sum_below
total_fresh = refl

module _ (next : List ℕ) (linked : (k : ℕ) → k < 511 → get_or next k 0 ≡ k + 1) where
  walk_is : (k : ℕ) → k < 512 → walk next 0 k ≡ k
  unfolding walk
  walk_is zero h = refl
  walk_is (suc k) h = ap (λ (c : ℕ). get_or next c 0) (walk_is k (omega arith)) ∙ linked k (omega arith) ∙ omega arith

  cell_is : (q k : ℕ) → k < 512 → cell_in next (replicate 257 0) q k ≡ k
  cell_is q k h = ap (λ (c : ℕ). walk next c k) (zeros 257 q) ∙ walk_is k h

  pub fresh_queues : OneQueue next (replicate 257 0) counts_fresh
  fresh_queues x y s = (queue_is x.0 x.1 s.0).0 ∙ sym (queue_is y.0 y.1 s.1).0

  pub fresh_places : OnePlace next (replicate 257 0) counts_fresh
  fresh_places x y s =
      sym (cell_is x.0 x.1 (queue_is x.0 x.1 s.0).1) ∙ s.2 ∙ cell_is y.0 y.1 (queue_is y.0 y.1 s.1).1

  pub fresh_ended : Ended next (replicate 257 0) (set (replicate 257 0) 256 511) counts_fresh
  fresh_ended q k h =
      let at = queue_is q k (omega arith) in
      let long : get_or counts_fresh q 0 ≡ 512 = ap (λ (p : ℕ). get_or counts_fresh p 0) at.0 in
      let end : k ≡ 511 = omega arith in
      cell_is q k at.1 ∙ end ∙ sym (ap (λ (p : ℕ). get_or {A = ℕ} (set (replicate 257 0) 256 511) p 0) at.0)
