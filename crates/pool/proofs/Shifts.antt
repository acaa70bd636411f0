-- The writes that move a cell, each to one list. Assumes nothing.
use Rattle.std.proofs.Common.{◌≡◌, ℕ, ◌+◌, ◌-◌, ◌<◌, ◌⊎◌, List, length, get_or, set, sym, refl, ◌∙◌, ⊎_elim, arith}
use Rattle.std.proofs.lemmas.Bool.{cases_eq}
use Rattle.std.proofs.lemmas.List.{get_or-set_same, get_or-set_other, length-set}
use Rattle.grid.specs.Flows.{sum_below}
use Rattle.grid.proofs.Sums.{sum_change}
use Rattle.pool.specs.Queues.{Cells, OneQueue, OnePlace, Ended, Shifted, counts_after}
use Rattle.pool.proofs.Moves.{Moved, apart_from, one_queue, one_place, cells_kept, cells_moved, cell_came, moved_apart, moved_ended}

-- the count of the queue to, once the count of from is written
pub count_before : (count : List ℕ) (from to : ℕ) → (from ≡ to → ⊥) → get_or (set count from (get_or count from 0 - 1)) to 0 ≡ get_or count to 0
count_before count from to other = get_or-set_other count from to (get_or count from 0 - 1) 0 (λ e. other (sym e))

-- what the links keep through a move, and where each cell went
pub record After (next first last count next' first' last' count' : List ℕ) (from to : ℕ) : Type 0 where
  pub nexts : Cells next'
  pub firsts : Cells first'
  pub lasts : Cells last'
  pub queues : OneQueue next' first' count'
  pub places : OnePlace next' first' count'
  pub ended : Ended next' first' last' count'
  pub shifted : Shifted next first count next' first' count' from to

-- what the code writes to the links: behind nothing, or behind the last of the queue to
abbrev pub Wrote : (next first last count next' first' : List ℕ) (from to : ℕ) → Type 0
Wrote next first last count next' first' from to =
    ((get_or count to 0 ≡ 0) × (next' ≡ next) × (first' ≡ set (set first from (get_or next (get_or first from 0) 0)) to (get_or first from 0)))
    ⊎ ((0 < get_or count to 0) × (next' ≡ set next (get_or last to 0) (get_or first from 0)) × (first' ≡ set first from (get_or next (get_or first from 0) 0)))

pub cells_set : (xs : List ℕ) (i x : ℕ) → Cells xs → x < 512 → i < length xs → Cells (set xs i x)
cells_set xs i x small hx hi k =
    ⊎_elim
    (λ (e : k ≡ i). rw (e, get_or-set_same xs i x 0 hi) hx)
    (λ (ne : k ≡ i → ⊥). rw (get_or-set_other xs i k x 0 ne) (small k))
    (cases_eq k i)

module _ (count : List ℕ) (from to : ℕ) (long : length count ≡ 257) (hf : from < 257) (ht : to < 257) (other : from ≡ to → ⊥) (some : 0 < get_or count from 0) where
  pub count_other : (q : ℕ) → (q ≡ from → ⊥) → (q ≡ to → ⊥) → get_or (counts_after count from to) q 0 ≡ get_or count q 0
  count_other q ne nf =
      get_or-set_other (set count from (get_or count from 0 - 1)) to q (get_or count to 0 + 1) 0 nf
      ∙ get_or-set_other count from q (get_or count from 0 - 1) 0 ne

  pub count_to : get_or (counts_after count from to) to 0 ≡ get_or count to 0 + 1
  count_to =
      get_or-set_same (set count from (get_or count from 0 - 1)) to (get_or count to 0 + 1) 0 (omega (arith, length-set count from (get_or count from 0 - 1)))

  pub count_from : get_or (counts_after count from to) from 0 + 1 ≡ get_or count from 0
  count_from =
      let a = get_or-set_other (set count from (get_or count from 0 - 1)) to from (get_or count to 0 + 1) 0 other in
      let b = get_or-set_same count from (get_or count from 0 - 1) 0 (omega arith) in
      omega arith

  -- the sum of all counts stays
  pub total_kept : sum_below 257 (λ q. get_or (counts_after count from to) q 0) ≡ sum_below 257 (λ q. get_or count q 0)
  total_kept =
      let mid = set count from (get_or count from 0 - 1) in
      let a = sum_change 257 from (λ q. get_or mid q 0) (λ q. get_or count q 0) hf (λ q ne. get_or-set_other count from q (get_or count from 0 - 1) 0 ne) in
      let b = sum_change 257 to (λ q. get_or (counts_after count from to) q 0) (λ q. get_or mid q 0) ht (λ q ne. get_or-set_other mid to q (get_or count to 0 + 1) 0 ne) in
      let c = get_or-set_same count from (get_or count from 0 - 1) 0 (omega arith) in
      let d = count_before count from to other in
      omega (arith, count_to)

  module _ (next first last : List ℕ) (long-next : length next ≡ 512) (long-first : length first ≡ 257) (long-last : length last ≡ 257) where
    last_other : (q : ℕ) → (q ≡ to → ⊥) → get_or (set last to (get_or first from 0)) q 0 ≡ get_or last q 0
    last_other q ne = get_or-set_other last to q (get_or first from 0) 0 ne

    last_to : get_or (set last to (get_or first from 0)) to 0 ≡ get_or first from 0
    last_to = get_or-set_same last to (get_or first from 0) 0 (omega arith)

    -- to a queue that was empty
    pub moved_alone : get_or count to 0 ≡ 0 → Moved next first last count next (set (set first from (get_or next (get_or first from 0) 0)) to (get_or first from 0)) (set last to (get_or first from 0)) (counts_after count from to) from to
    moved_alone none =
        let x = get_or first from 0 in
        let mid = set first from (get_or next x 0) in
        record {
          other = other;
          some = some;
          first_other = λ q ne nf. get_or-set_other mid to q x 0 nf ∙ get_or-set_other first from q (get_or next x 0) 0 ne;
          first_from = get_or-set_other mid to from x 0 other ∙ get_or-set_same first from (get_or next x 0) 0 (omega arith);
          first_to = λ more. absurd (omega arith);
          first_alone = λ _. get_or-set_same mid to x 0 (omega (arith, length-set first from (get_or next x 0)));
          next_other = λ c _. refl;
          next_last = λ more. absurd (omega arith);
          last_other = last_other;
          last_to = last_to;
          count_other = count_other;
          count_from = count_from;
          count_to = count_to;
        }

    -- behind the last of a queue
    pub moved_behind : 0 < get_or count to 0 → get_or last to 0 < 512 → Moved next first last count (set next (get_or last to 0) (get_or first from 0)) (set first from (get_or next (get_or first from 0) 0)) (set last to (get_or first from 0)) (counts_after count from to) from to
    moved_behind more in_cells =
        let x = get_or first from 0 in
        record {
          other = other;
          some = some;
          first_other = λ q ne _. get_or-set_other first from q (get_or next x 0) 0 ne;
          first_from = get_or-set_same first from (get_or next x 0) 0 (omega arith);
          first_to = λ _. get_or-set_other first from to (get_or next x 0) 0 (λ e. other (sym e));
          first_alone = λ none. absurd (omega arith);
          next_other = λ c ne. get_or-set_other next (get_or last to 0) c x 0 (ne more);
          next_last = λ _. get_or-set_same next (get_or last to 0) x 0 (omega arith);
          last_other = last_other;
          last_to = last_to;
          count_other = count_other;
          count_from = count_from;
          count_to = count_to;
        }

    module _ (next' first' : List ℕ) (nexts : Cells next) (firsts : Cells first) (lasts : Cells last) (wrote : Wrote next first last count next' first' from to) where
      moved : Moved next first last count next' first' (set last to (get_or first from 0)) (counts_after count from to) from to
      moved =
          ⊎_elim
          (λ w. rw (w.1, w.2) (moved_alone w.0))
          (λ w. rw (w.1, w.2) (moved_behind w.0 (lasts to)))
          wrote

      nexts_after : Cells next'
      nexts_after =
          ⊎_elim
          (λ w. rw w.1 nexts)
          (λ w. rw w.1 (cells_set next (get_or last to 0) (get_or first from 0) nexts (firsts from) (omega (arith, lasts to))))
          wrote

      firsts_after : Cells first'
      firsts_after =
          let x = get_or first from 0 in
          let mid = cells_set first from (get_or next x 0) firsts (nexts x) (omega arith) in
          ⊎_elim
          (λ w. rw w.2 (cells_set (set first from (get_or next x 0)) to x mid (firsts from) (omega (arith, length-set first from (get_or next x 0)))))
          (λ w. rw w.2 mid)
          wrote

      -- all of it
      pub after : OneQueue next first count → OnePlace next first count → Ended next first last count → After next first last count next' first' (set last to (get_or first from 0)) (counts_after count from to) from to
      after queues places ended =
          let apart = apart_from next first count queues places in
          let last' = set last to (get_or first from 0) in
          let count' = counts_after count from to in
          let apart' = moved_apart next first last count next' first' last' count' from to moved apart ended in
          record {
            nexts = nexts_after;
            firsts = firsts_after;
            lasts = cells_set last to (get_or first from 0) lasts (firsts from) (omega arith);
            queues = one_queue next' first' count' apart';
            places = one_place next' first' count' apart';
            ended = moved_ended next first last count next' first' last' count' from to moved apart ended;
            shifted = record {
              counts = refl;
              kept = cells_kept next first last count next' first' last' count' from to moved apart ended;
              moved = cells_moved next first last count next' first' last' count' from to moved apart ended;
              came = cell_came next first last count next' first' last' count' from to moved apart ended;
            };
          }
