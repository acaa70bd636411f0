-- The first cell of one queue moves to the end of another. Assumes nothing.
use Rattle.std.proofs.Common.{◌≡◌, ℕ, zero, suc, ◌+◌, ◌<◌, ◌≤◌, cond, ◌&&◌, eqb, List, get_or, sym, ap, ◌∙◌, ⊎_elim, add-one, arith}
use Rattle.std.proofs.lemmas.Bool.{cases_eq, cases_lt, eq-eqb, ne_eqb}
use Rattle.std.proofs.lemmas.Bool.Decides.{nat_tests}
use Rattle.pool.specs.Queues.{walk, cell_in, OneQueue, OnePlace, Ended}
use Rattle.pool.proofs.Walks.{walk_more, less_one}

-- no cell stands at two places
abbrev pub Apart : (next first count : List ℕ) → Type 0
Apart next first count =
    (p q j k : ℕ) → j < get_or count p 0 → k < get_or count q 0 → cell_in next first p j ≡ cell_in next first q k → (p ≡ q) × (j ≡ k)

pub apart_from : (next first count : List ℕ) → OneQueue next first count → OnePlace next first count → Apart next first count
apart_from next first count queues places p q j k hj hk same =
    (queues (p, j) (q, k) (hj, hk, same), places (p, j) (q, k) (hj, hk, same))

pub one_queue : (next first count : List ℕ) → Apart next first count → OneQueue next first count
one_queue next first count apart x y s = (apart x.0 y.0 x.1 y.1 s.0 s.1 s.2).0

pub one_place : (next first count : List ℕ) → Apart next first count → OnePlace next first count
one_place next first count apart x y s = (apart x.0 y.0 x.1 y.1 s.0 s.1 s.2).1

-- the queue and the place from which the cell at place k of queue q came; n cells were in the queue to
abbrev pub origin_queue : (from to n q k : ℕ) → ℕ
origin_queue from to n q k = cond (eqb q from) from (cond (eqb q to && eqb k n) from q)

abbrev pub origin_place : (from to n q k : ℕ) → ℕ
origin_place from to n q k = cond (eqb q from) (k + 1) (cond (eqb q to && eqb k n) 0 k)

origin_once : (from to n p q j k : ℕ) → (from ≡ to → ⊥) → origin_queue from to n p j ≡ origin_queue from to n q k → origin_place from to n p j ≡ origin_place from to n q k → (p ≡ q) × (j ≡ k)
origin_once from to n p q j k other queues places = (grind (arith, nat_tests), grind (arith, nat_tests))

-- the links before and after: what the code writes
pub record Moved (next first last count next' first' last' count' : List ℕ) (from to : ℕ) : Type 0 where
  pub other : from ≡ to → ⊥
  pub some : 0 < get_or count from 0
  pub first_other : (q : ℕ) → (q ≡ from → ⊥) → (q ≡ to → ⊥) → get_or first' q 0 ≡ get_or first q 0
  pub first_from : get_or first' from 0 ≡ get_or next (get_or first from 0) 0
  pub first_to : 0 < get_or count to 0 → get_or first' to 0 ≡ get_or first to 0
  pub first_alone : get_or count to 0 ≡ 0 → get_or first' to 0 ≡ get_or first from 0
  pub next_other : (c : ℕ) → (0 < get_or count to 0 → c ≡ get_or last to 0 → ⊥) → get_or next' c 0 ≡ get_or next c 0
  pub next_last : 0 < get_or count to 0 → get_or next' (get_or last to 0) 0 ≡ get_or first from 0
  pub last_other : (q : ℕ) → (q ≡ to → ⊥) → get_or last' q 0 ≡ get_or last q 0
  pub last_to : get_or last' to 0 ≡ get_or first from 0
  pub count_other : (q : ℕ) → (q ≡ from → ⊥) → (q ≡ to → ⊥) → get_or count' q 0 ≡ get_or count q 0
  pub count_from : get_or count' from 0 + 1 ≡ get_or count from 0
  pub count_to : get_or count' to 0 ≡ get_or count to 0 + 1

module _ (next first last count next' first' last' count' : List ℕ) (from to : ℕ)
    (m : Moved next first last count next' first' last' count' from to)
    (apart : Apart next first count) (ended : Ended next first last count)
  where
    -- a place that is not the end of the queue to keeps its link
    link_kept : (q k : ℕ) → k < get_or count q 0 → (q ≡ to → k + 1 < get_or count q 0) → get_or next' (cell_in next first q k) 0 ≡ get_or next (cell_in next first q k) 0
    link_kept q k h inner =
        m.next_other (cell_in next first q k)
        (λ some_to is_last.
        let e = less_one (get_or count to 0) some_to in
        let same : (q ≡ to) × (k ≡ e.0) = apart q to k e.0 h (omega (arith, e.1)) (is_last ∙ sym (ended to e.0 e.1)) in
        let more = inner same.0 in
        let long = ap (λ (p : ℕ). get_or count p 0) same.0 in
        omega (arith, e.1, same.1))

    -- the cells of every queue but the first
    pub cells_kept : (q k : ℕ) → (q ≡ from → ⊥) → k < get_or count q 0 → cell_in next' first' q k ≡ cell_in next first q k
    unfolding walk
    cells_kept q zero ne h =
        ⊎_elim
        (λ (is-to : q ≡ to). let some_to : 0 < get_or count to 0 = omega (arith, ap (λ (p : ℕ). get_or count p 0) is-to) in ap (λ (p : ℕ). get_or first' p 0) is-to ∙ m.first_to some_to ∙ ap (λ (p : ℕ). get_or first p 0) (sym is-to))
        (λ (not-to : q ≡ to → ⊥). m.first_other q ne not-to)
        (cases_eq q to)
    cells_kept q (suc k) ne h =
        ap (λ (c : ℕ). get_or next' c 0) (cells_kept q k ne (omega arith)) ∙ link_kept q k (omega arith) (λ _. omega arith)

    -- those of the first queue move up
    pub cells_moved : (k : ℕ) → k + 1 < get_or count from 0 → cell_in next' first' from k ≡ cell_in next first from (k + 1)
    unfolding walk
    cells_moved zero h = m.first_from
    cells_moved (suc k) h =
        rw add-one (ap (λ (c : ℕ). get_or next' c 0) (rw add-one at (cells_moved k (omega arith)))
        ∙ link_kept from (suc k) (omega arith) (λ bad. absurd (m.other bad)))

    -- and its first cell stands at the other's end
    pub cell_came : cell_in next' first' to (get_or count to 0) ≡ cell_in next first from 0
    unfolding walk
    cell_came =
        ⊎_elim
        (λ (some_to : 0 < get_or count to 0).
        let e = less_one (get_or count to 0) some_to in
        let kept = cells_kept to e.0 (λ bad. m.other (sym bad)) (omega (arith, e.1)) in
        ap (walk next' (get_or first' to 0)) e.1
        ∙ walk_more next' (get_or first' to 0) e.0
        ∙ ap (λ (c : ℕ). get_or next' c 0) (kept ∙ ended to e.0 e.1)
        ∙ m.next_last some_to)
        (λ (none : get_or count to 0 ≤ 0).
        let zero-to : get_or count to 0 ≡ 0 = omega arith in
        ap (walk next' (get_or first' to 0)) zero-to ∙ m.first_alone zero-to)
        (cases_lt 0 (get_or count to 0))

    -- where the cell at each place stood
    pub origins : (q k : ℕ) → k < get_or count' q 0 → (origin_place from to (get_or count to 0) q k < get_or count (origin_queue from to (get_or count to 0) q k) 0) × (cell_in next' first' q k ≡ cell_in next first (origin_queue from to (get_or count to 0) q k) (origin_place from to (get_or count to 0) q k))
    origins q k h =
        ⊎_elim
        (λ (is-from : q ≡ from).
        let long = ap (λ (p : ℕ). get_or count' p 0) is-from in
        let moved = cells_moved k (omega arith) in
        rw (eq-eqb q from is-from) (omega arith, ap (λ (p : ℕ). cell_in next' first' p k) is-from ∙ moved))
        (λ (not-from : q ≡ from → ⊥).
        ⊎_elim
        (λ (is-to : q ≡ to).
        let long = ap (λ (p : ℕ). get_or count' p 0) is-to in
        ⊎_elim
        (λ (is-end : k ≡ get_or count to 0).
        rw (ne_eqb q from not-from, eq-eqb q to is-to, eq-eqb k (get_or count to 0) is-end)
        (m.some, ap (λ (p : ℕ). cell_in next' first' p k) is-to ∙ ap (cell_in next' first' to) is-end ∙ cell_came))
        (λ (inner : k ≡ get_or count to 0 → ⊥).
        let short = ap (λ (p : ℕ). get_or count p 0) is-to in
        let low : k < get_or count q 0 = omega arith in
        rw (ne_eqb q from not-from, eq-eqb q to is-to, ne_eqb k (get_or count to 0) inner)
        (low, cells_kept q k not-from low))
        (cases_eq k (get_or count to 0)))
        (λ (not-to : q ≡ to → ⊥).
        let long = m.count_other q not-from not-to in
        let low : k < get_or count q 0 = omega arith in
        rw (ne_eqb q from not-from, ne_eqb q to not-to)
        (low, cells_kept q k not-from low))
        (cases_eq q to))
        (cases_eq q from)

    pub moved_apart : Apart next' first' count'
    moved_apart p q j k hj hk same =
        let a = origins p j hj in
        let b = origins q k hk in
        let n = get_or count to 0 in
        let e = apart (origin_queue from to n p j) (origin_queue from to n q k) (origin_place from to n p j) (origin_place from to n q k) a.0 b.0 (sym a.1 ∙ same ∙ b.1) in
        origin_once from to n p q j k m.other e.0 e.1

    pub moved_ended : Ended next' first' last' count'
    unfolding walk
    moved_ended q k h =
        ⊎_elim
        (λ (is-from : q ≡ from).
        let long = ap (λ (p : ℕ). get_or count' p 0) is-from in
        ap (λ (p : ℕ). cell_in next' first' p k) is-from ∙ cells_moved k (omega arith) ∙ ended from (k + 1) (omega arith)
        ∙ sym (m.last_other from m.other) ∙ ap (λ (p : ℕ). get_or last' p 0) (sym is-from))
        (λ (not-from : q ≡ from → ⊥).
        ⊎_elim
        (λ (is-to : q ≡ to).
        let long = ap (λ (p : ℕ). get_or count' p 0) is-to in
        let end : k ≡ get_or count to 0 = omega arith in
        ap (λ (p : ℕ). cell_in next' first' p k) is-to ∙ ap (cell_in next' first' to) end ∙ cell_came ∙ sym m.last_to ∙ ap (λ (p : ℕ). get_or last' p 0) (sym is-to))
        (λ (not-to : q ≡ to → ⊥).
        let long = m.count_other q not-from not-to in
        cells_kept q k not-from (omega arith) ∙ ended q k (omega arith) ∙ sym (m.last_other q not-to))
        (cases_eq q to))
        (cases_eq q from)
