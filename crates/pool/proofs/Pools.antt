-- What a pool holds, and what each call changes. Assumes nothing.
use Rattle.std.proofs.Common.{◌≡◌, ℕ, suc, ◌+◌, ◌*◌, ◌<◌, List, [], ◌∷◌, ◌++◌, length, get_or, drop, set, is_some, true, false, nat_eq, Some, None, Option, sym, refl, ap, ◌∙◌, ⊎_elim, add-one, arith}
use mathlib.Core.Path.{fun_ext}
use Rattle.std.specs.List.{slice_get}
use Rattle.std.proofs.lemmas.Bool.{cases_eq, cond_both}
use Rattle.std.proofs.lemmas.Bool.Decides.{nat_tests}
use Rattle.std.proofs.lemmas.List.{get_or_default, get_or-set_same, get_or-set_other, length-map}
use Rattle.store.specs.declared.packet.Packet.{Packet}
use Rattle.grid.specs.Flows.{in_grid, flow_of, with_flow}
use Rattle.store.specs.Stored.{stored, noted, started_across}
use Rattle.grid.proofs.Flows.{flow_cell, flows_change, ports_inside}
use Rattle.grid.proofs.Sums.{flow_sum_same, flow_sum_cells, sum_more}
use Rattle.pool.specs.Queues.{first_cells, lengths, cell_in, Shifted}
use Rattle.pool.specs.Held.{packets_below, packets_of, content, full_at_512, queue_packets, lists_in, Filled}
use Rattle.pool.specs.declared.cells.Pool.{Pool}
use Rattle.pool.specs.declared.links.Links.{Links}
use Rattle.pool.proofs.Rows.{below_none, below_same, below_push, below_length, below_nth, below_drop, below_noted}
use Rattle.pool.proofs.Fresh.{counts_fresh, count_other}
use Rattle.pool.proofs.Shifts as shifts

abbrev pub count_of : Links → ℕ → ℕ
count_of links q = get_or (lengths links.queues) q 0

-- the cell has place k of queue q
abbrev pub Place : Links → (q k cell : ℕ) → Type 0
Place links q k cell = (k < count_of links q) × (cell ≡ cell_in links.next (first_cells links.queues) q k)

-- one pool's links became the others by a move of a cell
abbrev pub ShiftedIn : (links links' : Links) (from to : ℕ) → Type 0
ShiftedIn links links' = Shifted links.next (first_cells links.queues) (lengths links.queues) links'.next (first_cells links'.queues) (lengths links'.queues)

long_of : (links : Links) → length (lengths links.queues) ≡ 257
long_of links = length-map links.queues (λ q. q.count) ∙ links.long

module _ (pool : Pool) where
  -- the cells of the flows and the free ones are all
  pub stored_is : stored (lists_in pool.packets pool.links) + count_of pool.links 256 ≡ 512
  stored_is =
      let same = flow_sum_same (λ i j. length (lists_in pool.packets pool.links i j)) (λ i j. count_of pool.links (16 * i + j)) (λ i j hi hj. ap length (flow_cell [] (queue_packets pool.packets pool.links) i j hi hj) ∙ below_length (count_of pool.links (16 * i + j)) (content pool.packets pool.links (16 * i + j)) (λ k h. pool.filled (16 * i + j) k (omega arith, h))) in
      let cells = flow_sum_cells (count_of pool.links) in
      let all = sum_more 256 (count_of pool.links) in
      let total = pool.links.total in
      omega arith

  -- a flow of the grid is full while no cell is free
  pub full_is : (i j : ℕ) → in_grid i j ≡ true → full_at_512 (lists_in pool.packets pool.links) i j ≡ nat_eq (count_of pool.links 256) 0
  full_is i j inside = let all = stored_is in grind (arith, nat_tests)

-- q is the queue of flow (i, j)
module _ (pool : Pool) (i j q : ℕ) (inside : in_grid i j ≡ true) (at : q ≡ 16 * i + j) where
  below : q < 256
  below = let ports = ports_inside i j inside in omega arith

  list_is : lists_in pool.packets pool.links i j ≡ queue_packets pool.packets pool.links q
  list_is =
      let ports = ports_inside i j inside in
      flow_cell [] (queue_packets pool.packets pool.links) i j ports.0 ports.1 ∙ ap (queue_packets pool.packets pool.links) (sym at)

  pub list_length : length (lists_in pool.packets pool.links i j) ≡ count_of pool.links q
  list_length =
      ap length list_is ∙ below_length (count_of pool.links q) (content pool.packets pool.links q) (λ k h. pool.filled q k (below, h))

  pub list_nth : (k cell : ℕ) (d : Option Packet) → Place pool.links q k cell → cell < length pool.packets → get_or pool.packets cell d ≡ slice_get (lists_in pool.packets pool.links i j) k
  list_nth k cell d place small =
      get_or_default pool.packets cell d None small
      ∙ ap (λ c. get_or pool.packets c None) place.1
      ∙ sym (ap (λ (ps : List Packet). slice_get ps k) list_is ∙ below_nth (count_of pool.links q) (content pool.packets pool.links q) (λ m lt. pool.filled q m (below, lt)) k place.0)

  -- a change of this queue alone
  changed : (g : ℕ → List Packet) (x : List Packet) → g q ≡ x → ((r : ℕ) → r < 256 → (r ≡ q → ⊥) → g r ≡ queue_packets pool.packets pool.links r) → flow_of [] g ≡ with_flow (lists_in pool.packets pool.links) i j x
  changed g x here other =
      let ports = ports_inside i j inside in
      flows_change [] (queue_packets pool.packets pool.links) g i j x ports.0 ports.1 (ap g (sym at) ∙ here) (λ r hr ne. other r hr (λ e. ne (e ∙ at)))

  -- the start tick t is written into the packet p, the k-th of the flow
  module _ (k t cell : ℕ) (p after : Packet) (d : Option Packet) (place : Place pool.links q k cell) (small : cell < length pool.packets) (was : get_or pool.packets cell d ≡ Some p) (is : after ≡ started_across t p) where
    abbrev noted_packets : List (Option Packet)
    noted_packets = set pool.packets cell (Some after)

    note_before : content pool.packets pool.links q k ≡ Some p
    note_before =
        ap (λ c. get_or pool.packets c None) (sym place.1) ∙ get_or_default pool.packets cell None d small ∙ was

    note_here : content noted_packets pool.links q k ≡ Some (started_across t p)
    note_here =
        ap (λ c. get_or noted_packets c None) (sym place.1) ∙ get_or-set_same pool.packets cell (Some after) None small ∙ ap Some is

    note_other : (r m : ℕ) → m < count_of pool.links r → ((r ≡ q) → (m ≡ k) → ⊥) → content noted_packets pool.links r m ≡ content pool.packets pool.links r m
    note_other r m lt ne =
        get_or-set_other pool.packets cell (cell_in pool.links.next (first_cells pool.links.queues) r m) (Some after) None
        (λ same. ne (pool.links.queued (r, m) (q, k) (lt, place.0, same ∙ place.1)) (pool.links.places (r, m) (q, k) (lt, place.0, same ∙ place.1)))

    pub note_lists : lists_in noted_packets pool.links ≡ with_flow (lists_in pool.packets pool.links) i j (noted k t (lists_in pool.packets pool.links i j))
    note_lists =
        changed (queue_packets noted_packets pool.links) (noted k t (lists_in pool.packets pool.links i j))
        (below_noted (count_of pool.links q) (content pool.packets pool.links q) (content noted_packets pool.links q)
        (λ m lt. pool.filled q m (below, lt)) k t p place.0 note_before note_here (λ m lt ne. note_other q m lt (λ _ e. ne e))
        ∙ ap (noted k t) (sym list_is))
        (λ r hr ne. below_same (count_of pool.links r) (content noted_packets pool.links r) (content pool.packets pool.links r) (λ m lt. note_other r m lt (λ e _. ne e)))

  -- a free cell goes to the flow with the packet p
  module _ (links' : Links) (cell : ℕ) (p : Packet) (free : Place pool.links 256 0 cell) (s : ShiftedIn pool.links links' 256 q) (small : cell < length pool.packets) where
    abbrev put_packets : List (Option Packet)
    put_packets = set pool.packets cell (Some p)

    apart_put : 256 ≡ q → ⊥
    apart_put e = omega (arith, below)

    put_other : (r k : ℕ) → r < 256 → k < count_of pool.links r → content put_packets links' r k ≡ content pool.packets pool.links r k
    put_other r k hr lt =
        ap (λ (c : ℕ). get_or put_packets c None) (s.kept r k (λ e. omega arith) lt)
        ∙ get_or-set_other pool.packets cell (cell_in pool.links.next (first_cells pool.links.queues) r k) (Some p) None
        (λ same. let e : r ≡ 256 = pool.links.queued (r, k) (256, 0) (lt, free.0, same ∙ free.1) in omega arith)

    put_here : content put_packets links' q (count_of pool.links q) ≡ Some p
    put_here =
        ap (λ (c : ℕ). get_or put_packets c None) (s.came ∙ sym free.1) ∙ get_or-set_same pool.packets cell (Some p) None small

    put_count : (r : ℕ) → r < 256 → (r ≡ q → ⊥) → count_of links' r ≡ count_of pool.links r
    put_count r hr ne =
        ap (λ (xs : List ℕ). get_or xs r 0) s.counts
        ∙ shifts.count_other (lengths pool.links.queues) 256 q (long_of pool.links) (omega arith) (omega (arith, below)) apart_put free.0 r (λ e. omega arith) ne

    put_count_here : count_of links' q ≡ count_of pool.links q + 1
    put_count_here =
        ap (λ (xs : List ℕ). get_or xs q 0) s.counts
        ∙ shifts.count_to (lengths pool.links.queues) 256 q (long_of pool.links) (omega arith) (omega (arith, below)) apart_put free.0

    pub put_lists : lists_in put_packets links' ≡ with_flow (lists_in pool.packets pool.links) i j (lists_in pool.packets pool.links i j ++ p ∷ [])
    put_lists =
        changed (queue_packets put_packets links') (lists_in pool.packets pool.links i j ++ p ∷ [])
        (ap (λ (n : ℕ). packets_below n (content put_packets links' q)) put_count_here
        ∙ below_push (count_of pool.links q) (content put_packets links' q)
        ∙ ap (λ (o : Option Packet). packets_below (count_of pool.links q) (content put_packets links' q) ++ packets_of o) put_here
        ∙ ap (λ (ps : List Packet). ps ++ p ∷ [])
        (below_same (count_of pool.links q) (content put_packets links' q) (content pool.packets pool.links q) (λ k lt. put_other q k below lt)
        ∙ sym list_is))
        (λ r hr ne. ap (λ (n : ℕ). packets_below n (content put_packets links' r)) (put_count r hr ne)
        ∙ below_same (count_of pool.links r) (content put_packets links' r) (content pool.packets pool.links r) (λ k lt. put_other r k hr lt))

    pub put_filled : Filled put_packets links'
    put_filled r k hs =
        ⊎_elim
        (λ (here : r ≡ q).
        let longer = ap (count_of links') here in
        ⊎_elim
        (λ (end : k ≡ count_of pool.links q).
        ap is_some (ap (λ c. content put_packets links' c k) here ∙ ap (content put_packets links' q) end ∙ put_here))
        (λ (inner : k ≡ count_of pool.links q → ⊥).
        let same = ap (count_of pool.links) here in
        let lt : k < count_of pool.links r = omega (arith, hs.1, put_count_here) in
        ap is_some (put_other r k hs.0 lt) ∙ pool.filled r k (hs.0, lt))
        (cases_eq k (count_of pool.links q)))
        (λ (there : r ≡ q → ⊥).
        let lt : k < count_of pool.links r = omega (arith, hs.1, put_count r hs.0 there) in
        ap is_some (put_other r k hs.0 lt) ∙ pool.filled r k (hs.0, lt))
        (cases_eq r q)

  -- the first cell of the flow becomes free
  module _ (links' : Links) (some : 0 < count_of pool.links q) (s : ShiftedIn pool.links links' q 256) where
    apart_remove : q ≡ 256 → ⊥
    apart_remove e = omega (arith, below)

    remove_other : (r k : ℕ) → (r ≡ q → ⊥) → k < count_of pool.links r → content pool.packets links' r k ≡ content pool.packets pool.links r k
    remove_other r k ne lt = ap (λ (c : ℕ). get_or pool.packets c None) (s.kept r k ne lt)

    remove_here : (k : ℕ) → k + 1 < count_of pool.links q → content pool.packets links' q k ≡ content pool.packets pool.links q (suc k)
    remove_here k lt =
        ap (λ (c : ℕ). get_or pool.packets c None) (s.moved k lt) ∙ ap (content pool.packets pool.links q) (add-one k)

    remove_count : (r : ℕ) → r < 256 → (r ≡ q → ⊥) → count_of links' r ≡ count_of pool.links r
    remove_count r hr ne =
        ap (λ (xs : List ℕ). get_or xs r 0) s.counts
        ∙ shifts.count_other (lengths pool.links.queues) q 256 (long_of pool.links) (omega (arith, below)) (omega arith) apart_remove some r ne (λ e. omega arith)

    remove_count_here : suc (count_of links' q) ≡ count_of pool.links q
    remove_count_here =
        let e = ap (λ (xs : List ℕ). get_or xs q 0) s.counts in
        let f = shifts.count_from (lengths pool.links.queues) q 256 (long_of pool.links) (omega (arith, below)) (omega arith) apart_remove some in
        omega arith

    pub remove_lists : lists_in pool.packets links' ≡ with_flow (lists_in pool.packets pool.links) i j (drop 1 (lists_in pool.packets pool.links i j))
    remove_lists =
        let n = count_of links' q in
        changed (queue_packets pool.packets links') (drop 1 (lists_in pool.packets pool.links i j))
        (below_same n (content pool.packets links' q) (λ k. content pool.packets pool.links q (suc k)) (λ k lt. remove_here k (omega (arith, remove_count_here)))
        ∙ sym (below_drop n (content pool.packets pool.links q) (λ k lt. pool.filled q k (below, omega (arith, remove_count_here))))
        ∙ ap (λ (m : ℕ). drop 1 (packets_below m (content pool.packets pool.links q))) remove_count_here
        ∙ ap (drop 1) (sym list_is))
        (λ r hr ne. ap (λ (m : ℕ). packets_below m (content pool.packets links' r)) (remove_count r hr ne)
        ∙ below_same (count_of pool.links r) (content pool.packets links' r) (content pool.packets pool.links r) (λ k lt. remove_other r k ne lt))

    pub remove_filled : Filled pool.packets links'
    remove_filled r k hs =
        ⊎_elim
        (λ (here : r ≡ q).
        let shorter = ap (count_of links') here in
        let lt : k + 1 < count_of pool.links q = omega (arith, hs.1, remove_count_here) in
        ap is_some (ap (λ (c : ℕ). content pool.packets links' c k) here ∙ remove_here k lt) ∙ pool.filled q (suc k) (below, omega arith))
        (λ (there : r ≡ q → ⊥).
        let lt : k < count_of pool.links r = omega (arith, hs.1, remove_count r hs.0 there) in
        ap is_some (remove_other r k there lt) ∙ pool.filled r k (hs.0, lt))
        (cases_eq r q)

    -- a cell is free after
    pub remove_room : full_at_512 (lists_in pool.packets links') i j ≡ false
    remove_room =
        let e = ap (λ (xs : List ℕ). get_or xs 256 0) s.counts in
        let f = shifts.count_to (lengths pool.links.queues) q 256 (long_of pool.links) (omega (arith, below)) (omega arith) apart_remove some in
        let free : 0 < count_of links' 256 = omega arith in
        let full = full_is (record { packets = pool.packets; links = links'; filled = remove_filled }) i j inside in
        grind (arith, nat_tests)

-- a pool of which no cell is in use
module _ (packets : List (Option Packet)) (links : Links) (counts : lengths links.queues ≡ counts_fresh) where
  count_none : (q : ℕ) → q < 256 → count_of links q ≡ 0
  count_none q hq = ap (λ (xs : List ℕ). get_or xs q 0) counts ∙ count_other q (λ e. omega arith)

  pub fresh_filled : Filled packets links
  fresh_filled q k hs = absurd (omega (arith, hs.1, count_none q hs.0))

  pub fresh_lists : lists_in packets links ≡ (λ _ _. [])
  fresh_lists =
      fun_ext (λ i. fun_ext (λ j. cond_both (in_grid i j) (queue_packets packets links (16 * i + j)) [] (λ ps. ps ≡ [])
      (λ h. let ports = ports_inside i j h in
      ap (λ (n : ℕ). packets_below n (content packets links (16 * i + j))) (count_none (16 * i + j) (omega arith))
      ∙ below_none (content packets links (16 * i + j)))
      (λ _. refl)))
