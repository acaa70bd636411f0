-- Writes of one ring, and no packets at all. Assumes nothing.
use Rattle.std.proofs.Common.{◌≡◌, ℕ, zero, suc, ◌+◌, ◌*◌, ◌<◌, ◌≤◌, Bool, true, false, cond, List, [], ◌∷◌, length, get_or, set, sym, refl, ap, ◌∙◌, ⊎_elim, arith}
use mathlib.Core.Path.{fun_ext}
use Rattle.std.proofs.lemmas.Bool.{cases_lt, cond_both}
use Rattle.std.proofs.lemmas.List.{get_or_past}
use Rattle.arrayvec.specs.ArrayVec.{ArrayVec}
use Rattle.store.specs.declared.packet.Packet.{Packet}
use Rattle.store.specs.Stored.{noted, started_across}
use Rattle.grid.specs.Flows.{in_grid, flow_in, with_flow}
use Rattle.grid.proofs.Flows.{flow_at, flow_set, with_flow_map, with_flow_same}
use Rattle.rings.specs.Held.{empty, lists_in, AtMostTwo}

-- the lists of a table of rings
abbrev lists_of : (ℕ → ℕ → ArrayVec Packet) → ℕ → ℕ → List Packet
lists_of table i j = (table i j).items

-- the start of the k-th packet is a write of it
noted_set : (k t : ℕ) (ps : List Packet) (d : Packet) → k < length ps → set ps k (started_across t (get_or ps k d)) ≡ noted k t ps
noted_set k t [] d h = absurd (omega arith)
noted_set zero t (p ∷ ps) d h = refl
noted_set (suc k) t (p ∷ ps) d h = ap (λ (qs : List Packet). p ∷ qs) (noted_set k t ps d (omega arith))

module _ (rings : List (ArrayVec Packet)) (i j cell : ℕ) (inside : in_grid i j ≡ true) (at : cell ≡ 16 * i + j) (long : length rings ≡ 256) where
  pub ring_at : (d : ArrayVec Packet) → lists_in rings i j ≡ (get_or rings cell d).items
  ring_at d = ap (λ (ring : ArrayVec Packet). ring.items) (flow_at empty rings i j cell inside at long d)

  pub ring_set : (ring : ArrayVec Packet) → lists_in (set rings cell ring) ≡ with_flow (lists_in rings) i j ring.items
  ring_set ring =
      ap lists_of (flow_set empty rings i j cell inside at long ring)
      ∙ with_flow_map (λ (r : ArrayVec Packet). r.items) (flow_in empty rings) i j ring

  -- a write that changes the ring if the call is granted
  pub ring_set_if : (ring : ArrayVec Packet) (granted : Bool) (items : List Packet) → ring.items ≡ cond granted items (lists_in rings i j) → lists_in (set rings cell ring) ≡ cond granted (with_flow (lists_in rings) i j items) (lists_in rings)
  ring_set_if ring granted items is =
      ring_set ring ∙ ap (with_flow (lists_in rings) i j) is
      ∙ elim granted as (λ g. with_flow (lists_in rings) i j (cond g items (lists_in rings i j)) ≡ cond g (with_flow (lists_in rings) i j items) (lists_in rings)) [ true ↦ refl | false ↦ with_flow_same (lists_in rings) i j ]

  -- a write of the start of the k-th packet of the ring
  pub ring_noted : (k t : ℕ) (d : ArrayVec Packet) (p after : Packet) → k < length (get_or rings cell d).items → p ≡ get_or (get_or rings cell d).items k p → after ≡ started_across t p →
      lists_in (set rings cell record { items = set (get_or rings cell d).items k after }) ≡ with_flow (lists_in rings) i j (noted k t (lists_in rings i j))
  ring_noted k t d p after few was is =
      let ps = (get_or rings cell d).items in
      ring_set _
      ∙ ap (with_flow (lists_in rings) i j)
      (ap (set ps k) (is ∙ ap (started_across t) was) ∙ noted_set k t ps p few ∙ ap (noted k t) (sym (ring_at d)))

-- 256 rings with no packet
module _ (rings : List (ArrayVec Packet)) (none : (k : ℕ) → k < 256 → (get_or rings k empty).items ≡ []) (long : length rings ≡ 256) where
  no_items : (k : ℕ) → (get_or rings k empty).items ≡ []
  no_items k =
      ⊎_elim (none k) (λ (h : 256 ≤ k). ap (λ (ring : ArrayVec Packet). ring.items) (get_or_past rings k empty (omega arith))) (cases_lt k 256)

  pub no_packets : lists_in rings ≡ (λ _ _. [])
  no_packets =
      fun_ext (λ i. fun_ext (λ j. cond_both (in_grid i j) _ _ (λ (ring : ArrayVec Packet). ring.items ≡ []) (λ _. no_items (16 * i + j)) (λ _. refl)))

  pub none_short : AtMostTwo rings
  none_short k = let short = ap length (no_items k) in omega arith
