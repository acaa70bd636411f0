-- Laws of a table of 256 cells with one for each flow. Assumes nothing.
use Rattle.std.proofs.Common.{◌≡◌, ℕ, ◌+◌, ◌*◌, ◌<◌, ◌≤◌, true, false, cond, ◌&&◌, eqb, ltb, List, length, get_or, set, replicate, sym, refl, ap, ◌∙◌, ⊎_elim, arith}
use mathlib.Core.Path.{fun_ext}
use Rattle.std.proofs.lemmas.Bool.Decides.{nat_tests}
use Rattle.std.proofs.lemmas.Bool.{lt-ltb, ltb-true, eqb-true, eq-eqb, cases_lt, cases_eq, cond_both, and_parts}
use Rattle.std.proofs.lemmas.List.{get_or-set_same, get_or-set_other, get_or-replicate, get_or_past, length-replicate, get_or_default}
use Rattle.grid.specs.Flows.{in_grid, flow_of, flow_in, with_flow}

-- the two ports of a flow that is inside
pub ports_inside : (i j : ℕ) → in_grid i j ≡ true → (i < 16) × (j < 16)
ports_inside i j h =
    let both = and_parts (ltb i 16) (ltb j 16) h in (ltb-true i 16 both.0, ltb-true j 16 both.1)

-- a change of one entry, seen through a function of the entries
pub with_flow_map : {X Y : Type 0} (f : X → Y) (table : ℕ → ℕ → X) (i j : ℕ) (x : X) → (λ (a b : ℕ). f (with_flow table i j x a b)) ≡ with_flow (λ a b. f (table a b)) i j (f x)
with_flow_map f table i j x =
    fun_ext (λ a. fun_ext (λ b. elim (eqb a i && eqb b j) as (λ t. f (cond t x (table a b)) ≡ cond t (f x) (f (table a b))) [ true ↦ refl | false ↦ refl ]))

-- no change
pub with_flow_same : {X : Type 0} (table : ℕ → ℕ → X) (i j : ℕ) → with_flow table i j (table i j) ≡ table
with_flow_same table i j =
    fun_ext (λ a. fun_ext (λ b. cond_both (eqb a i && eqb b j) (table i j) (table a b) (λ x. x ≡ table a b)
    (λ same. let both = and_parts (eqb a i) (eqb b j) same in ap (λ (k : ℕ). table k j) (sym (eqb-true a i both.0)) ∙ ap (table a) (sym (eqb-true b j both.1)))
    (λ _. refl)))

module _ {X : Type 0} (d : X) where
  -- inside the ports, an entry is its cell
  pub flow_cell : (cell : ℕ → X) (i j : ℕ) → i < 16 → j < 16 → flow_of d cell i j ≡ cell (16 * i + j)
  flow_cell cell i j hi hj = rw (lt-ltb i 16 hi, lt-ltb j 16 hj)

  -- the same of a list of cells, at any default
  pub flow_read : (cells : List X) (i j : ℕ) (x : X) → i < 16 → j < 16 → length cells ≡ 256 → flow_in d cells i j ≡ get_or cells (16 * i + j) x
  flow_read cells i j x hi hj long =
      flow_cell (λ k. get_or cells k d) i j hi hj ∙ get_or_default cells (16 * i + j) d x (omega arith)

  -- a change of one cell changes the entry of its flow alone
  flow_change : (f g : ℕ → X) (i j : ℕ) (x : X) → i < 16 → j < 16 → g (16 * i + j) ≡ x → ((k : ℕ) → k < 256 → (k ≡ 16 * i + j → ⊥) → g k ≡ f k) → (a b : ℕ) → flow_of d g a b ≡ with_flow (flow_of d f) i j x a b
  flow_change f g i j x hi hj here other a b =
      ⊎_elim
      (λ (ha : a < 16).
      ⊎_elim
      (λ (hb : b < 16).
      ⊎_elim
      (λ (same : 16 * a + b ≡ 16 * i + j).
      let e : a ≡ i = omega arith in
      let f : b ≡ j = omega arith in
      rw (lt-ltb a 16 ha, lt-ltb b 16 hb, eq-eqb a i e, eq-eqb b j f) (ap g same ∙ here))
      (λ (ne : 16 * a + b ≡ 16 * i + j → ⊥).
      let old = other (16 * a + b) (omega arith) ne in
      grind (arith, nat_tests))
      (cases_eq (16 * a + b) (16 * i + j)))
      (λ hb. grind (arith, nat_tests))
      (cases_lt b 16))
      (λ ha. grind (arith, nat_tests))
      (cases_lt a 16)

  -- the same, as an equation between the two tables
  pub flows_change : (f g : ℕ → X) (i j : ℕ) (x : X) → i < 16 → j < 16 → g (16 * i + j) ≡ x → ((k : ℕ) → k < 256 → (k ≡ 16 * i + j → ⊥) → g k ≡ f k) → flow_of d g ≡ with_flow (flow_of d f) i j x
  flows_change f g i j x hi hj here other =
      fun_ext (λ a. fun_ext (λ b. flow_change f g i j x hi hj here other a b))

  pub flows_set : (cells : List X) (i j : ℕ) (x : X) → i < 16 → j < 16 → length cells ≡ 256 → flow_in d (set cells (16 * i + j) x) ≡ with_flow (flow_in d cells) i j x
  flows_set cells i j x hi hj long =
      flows_change (λ k. get_or cells k d) (λ k. get_or (set cells (16 * i + j) x) k d) i j x hi hj
      (get_or-set_same cells (16 * i + j) x d (omega arith))
      (λ k _ ne. get_or-set_other cells (16 * i + j) k x d ne)

  -- the same two of the cell of a flow
  module _ (cells : List X) (i j cell : ℕ) (inside : in_grid i j ≡ true) (at : cell ≡ 16 * i + j) (long : length cells ≡ 256) where
    pub flow_at : (x : X) → flow_in d cells i j ≡ get_or cells cell x
    flow_at x = let ports = ports_inside i j inside in rw at (flow_read cells i j x ports.0 ports.1 long)

    pub flow_set : (x : X) → flow_in d (set cells cell x) ≡ with_flow (flow_in d cells) i j x
    flow_set x = let ports = ports_inside i j inside in rw at (flows_set cells i j x ports.0 ports.1 long)

  -- a table of equal cells
  get_or_same : (n k : ℕ) → get_or (replicate n d) k d ≡ d
  get_or_same n k =
      ⊎_elim
      (λ (h : k < n). get_or-replicate n k d d h)
      (λ (h : n ≤ k). get_or_past (replicate n d) k d (rw length-replicate h))
      (cases_lt k n)

  pub flows_same : flow_in d (replicate 256 d) ≡ (λ _ _. d)
  flows_same = fun_ext (λ i. fun_ext (λ j. cond_both (in_grid i j) _ _ (λ x. x ≡ d) (λ _. get_or_same 256 (16 * i + j)) (λ _. refl)))
