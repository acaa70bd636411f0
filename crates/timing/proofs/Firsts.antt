-- What `tied` says of a position.
use Rattle.std.proofs.Common.{◌≡◌, ℕ, zero, suc, Bool, true, false, not, List, [], ◌∷◌, map, get_or, Some, None, Decides, Option, sym, refl, ap, ◌∙◌, subst}
use Rattle.std.proofs.lemmas.Option.{none-some}
use Rattle.std.proofs.lemmas.Bool.{and_from, and_parts, both_ways, not_from_false, not-true}
use Rattle.timing.specs.Marks.{First, none_before, stands_first, tied}

get_or_mapped : {X : Type 0} (f : Option X → Bool) → f None ≡ false → (row : List (Option X)) (k : ℕ) → get_or (map f row) k false ≡ f (get_or row k None)
get_or_mapped f e [] k = sym e
get_or_mapped f e (x ∷ row) zero = refl
get_or_mapped f e (x ∷ row) (suc k) = get_or_mapped f e row k

module _ {M : Type 0} (before : M → M → Bool) where
  pub none_holds : (row : List (Option M)) (m : M) → none_before before row m ≡ true → (j : ℕ) (x : M) → get_or row j None ≡ Some x → before x m ≡ false
  none_holds [] m h j x e = absurd (none-some x e)
  none_holds (None ∷ row) m h zero x e = absurd (none-some x e)
  none_holds (None ∷ row) m h (suc j) x e = none_holds row m h j x e
  none_holds (Some y ∷ row) m h zero x e =
      let same : y ≡ x = cc in
      ap (λ v. before v m) (sym same) ∙ not-true (before y m) (and_parts (not (before y m)) (none_before before row m) h).0
  none_holds (Some y ∷ row) m h (suc j) x e = none_holds row m (and_parts (not (before y m)) (none_before before row m) h).1 j x e

  holds_none : (row : List (Option M)) (m : M) → ((j : ℕ) (x : M) → get_or row j None ≡ Some x → before x m ≡ false) → none_before before row m ≡ true
  holds_none [] m h = refl
  holds_none (None ∷ row) m h = holds_none row m (λ j x e. h (suc j) x e)
  holds_none (Some y ∷ row) m h =
      and_from (not (before y m)) (none_before before row m) (not_from_false (before y m) (h zero y refl)) (holds_none row m (λ j x e. h (suc j) x e))

  stands_decides : (row : List (Option M)) (o : Option M) → Decides (stands_first before row o) ((m : M) × (o ≡ Some m) × ((j : ℕ) (x : M) → get_or row j None ≡ Some x → before x m ≡ false))
  stands_decides row None = (λ e. absurd (both_ways false refl e), λ h. absurd (none-some h.0 h.1))
  stands_decides row (Some m) =
      (λ e. (m, refl, none_holds row m e), λ h. let same : h.0 ≡ m = cc in holds_none row m (λ j x e. ap (λ v. before x v) (sym same) ∙ h.2 j x e))

  pub tied_decides : (row : List (Option M)) (k : ℕ) → Decides (get_or (tied before row) k false) (First before row k)
  tied_decides row k =
      let P : Bool → Type 0 = λ b. Decides b (First before row k) in
      subst P (sym (get_or_mapped (stands_first before row) refl row k)) (stands_decides row (get_or row k None))
