-- The marks level with the best of a row are those that stand first.
use Rattle.std.proofs.Common.{◌≡◌, ℕ, zero, suc, ◌<◌, Bool, true, false, cond, not, ◌&&◌, List, [], ◌∷◌, map, length, get_or, Some, None, fold, Option, sym, refl, ap, ◌∙◌}
use Rattle.std.specs.List.{filter_map, reduce}
use Rattle.std.proofs.lemmas.List.FromFn.{fill_by_all}
use Rattle.std.proofs.lemmas.List.{get_or-map, length-map}
use Rattle.std.proofs.lemmas.Bool.{true≢false}
use Rattle.std.proofs.lemmas.Option.{none-some}
use Rattle.std.proofs.Math.Bool.{and_assoc, and-true}
use Rattle.timing.specs.Marks.{better, none_before, stands_first}

keeps : (a b : Bool) → (a ≡ false → b ≡ false) → not a ≡ (not a && not b)
keeps true b h = refl
keeps false b h = sym (ap not (h refl))

takes : (a b : Bool) → (b ≡ false → a ≡ false) → not b ≡ (not a && not b)
takes true true h = refl
takes false true h = refl
takes true false h = absurd (true≢false (h refl))
takes false false h = refl

-- there is a mark and a best one, which does not stand before it
abbrev pub level : {M : Type 0} → (M → M → Bool) → Option M → Option M → Bool
level before None b = false
level before (Some m) None = false
level before (Some m) (Some b) = not (before b m)

-- a list that has f of each element of another
pub mapped_from_get_or : {X Y : Type 0} (f : X → Y) (xs : List X) (ys : List Y) (d : X) (e : Y) → length ys ≡ length xs → ((k : ℕ) → k < length xs → get_or ys k e ≡ f (get_or xs k d)) → ys ≡ map f xs
mapped_from_get_or f xs ys d e same each =
    fill_by_all (λ k. f (get_or xs k d)) ys (length xs) e same each
    ∙ sym (fill_by_all (λ k. f (get_or xs k d)) (map f xs) (length xs) e (length-map xs f) (λ k h. get_or-map f xs k d e h))

module _ {M : Type 0} (before : M → M → Bool) (asymmetric : (x y : M) → before x y ≡ true → before y x ≡ false) (negatively_transitive : (x y z : M) → before x y ≡ false → before y z ≡ false → before x z ≡ false) where
  one_more : (x y m : M) (t : Bool) → before y x ≡ t → not (before (cond t y x) m) ≡ (not (before x m) && not (before y m))
  one_more x y m true e = takes (before x m) (before y m) (negatively_transitive x y m (asymmetric y x e))
  one_more x y m false e = keeps (before x m) (before y m) (negatively_transitive y x m e)

  none_better : (row : List (Option M)) (x m : M) → not (before (fold (better before) x (filter_map (λ o. o) row)) m) ≡ (not (before x m) && none_before before row m)
  none_better [] x m = sym (and-true (not (before x m)))
  none_better (None ∷ row) x m = none_better row x m
  none_better (Some y ∷ row) x m =
      none_better row (better before x y) m
      ∙ ap (λ t. t && none_before before row m) (one_more x y m (before y x) refl)
      ∙ and_assoc (not (before x m)) (not (before y m)) (none_before before row m)

  -- where m stands at a position of the row, there is a best mark
  level_with_best : (row : List (Option M)) (k : ℕ) (m : M) → get_or row k None ≡ Some m → level before (Some m) (reduce (better before) (filter_map (λ o. o) row)) ≡ none_before before row m
  level_with_best [] k m e = absurd (none-some m e)
  level_with_best (None ∷ row) zero m e = absurd (none-some m e)
  level_with_best (None ∷ row) (suc k) m e = level_with_best row k m e
  level_with_best (Some x ∷ row) k m e = none_better row x m

  pub chosen_first : (row : List (Option M)) (k : ℕ) (o : Option M) → get_or row k None ≡ o → level before o (reduce (better before) (filter_map (λ o. o) row)) ≡ stands_first before row o
  chosen_first row k None e = refl
  chosen_first row k (Some m) e = level_with_best row k m e
