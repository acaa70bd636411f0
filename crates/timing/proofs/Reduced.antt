-- `reduce`, at a closure that changes nothing it captures.
use Rattle.std.proofs.Common.{◌≡◌, List, [], ◌∷◌, Some, None, Option, refl, ap, subst}
use Rattle.std.proofs.lemmas.Iterator.{YieldsList}
use Rattle.std.proofs.lemmas.Iterator.Consumers.{reduce_from_yields_List}
use Rattle.std.specs.Fn.{Called}
use Rattle.std.specs.Iterator.{FoldTurn, ReducesItems}
use Rattle.std.specs.List.{FoldsTo, reduce}
use denote.Param.Members.{Mut}

module _ {A F : Type 0} (g : Mut F (A × (A × Unit {0})) A) (h : A → A → A) (f : F) (computes : (x y r : A) (q : F) → Called g f (x, (y, tt)) r q → (q ≡ f) × (r ≡ h x y)) where
  turns : (xs : List A) (p q : F) (x y : A) → p ≡ f → FoldsTo {P = F × A} (FoldTurn g) (p, x) xs (q, y) → FoldsTo (λ a z b. b ≡ h a z) x xs y
  turns [] p q x y same folds = ap (λ s. s.1) folds
  turns (z ∷ xs) p q x y same folds =
      let one = computes x z folds.0.1 folds.0.0 (subst (λ k. Called g k (x, (z, tt)) folds.0.1 folds.0.0) same folds.1) in
      (folds.0.1, one.1, turns xs folds.0.0 q folds.0.1 y one.0 folds.2)

  module _ {S : Type 0} {steps : S → Option A → S → Type 0} {all : List A} (s : S) (road : YieldsList steps (λ x. x) s all) where
    first : (r : Option A) → ReducesItems steps g s f r → r ≡ reduce h all
    first None ran = reduce_from_yields_List h s None ran road
    first (Some y) ran = reduce_from_yields_List h s (Some y) (ran.0, ran.1, ran.3, turns ran.1 f ran.2 ran.0 y refl ran.4) road

pub reduced : {S A F : Type 0} {steps : S → Option A → S → Type 0} {all : List A} (g : Mut F (A × (A × Unit {0})) A) (h : A → A → A) {f : F} (s : S) (r : Option A)
    → ReducesItems steps g s f r → YieldsList steps (λ x. x) s all → ((x y v : A) (q : F) → Called g f (x, (y, tt)) v q → (q ≡ f) × (v ≡ h x y)) → r ≡ reduce h all
reduced g h {f} s r ran road computes = first g h f computes s road r ran
