-- Facts of each element, and of each pair, of a list that is joined from parts. Assumes nothing.
use Rattle.std.proofs.Common.{ℕ, zero, suc, ◌+◌, ◌-◌, ◌<◌, ◌≤◌, List, [], ◌∷◌, ◌++◌, map, length, get_or, sym, refl, subst, ⊎_elim, length-append, arith}
use Rattle.std.proofs.lemmas.Bool.{cases_lt}
use Rattle.std.proofs.lemmas.List.{get_or_append_left, get_or-append_right}
use Rattle.std.proofs.lemmas.List.Elements.{All-nil, All-append, All-map}
use Rattle.std.specs.List.{range_with_len, flat_map, All, AllPairs}

module _ {X : Type 0} (R : X → X → Type 0) where
  pub pairs_none : AllPairs R []
  pairs_none i j d l h = absurd (omega arith)

  -- elements of which each may stand before each
  pub pairs_alike : (P : X → Type 0) → ((x y : X) → P x → P y → R x y) → (xs : List X) → All P xs → AllPairs R xs
  pairs_alike P f xs all i j d l h = f (get_or xs i d) (get_or xs j d) (all i d (omega arith)) (all j d h)

  pub pairs_append : (xs ys : List X) → AllPairs R xs → AllPairs R ys → All (λ x. All (R x) ys) xs → AllPairs R (xs ++ ys)
  pairs_append xs ys p q across i j d l h =
      let n = length xs in
      let long = length-append xs ys in
      ⊎_elim
      (λ (lj : j < n).
      subst (λ y. R (get_or (xs ++ ys) i d) y) (sym (get_or_append_left xs ys d j lj))
      (subst (λ x. R x (get_or xs j d)) (sym (get_or_append_left xs ys d i (omega arith))) (p i j d l lj)))
      (λ (uj : n ≤ j).
      subst (λ y. R (get_or (xs ++ ys) i d) y) (sym (get_or-append_right xs ys n j d refl uj))
      (⊎_elim
      (λ (li : i < n). subst (λ x. R x (get_or ys (j - n) d)) (sym (get_or_append_left xs ys d i li)) (across i d li (j - n) d (omega (arith, long))))
      (λ (ui : n ≤ i). subst (λ x. R x (get_or ys (j - n) d)) (sym (get_or-append_right xs ys n i d refl ui)) (q (i - n) (j - n) d (omega arith) (omega (arith, long))))
      (cases_lt i n)))
      (cases_lt j n)

  pub pairs_cons : (x : X) (xs : List X) → All (R x) xs → AllPairs R xs → AllPairs R (x ∷ xs)
  pairs_cons x xs first rest i zero d l h = absurd (omega arith)
  pairs_cons x xs first rest zero (suc j) d l h = first j d (omega arith)
  pairs_cons x xs first rest (suc i) (suc j) d l h = rest i j d (omega arith) (omega arith)

pub pairs_map : {X Y : Type 0} (R : Y → Y → Type 0) (f : X → Y) (xs : List X) → AllPairs (λ a b. R (f a) (f b)) xs → AllPairs R (map f xs)
pairs_map R f [] h = pairs_none R
pairs_map R f (x ∷ xs) h =
    pairs_cons R (f x) (map f xs) (All-map (R (f x)) f xs (λ j d l. h 0 (suc j) d (omega arith) (omega arith)))
    (pairs_map R f xs (λ i j d l m. h (suc i) (suc j) d (omega arith) (omega arith)))

-- of each part, and so of the whole
pub all_joined : {X : Type 0} (P : X → Type 0) (f : ℕ → List X) (a n : ℕ) → ((k : ℕ) → a ≤ k → k < a + n → All P (f k)) → All P (flat_map f (range_with_len a n))
all_joined P f a zero h = All-nil P
all_joined P f a (suc n) h = All-append P (f a) (flat_map f (range_with_len (a + 1) n)) (h a (omega arith) (omega arith)) (all_joined P f (a + 1) n (λ k l u. h k (omega arith) (omega arith)))

pub pairs_joined : {X : Type 0} (R : X → X → Type 0) (f : ℕ → List X) (a n : ℕ) → ((k : ℕ) → a ≤ k → k < a + n → AllPairs R (f k)) →
    ((k m : ℕ) → a ≤ k → k < m → m < a + n → All (λ x. All (R x) (f m)) (f k)) → AllPairs R (flat_map f (range_with_len a n))
pairs_joined R f a zero h across = pairs_none R
pairs_joined R f a (suc n) h across =
    pairs_append R (f a) (flat_map f (range_with_len (a + 1) n)) (h a (omega arith) (omega arith))
    (pairs_joined R f (a + 1) n (λ k l u. h k (omega arith) (omega arith)) (λ k m l h' u. across k m (omega arith) h' (omega arith)))
    (λ i d l. all_joined (R (get_or (f a) i d)) f (a + 1) n (λ k low high. across a k (omega arith) (omega arith) (omega arith) i d l))
