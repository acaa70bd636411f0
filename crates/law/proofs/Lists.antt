-- Lists made from a function of the index, and sums over lists.
use Rattle.std.proofs.Common.{◌≡◌, ℕ, zero, suc, ◌+◌, ◌*◌, ◌<◌, ◌≤◌, List, [], ◌∷◌, ◌++◌, cond, ltb, map, length, get_or, set, sum_by, sum, count_by, sym, refl, ap, ◌∙◌, subst, ⊎_elim, arith}
use Rattle.std.specs.List.{range_with_len, AllByRecursion}
use Rattle.std.proofs.ByRecursion.{All-from_get_or}
use Rattle.std.proofs.lemmas.List.FromFn.{get_or-map-range_with_len, length-map-range_with_len}
use Rattle.std.proofs.lemmas.List.{get_or-set_same, get_or-set_other, length-set, same_lists}
use Rattle.std.proofs.lemmas.Bool.{cases_eq}
use Rattle.std.proofs.lemmas.List.Sums.{sum-map, sum_by-append, sum_by-cons}
use Rattle.grid.specs.Flows.{sum_below}

module _ {X : Type 0} (f g : X → ℕ) where
  pub sum_by_mono : (xs : List X) → AllByRecursion (λ x. f x ≤ g x) xs → sum_by f xs ≤ sum_by g xs
  sum_by_mono [] h = omega arith
  sum_by_mono (x ∷ xs) h = omega (arith, sum_by_mono xs h.1, sum_by-cons f x xs, sum_by-cons g x xs, h.0)

pub sum_by_map : {X Y : Type 0} (f : Y → ℕ) (g : X → Y) (xs : List X) → sum_by f (map g xs) ≡ sum_by (λ x. f (g x)) xs
sum_by_map f g [] = refl
sum_by_map f g (x ∷ xs) =
    omega (arith, sum_by_map f g xs, sum_by-cons f (g x) (map g xs), sum_by-cons (λ x. f (g x)) x xs)

-- sums of elements that each keep a bound
module _ {X : Type 0} (A B C D : X → ℕ) (e : ℕ) where
  pub each_sum : (xs : List X) → AllByRecursion (λ x. A x + B x ≤ C x + D x * e) xs → sum_by A xs + sum_by B xs ≤ sum_by C xs + sum_by D xs * e
  each_sum [] h = omega arith
  each_sum (x ∷ xs) h =
      omega (arith, each_sum xs h.1, h.0, sum_by-cons A x xs, sum_by-cons B x xs, sum_by-cons C x xs, ap (λ v. v * e) (sum_by-cons D x xs))

  -- the same, where the element at k leaves e to spare
  pub each_sum_but : (xs : List X) (k : ℕ) (d : X) → k < length xs → AllByRecursion (λ x. A x + B x ≤ C x + D x * e) xs → A (get_or xs k d) + B (get_or xs k d) + e ≤ C (get_or xs k d) + D (get_or xs k d) * e → sum_by A xs + sum_by B xs + e ≤ sum_by C xs + sum_by D xs * e
  each_sum_but [] k d l h at = absurd (omega arith)
  each_sum_but (x ∷ xs) zero d l h at =
      omega (arith, each_sum xs h.1, at, sum_by-cons A x xs, sum_by-cons B x xs, sum_by-cons C x xs, ap (λ v. v * e) (sum_by-cons D x xs))
  each_sum_but (x ∷ xs) (suc k) d l h at =
      omega (arith, each_sum_but xs k d (omega arith) h.1 at, h.0, sum_by-cons A x xs, sum_by-cons B x xs, sum_by-cons C x xs, ap (λ v. v * e) (sum_by-cons D x xs))

-- lists made from a function of the index
pub map_same : {X : Type 0} (f g : ℕ → X) (n : ℕ) → ((m : ℕ) → m < n → f m ≡ g m) → map f (range_with_len 0 n) ≡ map g (range_with_len 0 n)
map_same f g n h =
    same_lists (map f (range_with_len 0 n)) (map g (range_with_len 0 n))
    (length-map-range_with_len f 0 n ∙ sym (length-map-range_with_len g 0 n))
    (λ k d l.
    let in-n : k < n = rw length-map-range_with_len at l in
    get_or-map-range_with_len f 0 n k k d in-n (omega arith) ∙ h k in-n ∙ sym (get_or-map-range_with_len g 0 n k k d in-n (omega arith)))

pub map_set_at : {X : Type 0} (f g : ℕ → X) (n k : ℕ) → k < n → ((m : ℕ) → m < n → (m ≡ k → ⊥) → g m ≡ f m) → map g (range_with_len 0 n) ≡ set (map f (range_with_len 0 n)) k (g k)
map_set_at f g n k h same =
    let long : k < length (map f (range_with_len 0 n)) = rw length-map-range_with_len h in
    same_lists (map g (range_with_len 0 n)) (set (map f (range_with_len 0 n)) k (g k))
    (length-map-range_with_len g 0 n ∙ sym (length-map-range_with_len f 0 n) ∙ sym (length-set (map f (range_with_len 0 n)) k (g k)))
    (λ m d l.
    let in-n : m < n = rw length-map-range_with_len at l in
    let at-m = get_or-map-range_with_len g 0 n m m d in-n (omega arith) in
    ⊎_elim
    (λ (e : m ≡ k).
    at-m ∙ ap g e ∙ sym (get_or-set_same (map f (range_with_len 0 n)) k (g k) d long) ∙ ap (λ v. get_or (set (map f (range_with_len 0 n)) k (g k)) v d) (sym e))
    (λ (ne : m ≡ k → ⊥).
    at-m ∙ same m in-n ne ∙ sym (get_or-map-range_with_len f 0 n m m d in-n (omega arith)) ∙ sym (get_or-set_other (map f (range_with_len 0 n)) k m (g k) d ne))
    (cases_eq m k))

pub all_map_counting : {X : Type 0} (P : X → Type 0) (f : ℕ → X) (n : ℕ) (d : X) → ((m : ℕ) → m < n → P (f m)) → AllByRecursion P (map f (range_with_len 0 n))
all_map_counting P f n d h =
    All-from_get_or P (map f (range_with_len 0 n)) d
    (λ k l.
    let in-n : k < n = rw length-map-range_with_len at l in
    subst P (sym (get_or-map-range_with_len f 0 n k k d in-n (omega arith))) (h k in-n))

-- the numbers from a on, in two parts
pub counting_parts : (a n m : ℕ) → range_with_len a n ++ range_with_len (a + n) m ≡ range_with_len a (n + m)
counting_parts a zero m =
    let e : a + 0 ≡ a = omega arith in
    let f : m ≡ 0 + m = omega arith in
    ap (λ (k : ℕ). range_with_len k m) e ∙ ap (λ (k : ℕ). range_with_len a k) f
counting_parts a (suc n) m =
    let e : a + suc n ≡ a + 1 + n = omega arith in
    let f : suc (n + m) ≡ suc n + m = omega arith in
    ap (λ (xs : List ℕ). a ∷ xs) (ap (λ (k : ℕ). range_with_len (a + 1) n ++ range_with_len k m) e ∙ counting_parts (a + 1) n m)
    ∙ ap (λ (k : ℕ). range_with_len a k) f

-- a sum over the first numbers, two ways
pub sum_counting : (f : ℕ → ℕ) (n : ℕ) → sum (map f (range_with_len 0 n)) ≡ sum_below n f
unfolding sum_below
sum_counting f zero = refl
sum_counting f (suc n) =
    let z : 0 + n ≡ n = omega arith in
    let y : n + 1 ≡ suc n = omega arith in
    let parts = ap (λ (k : ℕ). range_with_len 0 n ++ range_with_len k 1) (sym z) ∙ counting_parts 0 n 1 ∙ ap (λ (k : ℕ). range_with_len 0 k) y in
    let whole = sum-map f (range_with_len 0 (suc n)) ∙ ap (sum_by f) (sym parts) ∙ sum_by-append f (range_with_len 0 n) (range_with_len n 1) in
    omega (arith, whole, sum_counting f n, sum-map f (range_with_len 0 n), sum_by-cons f n [])

-- and how many of them are above 0
pub count_counting : (f : ℕ → ℕ) (n : ℕ) → count_by (λ x. ltb 0 x) (map f (range_with_len 0 n)) ≡ sum_below n (λ k. cond (ltb 0 (f k)) 1 0)
count_counting f n =
    let one : ℕ → ℕ = λ x. cond (ltb 0 x) 1 0 in
    sum_by_map one f (range_with_len 0 n) ∙ sym (sum-map (λ k. one (f k)) (range_with_len 0 n)) ∙ sum_counting (λ k. one (f k)) n
