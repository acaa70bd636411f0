-- Lists: an element after a front is dropped or filled in, and lists made from a function of the index.
use Rattle.std.proofs.Common.{◌≡◌, ℕ, zero, suc, ◌+◌, ◌<◌, ◌≤◌, Bool, true, false, cond, List, [], ◌∷◌, ◌++◌, map, length, get_or, drop, replicate, set, None, Option, sym, refl, ap, ◌∙◌, ⊎_elim, zero-add, arith}
use mathlib.Core.Path.{fun_ext}
use Rattle.std.specs.List.{slice_get, range_with_len, flat_map}
use Rattle.std.proofs.lemmas.Bool.{cases_lt, cases_eq, eq-eqb, ne_eqb}
use Rattle.std.proofs.lemmas.List.{get_or_past, get_or-set_same, get_or-set_other, get_or-replicate, length-replicate}
use Rattle.std.proofs.lemmas.List.FromFn.{get_or-map-range_with_len, length-map-range_with_len}
use Rattle.state.specs.Lines.{with_line}

pub nth_drop : {X : Type 0} (xs : List X) (d n : ℕ) → slice_get (drop d xs) n ≡ slice_get xs (d + n)
nth_drop xs zero n = ap (slice_get xs) (sym (zero-add n))
nth_drop [] (suc d) n = ap (slice_get []) (sym e)
  where
    e : suc d + n ≡ suc (d + n)
    e = omega arith
nth_drop (x ∷ xs) (suc d) n = nth_drop xs d n ∙ ap (slice_get (x ∷ xs)) e
  where
    e : suc (d + n) ≡ suc d + n
    e = omega arith

pub cond_both : {X : Type 0} (b : Bool) (x : X) → cond b x x ≡ x
cond_both true x = refl
cond_both false x = refl

pub drop_one : (n : ℕ) (us : List ℕ) → drop n (drop 1 us) ≡ drop (suc n) us
drop_one zero [] = refl
drop_one (suc n) [] = refl
drop_one n (u ∷ us) = refl

-- a row of nothing
pub row_none : {X : Type 0} (g : ℕ → Option X) (n : ℕ) → ((k : ℕ) → k < n → g k ≡ None) → (k : ℕ) → get_or (map g (range_with_len 0 n)) k None ≡ None
row_none g n h k =
    ⊎_elim
    (λ (l : k < n). get_or-map-range_with_len g 0 n k k None l (omega arith) ∙ h k l)
    (λ (l : n ≤ k). get_or_past (map g (range_with_len 0 n)) k None (omega (arith, length-map-range_with_len g 0 n, l)))
    (cases_lt k n)

-- lists put one after another that are the same, or empty
pub joined_same : {X : Type 0} (f g : ℕ → List X) (a n : ℕ) → ((k : ℕ) → k < a + n → f k ≡ g k) → flat_map f (range_with_len a n) ≡ flat_map g (range_with_len a n)
joined_same f g a zero h = refl
joined_same f g a (suc n) h = λ x. h a (omega arith) x ++ joined_same f g (a + 1) n (λ k l. h k (omega (arith, l))) x

pub joined_none : {X : Type 0} (f : ℕ → List X) (a n : ℕ) → ((k : ℕ) → a ≤ k → k < a + n → f k ≡ []) → flat_map f (range_with_len a n) ≡ []
joined_none f a zero h = refl
joined_none f a (suc n) h = ap (λ xs. xs ++ flat_map f (range_with_len (a + 1) n)) (h a (omega arith) (omega arith)) ∙ joined_none f (a + 1) n (λ k from below. h k (omega arith) (omega arith))

-- the lines of 16 ports after one is replaced
pub lines_set : {X : Type 0} (d : X) (xs : List X) (i : ℕ) (x : X) → i < length xs → (λ a. get_or (set xs i x) a d) ≡ with_line (λ a. get_or xs a d) i x
lines_set d xs i x h =
    fun_ext (λ a. ⊎_elim
    (λ (e : a ≡ i). rw (eq-eqb a i e) (ap (λ b. get_or (set xs i x) b d) e ∙ get_or-set_same xs i x d h))
    (λ (ne : a ≡ i → ⊥). rw (ne_eqb a i ne) (get_or-set_other xs i a x d ne))
    (cases_eq a i))

-- and at first
pub lines_same : {X : Type 0} (d : X) (n : ℕ) → ◌≡◌ {A = ℕ → X} (λ a. get_or (replicate n d) a d) (λ _. d)
lines_same d n =
    fun_ext (λ k. ⊎_elim (λ (h : k < n). get_or-replicate n k d d h) (λ (h : n ≤ k). get_or_past (replicate n d) k d (rw length-replicate h)) (cases_lt k n))
