-- Laws of lines put one after another. Assumes nothing.
use Rattle.std.proofs.Common.{◌≡◌, ℕ, zero, suc, ◌+◌, ◌<◌, ◌≤◌, List, [], ◌++◌, sym, refl, ap, ◌∙◌, ⊎_elim, add-one, arith}
use Rattle.std.proofs.lemmas.List.{append-nil, append_assoc}
use Rattle.std.proofs.lemmas.Bool.{cases_lt}
use Rattle.carry.specs.Lists.{join_below}

pub join_none : (f : ℕ → List ℕ) → join_below 0 f ≡ []
unfolding join_below
join_none f = refl

pub join_more : (n : ℕ) (f : ℕ → List ℕ) → join_below (n + 1) f ≡ join_below n f ++ f n
unfolding join_below
join_more n f = rw add-one

-- the pieces below k begin those below n
pub join_front : (k n : ℕ) (f : ℕ → List ℕ) → k ≤ n → (rest : List ℕ) × (join_below n f ≡ join_below k f ++ rest)
unfolding join_below
join_front k zero f h =
    let none : k ≡ 0 = omega arith in
    ([], ap (λ (m : ℕ). join_below m f) (sym none) ∙ sym (append-nil (join_below k f)))
join_front k (suc n) f h =
    ⊎_elim
    (λ (below : k < suc n).
    let front = join_front k n f (omega arith) in
    (front.0 ++ f n, ap (λ (xs : List ℕ). xs ++ f n) front.1 ∙ append_assoc (join_below k f) front.0 (f n)))
    (λ (above : suc n ≤ k).
    let all : k ≡ suc n = omega arith in
    ([], ap (λ (m : ℕ). join_below m f) (sym all) ∙ sym (append-nil (join_below k f))))
    (cases_lt k (suc n))
