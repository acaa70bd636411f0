-- How many packets have ended by a tick: not more than have started, and not fewer later.
use Rattle.std.proofs.Common.{◌≡◌, ℕ, suc, ◌+◌, ◌<◌, ◌≤◌, true, false, cond, leb, List, [], ◌∷◌, ◌++◌, length, refl, ap, ⊎_elim, arith}
use Rattle.std.proofs.lemmas.Bool.{leb-true, le-leb, lt-leb, cases_Bool, cond-false}
use Rattle.std.specs.List.{AllByRecursion}
use Rattle.timing.specs.Fluid.{Accepted}
use Rattle.law.specs.Journeys.{ended}

pub ended_le_starts : (t : ℕ) (ps : List Accepted) (us : List ℕ) → ended t ps us ≤ length us
unfolding ended
ended_le_starts t [] us = omega arith
ended_le_starts t (p ∷ ps) [] = omega arith
ended_le_starts t (p ∷ ps) (u ∷ us) =
    ⊎_elim
    (λ (e : leb (u + p.bytes) t ≡ true). rw e (omega (arith, ended_le_starts t ps us)))
    (λ (e : leb (u + p.bytes) t ≡ false). rw e (omega arith))
    (cases_Bool (leb (u + p.bytes) t))

pub ended_le_packets : (t : ℕ) (ps : List Accepted) (us : List ℕ) → ended t ps us ≤ length ps
unfolding ended
ended_le_packets t [] us = omega arith
ended_le_packets t (p ∷ ps) [] = omega arith
ended_le_packets t (p ∷ ps) (u ∷ us) =
    ⊎_elim
    (λ (e : leb (u + p.bytes) t ≡ true). rw e (omega (arith, ended_le_packets t ps us)))
    (λ (e : leb (u + p.bytes) t ≡ false). rw e (omega arith))
    (cases_Bool (leb (u + p.bytes) t))

-- one more packet, which has not started
pub ended_more_packets : (t : ℕ) (ps : List Accepted) (us : List ℕ) (q : Accepted) → length us ≤ length ps → ended t (ps ++ q ∷ []) us ≡ ended t ps us
unfolding ended
ended_more_packets t [] [] q h = refl
ended_more_packets t [] (u ∷ us) q h = absurd (omega arith)
ended_more_packets t (p ∷ ps) [] q h = refl
ended_more_packets t (p ∷ ps) (u ∷ us) q h = ap (λ (n : ℕ). cond (leb (u + p.bytes) t) (suc n) 0) (ended_more_packets t ps us q (omega arith))

-- one more start, at t
pub ended_more_starts : (t : ℕ) (ps : List Accepted) (us : List ℕ) → AllByRecursion (λ p. 0 < p.bytes) ps → ended t ps (us ++ t ∷ []) ≡ ended t ps us
unfolding ended
ended_more_starts t [] us some = refl
ended_more_starts t (p ∷ ps) [] some = cond-false {A = ℕ} (leb (t + p.bytes) t) _ _ (lt-leb (t + p.bytes) t (omega (arith, some.0)))
ended_more_starts t (p ∷ ps) (u ∷ us) some = ap (λ (n : ℕ). cond (leb (u + p.bytes) t) (suc n) 0) (ended_more_starts t ps us some.1)

-- a tick later
pub ended_later : (t : ℕ) (ps : List Accepted) (us : List ℕ) → ended t ps us ≤ ended (t + 1) ps us
unfolding ended
ended_later t [] us = omega arith
ended_later t (p ∷ ps) [] = omega arith
ended_later t (p ∷ ps) (u ∷ us) =
    ⊎_elim
    (λ (e : leb (u + p.bytes) t ≡ true).
    let f = le-leb (u + p.bytes) (t + 1) (omega (arith, leb-true (u + p.bytes) t e)) in
    rw (e, f) (omega (arith, ended_later t ps us)))
    (λ (e : leb (u + p.bytes) t ≡ false). rw e (omega arith))
    (cases_Bool (leb (u + p.bytes) t))
