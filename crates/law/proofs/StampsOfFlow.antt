-- The stamps of a flow's packets: as many as packets, of the same lengths, one after another.
use Rattle.std.proofs.Common.{◌≡◌, ℕ, zero, suc, ◌<◌, ◌≤◌, List, [], ◌∷◌, ◌++◌, length, get_or, sym, refl, ap, arith}
use Rattle.std.specs.List.{AllByRecursion}
use Rattle.timing.specs.Fluid.{Accepted, last_finish}
use Rattle.law.specs.Queues.{finish, stamp, stamps}
use Rattle.law.specs.Runs.{no_stamp}

module _ (W w : ℕ) where
  pub stamps_length : (ps : List Accepted) (f : ℕ) → length (stamps W w f ps) ≡ length ps
  stamps_length [] f = refl
  stamps_length (p ∷ ps) f = ap suc (stamps_length ps (finish W (stamp w f p)))

  pub stamps_push : (ps : List Accepted) (f : ℕ) (q : Accepted) → stamps W w f (ps ++ q ∷ []) ≡ stamps W w f ps ++ stamp w (last_finish W w f ps) q ∷ []
  stamps_push [] f q = refl
  stamps_push (p ∷ ps) f q = ap (λ more. stamp w f p ∷ more) (stamps_push ps (finish W (stamp w f p)) q)

-- a fact of each length
pub stamps_bytes : (P : ℕ → Type 0) (W w : ℕ) (ps : List Accepted) (f : ℕ) → AllByRecursion (λ p. P p.bytes) ps → AllByRecursion (λ a. P a.bytes) (stamps W w f ps)
stamps_bytes P W w [] f all = tt
stamps_bytes P W w (p ∷ ps) f all = (all.0, stamps_bytes P W w ps (finish W (stamp w f p)) all.1)

pub stamp_at_bytes : (W w : ℕ) (ps : List Accepted) (f k : ℕ) (p₀ : Accepted) → p₀.bytes ≡ 0 → (get_or (stamps W w f ps) k no_stamp).bytes ≡ (get_or ps k p₀).bytes
stamp_at_bytes W w [] f k p₀ z = sym z
stamp_at_bytes W w (p ∷ ps) f zero p₀ z = refl
stamp_at_bytes W w (p ∷ ps) f (suc k) p₀ z = stamp_at_bytes W w ps (finish W (stamp w f p)) k p₀ z

pub starts_after : (W w : ℕ) (ps : List Accepted) (f k : ℕ) → k < length ps → f ≤ finish W (get_or (stamps W w f ps) k no_stamp)
starts_after W w [] f k l = absurd (omega arith)
starts_after W w (p ∷ ps) f zero l = omega arith
starts_after W w (p ∷ ps) f (suc k) l = omega (arith, starts_after W w ps (finish W (stamp w f p)) k (omega arith))
