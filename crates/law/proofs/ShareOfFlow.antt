-- The bytes of a flow that have started and left, against its fluid amount.
use Rattle.std.proofs.Common.{◌≡◌, ℕ, zero, suc, ◌+◌, ◌*◌, ◌<◌, ◌≤◌, List, [], ◌∷◌, take, drop, refl, ap, ⊎_elim, mul-le-mul_left, arith}
use Rattle.std.specs.List.{AllByRecursion}
use Rattle.std.proofs.lemmas.Bool.{cases_lt}
use Rattle.timing.specs.Fluid.{Accepted, fluid}
use Rattle.timing.proofs.Served.{fluid_le}
use Rattle.law.specs.Queues.{finish, stamp, stamps, bytes_of}
use Rattle.law.specs.Port.{Head}
use Rattle.law.specs.Shares.{Served, ShareKept}

module _ (W L w t : ℕ) where
  -- where the packet before finishes after t, none has started
  none_begun : (ps : List Accepted) (i f : ℕ) → w * t < f → AllByRecursion (λ a. a.start ≤ w * t) (take i (stamps W w f ps)) → bytes_of ps i ≡ 0
  none_begun ps zero f h b = refl
  none_begun [] (suc i) f h b = refl
  none_begun (p ∷ ps) (suc i) f h b = omega (arith, b.0)

  pub ahead_from : (ps : List Accepted) (i f : ℕ) → AllByRecursion (λ p. p.bytes ≤ L) ps → AllByRecursion (λ a. a.start ≤ w * t) (take i (stamps W w f ps)) → W * bytes_of ps i ≤ fluid W w t f ps + W * L
  ahead_from ps zero f l b = omega arith
  ahead_from [] (suc i) f l b = omega arith
  ahead_from (p ∷ ps) (suc i) f l b =
      let next = finish W (stamp w f p) in
      let rest = ahead_from ps i next l.1 b.1 in
      ⊎_elim
      (λ (h : w * t < next).
      let none = none_begun ps i next h b.1 in
      omega (arith, mul-le-mul_left W l.0, ap (λ v. W * v) none))
      (λ (h : next ≤ w * t). omega arith)
      (cases_lt (w * t) next)

  pub behind_from : (c : ℕ) (ps : List Accepted) (d f : ℕ) → AllByRecursion (λ p. p.bytes ≤ L) ps → Head (λ a. w * t ≤ finish W a + w * c) (drop d (stamps W w f ps)) → fluid W w t f ps ≤ W * bytes_of ps d + W * L + w * c
  behind_from c [] d f l h = omega arith
  behind_from c (p ∷ ps) zero f l h =
      omega (arith, fluid_le W w t ps (finish W (stamp w f p)), mul-le-mul_left W l.0, h)
  behind_from c (p ∷ ps) (suc d) f l h = omega (arith, behind_from c ps d (finish W (stamp w f p)) l.1 h)

pub share_kept : (W L w c t : ℕ) (ps : List Accepted) (i d : ℕ) → Served W L w c t ps i d → ShareKept W L w c t ps i d
share_kept W L w c t ps i d s =
    let up = ahead_from W L w t ps i 0 s.lengths s.begun in
    let down = behind_from W L w t c ps d 0 s.lengths s.inside in
    record { ahead = up; behind = down; held = omega arith }
