-- The last finish after one packet more, the fluid amount in closed form, and its bound.
use Rattle.std.proofs.Common.{◌≡◌, ℕ, ◌+◌, ◌-◌, ◌*◌, ◌≤◌, List, [], ◌∷◌, ◌++◌, refl, mul-le-mul_left, arith}
use Rattle.timing.specs.Fluid.{Accepted, Arrived, accepted_bytes, fluid, last_finish}
use Rattle.timing.specs.Stamps.{scaled_finish, scaled_start}

module _ (W w : ℕ) where
  pub last_finish_push : (ps : List Accepted) (f : ℕ) (q : Accepted) → last_finish W w f (ps ++ q ∷ []) ≡ scaled_finish W (scaled_start w q.arrival (last_finish W w f ps)) q.bytes
  last_finish_push [] f q = refl
  last_finish_push (p ∷ ps) f q = last_finish_push ps (scaled_finish W (scaled_start w p.arrival f) p.bytes) q

module _ (W w t : ℕ) where
  -- what is carried and what the last finish is ahead are all that was accepted
  pub closed : (ps : List Accepted) (f : ℕ) → Arrived t ps → fluid W w t f ps + (last_finish W w f ps - w * t) ≡ W * accepted_bytes ps + (f - w * t)
  closed [] f h = omega arith
  closed (p ∷ ps) f h =
      let rest = closed ps (scaled_finish W (scaled_start w p.arrival f) p.bytes) h.1 in
      omega (arith, mul-le-mul_left w h.0)

  -- a flow is carried at most w each tick
  pub fluid_le : (ps : List Accepted) (f : ℕ) → fluid W w t f ps ≤ w * t - f
  fluid_le [] f = omega arith
  fluid_le (p ∷ ps) f =
      let rest = fluid_le ps (scaled_finish W (scaled_start w p.arrival f) p.bytes) in
      omega arith
