-- How large the numbers of a flow get: at every tick before the last its bytes are far below 2 ^ 64, and a packet's virtual times fit
-- a stamp.
use Rattle.std.proofs.Common.{◌≡◌, ℕ, zero, suc, ◌+◌, ◌*◌, ◌^◌, ◌<◌, ◌≤◌, max, true, List, [], ◌∷◌, length, drop, refl, mul-le-mul_right, mul-le-mul, mul-le-mul_left, arith}
use native.Mathlib.Nat.{le_of_mul-le-mul_left}
use Rattle.std.specs.List.{AllByRecursion}
use Rattle.std.proofs.lemmas.List.{length-drop}
use Rattle.std.proofs.lemmas.Bool.{lt-ltb, eq-eqb}
use Rattle.timing.specs.Fluid.{Accepted, Arrived, accepted_bytes, last_finish, fluid}
use Rattle.timing.specs.Stamps.{last_scaled, last_weight}
use Rattle.timing.proofs.Served.{fluid_le}
use Rattle.plan.specs.declared.fault.TheConstants.{LAST_TICK}
use Rattle.store.specs.declared.meaning.TheConstants.{MOST_STORED}
use Rattle.law.specs.Journeys.{Journeys, departed, started_bytes}
use Rattle.law.specs.Queues.{bytes_of}
use Rattle.state.specs.Stamping.{stampable, finish_of}
use Rattle.state.specs.Shows.{last_stamp}
use Rattle.timing.proofs.Stamped.{not_zero}
use Rattle.state.proofs.FlowTakesPacket.{last_known}

-- the last virtual finish is at most the present tick and the time for all bytes
last_le : (W w t : ℕ) (ps : List Accepted) (f : ℕ) → Arrived t ps → last_finish W w f ps ≤ max (w * t) f + W * accepted_bytes ps
last_le W w t [] f h = omega arith
last_le W w t (p ∷ ps) f h =
    let at : w * p.arrival ≤ w * t = mul-le-mul_left w h.0 in
    let next = last_le W w t ps (max (w * p.arrival) f + W * p.bytes) h.1 in
    omega (arith, at, next)

-- what a flow holds is at most so many packets of the longest length
rest_le : (L : ℕ) (ps : List Accepted) (d : ℕ) → AllByRecursion (λ p. p.bytes ≤ L) ps → accepted_bytes ps ≤ bytes_of ps d + length (drop d ps) * L
rest_le L [] zero h = omega arith
rest_le L [] (suc d) h = omega arith
rest_le L (p ∷ ps) zero h = omega (arith, rest_le L ps 0 h.1, h.0)
rest_le L (p ∷ ps) (suc d) h = omega (arith, rest_le L ps d h.1)

-- a longer front of its packets has no fewer bytes
pub front_le : (ps : List Accepted) (d n : ℕ) → d ≤ n → bytes_of ps d ≤ bytes_of ps n
front_le [] zero n h = omega arith
front_le [] (suc d) zero h = omega arith
front_le [] (suc d) (suc n) h = omega arith
front_le (p ∷ ps) zero n h = omega arith
front_le (p ∷ ps) (suc d) zero h = absurd (omega arith)
front_le (p ∷ ps) (suc d) (suc n) h = omega (arith, front_le ps d n (omega arith))

-- the last stamp is of the flow's weight
last_own : (W w : ℕ) (ps : List Accepted) → 0 < w → last_weight w (last_stamp W w ps) ≡ w
last_own W w [] h = refl
last_own W w (p ∷ ps) h = not_zero w h

module _ (W L w t : ℕ) (f : Journeys) (small : W ≤ 10000) (short : L ≤ 1500) (early : t ≤ LAST_TICK)
    (arrived : Arrived t f.accepted) (lengths : AllByRecursion (λ p. p.bytes ≤ L) f.accepted) (few : length f.accepted ≤ departed t f + MOST_STORED)
    (started : departed t f ≤ length f.crossings) (not_ahead : W * started_bytes f ≤ fluid W w t 0 f.accepted + W * L) where
  accepted_le : W * accepted_bytes f.accepted ≤ w * t + W * (65537 * 1500)
  accepted_le =
      let a = rest_le L f.accepted (departed t f) lengths in
      let b = front_le f.accepted (departed t f) (length f.crossings) started in
      let k : length (drop (departed t f) f.accepted) ≤ MOST_STORED = omega (arith, length-drop (departed t f) f.accepted, few) in
      let n : length (drop (departed t f) f.accepted) * L ≤ MOST_STORED * 1500 = mul-le-mul k short in
      let c : accepted_bytes f.accepted ≤ started_bytes f + MOST_STORED * 1500 = omega arith in
      let d : W * accepted_bytes f.accepted ≤ W * (started_bytes f + MOST_STORED * 1500) = mul-le-mul_left W c in
      let e : W * L ≤ W * 1500 = mul-le-mul_left W short in
      omega (arith, d, e, not_ahead, fluid_le W w t f.accepted 0)

  -- the bytes accepted are as many as ticks, and those of a full store
  pub accepted_small : w ≤ W → 0 < W → accepted_bytes f.accepted < 2 ^ 63
  accepted_small share some =
      let a : w * t ≤ W * t = mul-le-mul_right t share in
      let b : W * accepted_bytes f.accepted ≤ W * (t + 65537 * 1500) = omega (arith, a, accepted_le) in
      let c : accepted_bytes f.accepted ≤ t + 65537 * 1500 = le_of_mul-le-mul_left {k = W} b some in
      omega (arith, c, early)

  pub is_stampable : (b : ℕ) → 0 < w → b ≤ L → stampable (last_stamp W w f.accepted) w t b W ≡ true
  is_stampable b pos le =
      let last = last_le W w t f.accepted 0 arrived in
      let known : last_scaled (last_stamp W w f.accepted) ≡ last_finish W w 0 f.accepted = last_known W w f.accepted in
      let wb : W * b ≤ W * 1500 = mul-le-mul_left W (omega arith) in
      let wt : w * t ≤ w * LAST_TICK = mul-le-mul_left w (omega arith) in
      let fits : finish_of (last_stamp W w f.accepted) w t b W < w * 2 ^ 64 = omega (arith, last, known, wb, wt, accepted_le, small, pos) in
      rw (lt-ltb 0 w pos, eq-eqb _ _ (last_own W w f.accepted pos), lt-ltb _ _ fits)
