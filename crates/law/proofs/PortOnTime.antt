-- What the invariant gives: each packet that waits at a port can still be on time, also the one that is taken now.
use Rattle.std.proofs.Common.{◌≡◌, ℕ, ◌+◌, ◌-◌, ◌*◌, ◌<◌, ◌≤◌, Bool, List, [], ◌∷◌, length, sum_by, sym, refl, ap, subst, inr, ⊎_elim, mul-le-mul_left, arith}
use native.Mathlib.Nat.{le_of_mul-le-mul_left}
use Rattle.std.specs.List.{AllByRecursion}
use Rattle.std.proofs.ByRecursion.{All-get_or}
use Rattle.std.proofs.lemmas.List.Sums.{get_or-le-sum_by}
use Rattle.std.proofs.lemmas.Bool.{cases_lt}
use Rattle.law.specs.Queues.{Queued, finish}
use Rattle.law.specs.Port.{Side, lateness}
use Rattle.law.proofs.Service.{Carried, Serves, at_tick, some_parts}
use Rattle.law.proofs.PortSteps.{ServedPort, InTime, served_unused, closed, served_flow_at}
use Rattle.law.proofs.PortInvariant.{Chain, Chained, HasService, Due, FitsBy, Sound, claim, claim_of}
use Rattle.law.proofs.ClaimsOfFlow.{claim_due}

-- the deadline of a packet, put into the invariant
at_deadline : (W den num f s b e c claims : ℕ) → 0 < W → f ≡ s + W * b → W * den * e + claims ≤ W * num + W * den * c → f * den - s * den ≤ claims → den * (e + b) ≤ num + den * c
at_deadline W den num f s b e c claims pos is h k = le_of_mul-le-mul_left {k = W} (omega (arith, ap (λ v. v * den) is)) pos

-- a moment at most c ticks before num / den
before_by : (den num e c : ℕ) → den * e ≤ num + den * c → (e - c) * den ≤ num
before_by den num e c h =
    ⊎_elim
    (λ (l : c < e). let z : (e - c) + c ≡ e = omega arith in omega (arith, ap (λ v. den * v) z))
    (λ (l : e ≤ c). let z : e - c ≡ 0 = omega arith in omega (arith, ap (λ v. v * den) z))
    (cases_lt c e)

-- in b ticks a line carries at most W * b of a flow
later_by : (W e c b : ℕ) (g : Carried) → Serves W g → g (e + b - c) 1 ≤ g (e - c) 1 + W * b
later_by W e c b g sv =
    let up : e - c ≤ e + b - c = omega arith in
    let far : e + b - c ≤ e - c + b = omega arith in
    omega (arith, sv.slow (e - c) (e + b - c) 1 up, mul-le-mul_left W far)

-- packets behind one that can be on time can be so too
behind_within : (W L c e last : ℕ) (o : Bool) (g : Carried) → Serves W g → (ps : List Queued) (low : ℕ) → Chain W L o low ps last → g (e - c) 1 ≤ low → AllByRecursion (λ a. InTime c g (finish W a) (e + a.bytes)) ps
behind_within W L c e last o g sv [] low d k = tt
behind_within W L c e last o g sv (a ∷ more) low d k = (
  omega (arith, later_by W e c a.bytes g sv, d.3),
  behind_within W L c e last o g sv more (finish W a) d.4 (omega (arith, d.3)),
)

module _ (side : Side) (W L n : ℕ) (q : ServedPort) (s : Sound side W L n q) where
  module _ (k : ℕ) (l : k < length q.flows) where
    served : HasService W (served_flow_at q k)
    served = All-get_or (HasService W) q.flows k (served_unused closed) l s.services

  -- the oldest packet that waits, and what is being sent before it, end on time
  pub head_within : (k : ℕ) (a : Queued) (rest : List Queued) → k < length q.flows → (served_flow_at q k).waiting ≡ a ∷ rest → InTime (lateness side L n) (served_flow_at q k).carried (finish W a) (q.clock + q.left + a.bytes)
  head_within k a rest l e =
      let f = served_flow_at q k in
      let g = f.carried in
      let chain : Chain W L f.is_open 0 (a ∷ rest) f.last =
      subst (λ ps. Chain W L f.is_open 0 ps f.last) e (All-get_or (Chained W L) q.flows k (served_unused closed) l s.chains) in
      let sv = (served k l).serves in
      let moves = (served k l).moves chain.0 in
      let (num, den, pos, is) = moves.reaches (finish W a) in
      let due : finish W a * den ≤ g num den = omega (arith, is) in
      let fits : FitsBy (lateness side L n) W num den q =
      s.fits num den pos (inr (k, l, subst (λ ps. Due W num den g ps) (sym e) due)) in
      let by : den * (q.clock + q.left + a.bytes) ≤ num + den * lateness side L n =
      at_deadline W den num (finish W a) a.start a.bytes (q.clock + q.left) (lateness side L n) (sum_by (claim W num den q.clock) q.flows)
      (some_parts W g sv moves) refl fits
      (omega (
        arith,
        is,
        get_or-le-sum_by (claim W num den q.clock) q.flows k (served_unused closed) l,
        ap (λ ps. claim_of W num den q.clock g ps f.last) e,
        claim_due W L num den f.is_open g sv q.clock a rest f.last due,
      )) in
      let u = q.clock + q.left + a.bytes - lateness side L n in
      let up : g (u * den) den ≤ g num den = sv.rises (u * den) num den (before_by den num (q.clock + q.left + a.bytes) (lateness side L n) by) in
      le_of_mul-le-mul_left {k = den} (omega (arith, up, at_tick W g sv u den, is)) pos

  -- so does each packet that waits in flow k
  pub flow_within : (k : ℕ) → k < length q.flows → AllByRecursion (λ a. InTime (lateness side L n) (served_flow_at q k).carried (finish W a) (q.clock + q.left + a.bytes)) (served_flow_at q k).waiting
  flow_within k l = go (served_flow_at q k).waiting refl
    where
      go : (ps : List Queued) → (served_flow_at q k).waiting ≡ ps → AllByRecursion (λ a. InTime (lateness side L n) (served_flow_at q k).carried (finish W a) (q.clock + q.left + a.bytes)) ps
      go [] e = tt
      go (a ∷ rest) e =
          let f = served_flow_at q k in
          let sv = (served k l).serves in
          let chain : Chain W L f.is_open 0 (a ∷ rest) f.last =
          subst (λ ps. Chain W L f.is_open 0 ps f.last) e (All-get_or (Chained W L) q.flows k (served_unused closed) l s.chains) in
          let head = head_within k a rest l e in
          let low : f.carried (q.clock + q.left - lateness side L n) 1 ≤ f.carried (q.clock + q.left + a.bytes - lateness side L n) 1 =
          sv.rises _ _ 1 (omega arith) in (
            head,
            behind_within W L (lateness side L n) (q.clock + q.left) f.last f.is_open f.carried sv rest (finish W a) chain.4 (omega (arith, head, low)),
          )
