-- How the claim of one flow moves: by an arrival, by time, and by a packet taken.
use Rattle.std.proofs.Common.{◌≡◌, ℕ, ◌+◌, ◌-◌, ◌*◌, ◌<◌, ◌≤◌, Bool, true, leb, ◌⊎◌, List, [], ◌∷◌, ◌++◌, ap, inl, inr, ⊎_elim, mul-le-mul_right, mul-le-mul_left, arith}
use Rattle.std.proofs.lemmas.Bool.{cond_both, cond-true, cond-false, le-leb, lt-leb}
use Rattle.law.specs.Queues.{Queued, finish}
use Rattle.law.specs.Port.{Side, Head}
use Rattle.law.proofs.Service.{Carried, Serves, Moves, at_tick}
use Rattle.law.proofs.PortSteps.{ServedUnready}
use Rattle.law.proofs.PortInvariant.{Chain, Due, claim_of, reach, extra}

module _ (W L : ℕ) (o : Bool) where
  -- a chain that starts at some tick or later starts at an earlier one or later
  pub chain_lower : (ps : List Queued) (low high last : ℕ) → low ≤ high → Chain W L o high ps last → Chain W L o low ps last
  chain_lower [] low high last l c = omega arith
  chain_lower (a ∷ more) low high last l c = (c.0, c.1, c.2, omega arith, c.4)

  pub chain_push : (ps : List Queued) (low last : ℕ) (b : Queued) → o ≡ true → 0 < b.bytes → b.bytes ≤ L → last ≤ b.start → Chain W L o low ps last → Chain W L o low (ps ++ b ∷ []) (finish W b)
  chain_push [] low last b e p l s c = (e, p, l, omega arith, omega arith)
  chain_push (a ∷ more) low last b e p l s c =
      (c.0, c.1, c.2, c.3, chain_push more (finish W a) last b e p l s c.4)

module _ (W : ℕ) (c : Carried) (sv : Serves W c) where
  -- how long ago a head that is not ready may have started or finished
  pub unready_finish : (side : Side) (L t : ℕ) (a : Queued) → ServedUnready side W L t c a → c (t + 1 - reach side L) 1 ≤ finish W a
  unready_finish Side.input L t a u =
      let e : t + 1 - 1 ≡ t = omega arith in
      omega (arith, u, ap (λ (v : ℕ). c v 1) e)
  unready_finish Side.output L t a u = u

  pub unready_start : (side : Side) (L t : ℕ) (a : Queued) → a.bytes ≤ L → ServedUnready side W L t c a → c (t + 1 - reach side L) 1 ≤ a.start + W * extra side L
  unready_start Side.input L t a l u =
      let e : t + 1 - 1 ≡ t = omega arith in
      omega (arith, u, ap (λ (v : ℕ). c v 1) e)
  unready_start Side.output L t a l u = omega (arith, u, mul-le-mul_left W l)

-- what a port passes over at tick t for the deadline: heads that are not ready, and heads that are not due
abbrev pub Passed : ℕ → ℕ → ℕ → ℕ → Side → ℕ → Carried → List Queued → Type 0
Passed W L num den side t c ps = Head (λ a. ServedUnready side W L t c a ⊎ (c num den < finish W a * den)) ps

module _ (W L num den : ℕ) (o : Bool) (c : Carried) (sv : Serves W c) where
  pub claim_due : (t : ℕ) (a : Queued) (more : List Queued) (last : ℕ) → finish W a * den ≤ c num den → claim_of W num den t c (a ∷ more) last ≡ c num den - a.start * den
  claim_due t a more last h = cond-true (leb (finish W a * den) (c num den)) _ _ (le-leb (finish W a * den) (c num den) h)

  pub claim_later : (t : ℕ) (a : Queued) (more : List Queued) (last : ℕ) → c num den < finish W a * den → claim_of W num den t c (a ∷ more) last ≡ 0
  claim_later t a more last h = cond-false (leb (finish W a * den) (c num den)) _ _ (lt-leb (finish W a * den) (c num den) h)

  pub claim_head_le : (t : ℕ) (a : Queued) (more : List Queued) (last : ℕ) → claim_of W num den t c (a ∷ more) last ≤ c num den - a.start * den
  claim_head_le t a more last =
      cond_both (leb (finish W a * den) (c num den)) _ _ (λ v. v ≤ c num den - a.start * den) (λ _. omega arith) (λ _. omega arith)

  -- a flow whose packets start at low or later claims from there on
  pub claim_from : (t : ℕ) (ps : List Queued) (low last : ℕ) → Chain W L o low ps last → claim_of W num den t c ps last ≤ c num den - low * den
  claim_from t [] low last h = omega (arith, mul-le-mul_right den h)
  claim_from t (a ∷ more) low last h = omega (arith, claim_head_le t a more last, mul-le-mul_right den h.3)

  -- time passing raises no claim
  pub claim_tick : (t : ℕ) (ps : List Queued) (last : ℕ) → claim_of W num den (t + 1) c ps last ≤ claim_of W num den t c ps last
  claim_tick t [] last =
      let up : c t 1 ≤ c (t + 1) 1 = sv.rises t (t + 1) 1 (omega arith) in
      omega (arith, mul-le-mul_right den up)
  claim_tick t (a ∷ more) last = omega arith

  -- nor does an arrival
  pub claim_push : (t : ℕ) (ps : List Queued) (last : ℕ) (b : Queued) (last' : ℕ) → c t 1 ≤ b.start → last ≤ b.start → claim_of W num den t c (ps ++ b ∷ []) last' ≤ claim_of W num den t c ps last
  claim_push t [] last b last' h k =
      omega (arith, claim_head_le t b [] last', mul-le-mul_right den h, mul-le-mul_right den k)
  claim_push t (a ∷ more) last b last' h k = omega arith

  -- a packet due by the deadline takes its length from the claim
  pub claim_taken : (t : ℕ) (a : Queued) (more : List Queued) (last : ℕ) → finish W a * den ≤ c num den → Chain W L o (finish W a) more last → claim_of W num den t c more last + W * den * a.bytes ≤ claim_of W num den t c (a ∷ more) last
  claim_taken t a more last h k =
      omega (arith, claim_due t a more last h, claim_from t more (finish W a) last k)

  -- behind a packet that finishes after the deadline nothing is claimed
  pub claim_behind : (t : ℕ) (a : Queued) (more : List Queued) (last : ℕ) → c num den < finish W a * den → Chain W L o (finish W a) more last → claim_of W num den t c more last ≡ 0
  claim_behind t a more last h k = omega (arith, claim_from t more (finish W a) last k)

  -- an arrival makes no deadline count that did not before
  pub due_push : (t : ℕ) (ps : List Queued) (b : Queued) → 0 < den → Moves c → c t 1 ≤ b.start → Due W num den c (ps ++ b ∷ []) → Due W num den c ps ⊎ (t * den ≤ num)
  due_push t [] b pos mv h d =
      inr (mv.strict num (t * den) den pos (omega (arith, at_tick W c sv t den, mul-le-mul_right den h, d)))
  due_push t (a ∷ more) b pos mv h d = inl d

  pub passed_behind : (side : Side) (t : ℕ) (a : Queued) (more : List Queued) (last : ℕ) → c num den < finish W a * den → Chain W L o (finish W a) more last → Passed W L num den side t c more
  passed_behind side t a [] last h k = tt
  passed_behind side t a (b ∷ more) last h k = inr (omega (arith, mul-le-mul_right den k.3))

  from_less : (u t r : ℕ) → u ≡ t + 1 - r → u * den ≤ num → (t + 1) * den ≤ num + r * den
  from_less u t r e h =
      let l : t + 1 ≤ u + r = omega arith in
      omega (arith, mul-le-mul_right den l)

  -- a head that is passed over and due is not ready, so its deadline is not long ago
  pub passed_due : (side : Side) (t last : ℕ) (ps : List Queued) → 0 < den → (o ≡ true → Moves c) → Chain W L o 0 ps last → Passed W L num den side t c ps → Due W num den c ps → (t + 1) * den ≤ num + reach side L * den
  passed_due side t last [] pos mv k h d = absurd d
  passed_due side t last (a ∷ more) pos mv k h d =
      from_less (t + 1 - reach side L) t (reach side L) itself
      (⊎_elim
      (λ (u : ServedUnready side W L t c a).
      (mv k.0).strict num ((t + 1 - reach side L) * den) den pos
      (omega (arith, at_tick W c sv (t + 1 - reach side L) den, mul-le-mul_right den (unready_finish W c sv side L t a u), d)))
      (λ (l : c num den < finish W a * den). absurd (omega (arith, l, d)))
      h)
    where
      itself : t + 1 - reach side L ≡ t + 1 - reach side L
      itself = omega arith

  -- what a flow that is passed over claims at the next tick, from the reach before it
  pub claim_passed : (side : Side) (t last : ℕ) (ps : List Queued) → Chain W L o 0 ps last → Passed W L num den side t c ps → claim_of W num den (t + 1) c ps last ≤ c num den - c (t + 1 - reach side L) 1 * den + W * den * extra side L
  claim_passed side t last [] k h =
      let up : c (t + 1 - reach side L) 1 ≤ c (t + 1) 1 = sv.rises (t + 1 - reach side L) (t + 1) 1 (omega arith) in
      omega (arith, mul-le-mul_right den up)
  claim_passed side t last (a ∷ more) k h =
      ⊎_elim
      (λ (u : ServedUnready side W L t c a).
      omega (
        arith,
        claim_head_le (t + 1) a more last,
        mul-le-mul_right den (unready_start W c sv side L t a k.2 u),
      ))
      (λ (l : c num den < finish W a * den). omega (arith, claim_later (t + 1) a more last l))
      h
