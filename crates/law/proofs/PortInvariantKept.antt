-- The invariant of a port holds before anything has come, and arrivals and ticks keep it.
use Rattle.std.proofs.Common.{◌≡◌, ℕ, ◌+◌, ◌-◌, ◌*◌, ◌<◌, ◌≤◌, Bool, true, false, cond, List, [], ◌∷◌, map, length, get_or, set, sum_by, count_by, sym, refl, ap, ◌∙◌, subst, inl, inr, ⊎_elim, mul-le-mul_right, mul-le-mul_left, arith}
use Rattle.std.specs.List.{AllByRecursion}
use Rattle.std.proofs.ByRecursion.{All-get_or, All-set, All-weaker}
use Rattle.std.proofs.lemmas.List.{get_or-set_same, get_or-set_other, length-set}
use Rattle.std.proofs.lemmas.List.Sums.{sum_by-cons, sum_by-set}
use Rattle.std.proofs.lemmas.Bool.{cases_eq, cases_lt}
use Rattle.law.specs.Queues.{Queued, finish}
use Rattle.law.specs.Port.{Side, Head, lateness}
use Rattle.law.proofs.Service.{Carried, Serves, Service, IsService, OnOneLine, at_tick}
use Rattle.law.proofs.PortSteps.{ServedFlow, ServedPort, ServedUnready, ServedPrecedes, ServedOpened, ServedArrives, ServedSends, ServedIdles, ServedTakes, served_unused, closed, served_flow_at, served_stamped, served_accepting, served_taking}
use Rattle.law.proofs.PortInvariant.{Chain, Chained, Due, HasService, Counts, FitsBy, Together, Sound, claim, claim_of, reach, extra}
use Rattle.law.proofs.ClaimsOfFlow.{chain_lower, chain_push, claim_tick, claim_push, claim_taken, claim_behind, claim_passed, claim_from, due_push, Passed, passed_behind, passed_due}
use Rattle.law.proofs.Lists.{sum_by_mono, sum_by_map, each_sum, each_sum_but}

abbrev port : List ServedFlow → ℕ → ℕ → ServedPort
port fs l t = record { flows = fs; left = l; clock = t }

by_parts : (P : ServedPort → Type 0) (q : ServedPort) (fs : List ServedFlow) (l t : ℕ) → q.flows ≡ fs → q.left ≡ l → q.clock ≡ t → P (port fs l t) → P q
by_parts P q fs l t a b c h = subst P (λ i. port (sym a i) (sym b i) (sym c i)) h

-- a flow replaced by one of the same service
module _ (W : ℕ) (fs : List ServedFlow) (k : ℕ) (g : ServedFlow) (among : k < length fs) (same : g.carried ≡ (get_or fs k (served_unused closed)).carried) where
  sum_kept : (a den : ℕ) → sum_by (λ (f : ServedFlow). f.carried a den) (set fs k g) ≡ sum_by (λ (f : ServedFlow). f.carried a den) fs
  sum_kept a den = omega (arith, sum_by-set (λ (f : ServedFlow). f.carried a den) fs k g (served_unused closed) among, ap (λ (c : Carried). c a den) same)

  together_kept : Together W fs → Together W (set fs k g)
  together_kept h a b den l = omega (arith, h a b den l, sum_kept a den, sum_kept b den)

open_kept : (fs : List ServedFlow) (k : ℕ) (g : ServedFlow) → k < length fs → g.is_open ≡ (get_or fs k (served_unused closed)).is_open → count_by (λ (f : ServedFlow). f.is_open) (set fs k g) ≡ count_by (λ (f : ServedFlow). f.is_open) fs
open_kept fs k g among same =
    omega (arith, sum_by-set (λ (f : ServedFlow). cond f.is_open 1 0) fs k g (served_unused closed) among, ap {B = ℕ} (λ (b : Bool). cond b 1 0) same)

module _ (W L : ℕ) where
  chained_unused : (os : List Service) → AllByRecursion (Chained W L) (map served_unused os)
  chained_unused [] = tt
  chained_unused (o ∷ os) = (omega arith, chained_unused os)

  services_unused : (os : List Service) → AllByRecursion (λ v. IsService W v.carried v.is_open) os → AllByRecursion (HasService W) (map served_unused os)
  services_unused [] h = tt
  services_unused (o ∷ os) h = (h.0, services_unused os h.1)

  claims_unused : (num den : ℕ) (os : List Service) → AllByRecursion (λ v. IsService W v.carried v.is_open) os → sum_by (claim W num den 0) (map served_unused os) ≤ sum_by (λ (o : Service). o.carried num den) os
  claims_unused num den [] h = omega arith
  claims_unused num den (o ∷ os) h =
      omega (
        arith,
        claims_unused num den os h.1,
        sum_by-cons (claim W num den 0) (served_unused o) (map served_unused os),
        sum_by-cons (λ (x : Service). x.carried num den) o os,
      )

  none_at_seal : (den : ℕ) (os : List Service) → AllByRecursion (λ v. IsService W v.carried v.is_open) os → sum_by (λ (o : Service). o.carried 0 den) os ≡ 0
  none_at_seal den [] h = refl
  none_at_seal den (o ∷ os) h =
      let e : 0 * den ≡ 0 = omega arith in
      let z : o.carried 0 den ≡ o.carried 0 1 * den = ap (λ (v : ℕ). o.carried v den) (sym e) ∙ at_tick W o.carried h.0.serves 0 den in
      omega (arith, none_at_seal den os h.1, sum_by-cons (λ (x : Service). x.carried 0 den) o os, z, ap (λ v. v * den) h.0.serves.at_seal)

  pub opened_sound : (side : Side) (n : ℕ) (os : List Service) (q : ServedPort) → OnOneLine W os → count_by (λ v. v.is_open) os ≤ n → ServedOpened os q → Sound side W L n q
  opened_sound side n os q h few o =
      by_parts (Sound side W L n) q (map served_unused os) 0 0 o.flows_are o.left_is o.clock_is
      record {
        chains = chained_unused os;
        services = services_unused os h.each;
        shares = λ a b den l. omega (arith, h.together a b den l, sum_by_map (λ (f : ServedFlow). f.carried a den) served_unused os, sum_by_map (λ (f : ServedFlow). f.carried b den) served_unused os);
        few_open = omega (arith, few, sum_by_map (λ (f : ServedFlow). cond f.is_open 1 0) served_unused os);
        fits = λ num den _ _. omega (arith, claims_unused num den os h.each, h.together 0 num den (omega arith), none_at_seal den os h.each);
      }

  counts_before : (side : Side) (num den k b : ℕ) (p : ServedPort) → 0 < den → k < length p.flows → (served_flow_at p k).is_open ≡ true → HasService W (served_flow_at p k) → Counts side W L num den (port (set p.flows k (served_accepting W p.clock b (served_flow_at p k))) p.left p.clock) → Counts side W L num den p
  counts_before side num den k b p pos among o sv (inl h) = inl h
  counts_before side num den k b p pos among o sv (inr (j, l, d)) =
      let g = served_accepting W p.clock b (served_flow_at p k) in
      ⊎_elim
      (λ (e : j ≡ k).
      let there = subst (λ m. Due W num den (get_or (set p.flows k g) m (served_unused closed)).carried (get_or (set p.flows k g) m (served_unused closed)).waiting) e d in
      let here = subst (λ (f : ServedFlow). Due W num den f.carried f.waiting) (get_or-set_same p.flows k g (served_unused closed) among) there in
      ⊎_elim
      (λ (old : Due W num den (served_flow_at p k).carried (served_flow_at p k).waiting). inr (k, among, old))
      (λ (soon : p.clock * den ≤ num). inl (omega arith))
      (due_push W L num den (served_flow_at p k).is_open (served_flow_at p k).carried sv.serves p.clock (served_flow_at p k).waiting (served_stamped p.clock b (served_flow_at p k)) pos (sv.moves o) (omega arith) here))
      (λ (ne : j ≡ k → ⊥).
      inr (j, rw length-set at l, subst (λ (f : ServedFlow). Due W num den f.carried f.waiting) (get_or-set_other p.flows k j g (served_unused closed) ne) d))
      (cases_eq j k)

  pub arrives_sound : (side : Side) (n k b : ℕ) (p q : ServedPort) → Sound side W L n p → ServedArrives W L k b p q → Sound side W L n q
  arrives_sound side n k b p q s a =
      let f = served_flow_at p k in
      let g = served_accepting W p.clock b f in
      let chain = All-get_or (Chained W L) p.flows k (served_unused closed) a.among s.chains in
      let sv = All-get_or (HasService W) p.flows k (served_unused closed) a.among s.services in
      by_parts (Sound side W L n) q (set p.flows k g) p.left p.clock a.flows_are a.left_is a.clock_is
      record {
        chains =
            All-set (Chained W L) p.flows k g
            (chain_push W L f.is_open f.waiting 0 f.last (served_stamped p.clock b f) a.is_open a.some_bytes a.not_long (omega arith) chain)
            s.chains;
        services = All-set (HasService W) p.flows k g sv s.services;
        shares = together_kept W p.flows k g a.among refl s.shares;
        few_open = omega (arith, open_kept p.flows k g a.among refl, s.few_open);
        fits = λ num den pos c.
            let before : FitsBy (lateness side L n) W num den p =
            s.fits num den pos (counts_before side num den k b p pos a.among a.is_open sv c) in
            omega (
              arith,
              before,
              sum_by-set (claim W num den p.clock) p.flows k g (served_unused closed) a.among,
              claim_push W L num den f.is_open f.carried sv.serves p.clock f.waiting f.last (served_stamped p.clock b f) g.last (omega arith) (omega arith),
            );
      }

  claims_tick : (num den t : ℕ) (fs : List ServedFlow) → AllByRecursion (HasService W) fs → sum_by (claim W num den (t + 1)) fs ≤ sum_by (claim W num den t) fs
  claims_tick num den t fs sv =
      sum_by_mono (claim W num den (t + 1)) (claim W num den t) fs
      (All-weaker (HasService W) (λ f. claim W num den (t + 1) f ≤ claim W num den t f)
      (λ f v. claim_tick W L num den f.is_open f.carried v.serves t f.waiting f.last) fs sv)

  pub sends_sound : (side : Side) (n : ℕ) (p q : ServedPort) → Sound side W L n p → ServedSends p q → Sound side W L n q
  sends_sound side n p q s a =
      by_parts (Sound side W L n) q p.flows q.left (p.clock + 1) a.flows_are refl a.clock_is
      record {
        chains = s.chains;
        services = s.services;
        shares = s.shares;
        few_open = s.few_open;
        fits = λ num den pos c.
            let before : FitsBy (lateness side L n) W num den p = s.fits num den pos (earlier num den c) in
            omega (arith, before, claims_tick num den p.clock p.flows s.services, ap (λ v. W * den * v) a.left_is);
      }
    where
      earlier : (num den : ℕ) → Counts side W L num den (port p.flows q.left (p.clock + 1)) → Counts side W L num den p
      earlier num den (inl h) = inl (omega arith)
      earlier num den (inr d) = inr d

-- the time up to a deadline holds what is sent and what the flows claim, of which e is known not to carry the extra x
room : (W den num t u l r x n c e O low high claims : ℕ) → u ≡ t + 1 - r → O ≤ n → claims + low + e * (W * den * x) ≤ high + O * (W * den * x) → high + W * (u * den) ≤ low + W * num → l + r + n * x ≤ c + e * x → W * den * (t + 1 + l) + claims ≤ W * num + W * den * c
room W den num t u l r x n c e O low high claims is o h s k =
    let far : t + 1 ≤ u + r = omega arith in
    omega (
      arith,
      h,
      s,
      mul-le-mul_left (W * den) far,
      mul-le-mul_right (W * den * x) o,
      mul-le-mul_left (W * den) k,
    )

slack_idle : (side : Side) (L n : ℕ) → 0 < L → 0 + reach side L + n * extra side L ≤ lateness side L n + 0 * extra side L
slack_idle Side.input L n h = omega arith
slack_idle Side.output L n h = omega arith

slack_taken : (side : Side) (L n l : ℕ) → l < L → l + reach side L + n * extra side L ≤ lateness side L n + 1 * extra side L
slack_taken Side.input L n l h = omega arith
slack_taken Side.output L n l h = omega arith

-- a tick at t that takes nothing due by the deadline
module _ (side : Side) (W L num den t : ℕ) (pos : 0 < den) where
  abbrev Passes : ServedFlow → Type 0
  Passes f = Chained W L f × HasService W f × Passed W L num den side t f.carried f.waiting

  abbrev u : ℕ
  u = t + 1 - reach side L

  within_reach : (fs : List ServedFlow) (l : ℕ) → AllByRecursion Passes fs → Counts side W L num den (port fs l (t + 1)) → (t + 1) * den ≤ num + reach side L * den
  within_reach fs l h (inl c) = c
  within_reach fs l h (inr (k, m, d)) =
      let f = get_or fs k (served_unused closed) in
      let at : Passes f = All-get_or Passes fs k (served_unused closed) m h in
      passed_due W L num den f.is_open f.carried at.1.serves side t f.last f.waiting pos at.1.moves at.0 at.2 d

  abbrev Little : ServedFlow → Type 0
  Little f = claim W num den (t + 1) f + f.carried (u * den) den ≤ f.carried num den + cond f.is_open 1 0 * (W * den * extra side L)

  little : u * den ≤ num → (f : ServedFlow) → Passes f → Little f
  little near f at = go f.is_open refl
    where
      sv : Serves W f.carried
      sv = at.1.serves

      up : f.carried (u * den) den ≤ f.carried num den
      up = sv.rises (u * den) num den near

      go : (b : Bool) → f.is_open ≡ b → claim W num den (t + 1) f + f.carried (u * den) den ≤ f.carried num den + cond f.is_open 1 0 * (W * den * extra side L)
      go true e =
          rw e (omega (arith, claim_passed W L num den f.is_open f.carried sv side t f.last f.waiting at.0 at.2, at_tick W f.carried sv u den, up))
      go false e =
          rw e (omega (arith, claim_from W L num den f.is_open f.carried sv (t + 1) f.waiting 0 f.last at.0, at.1.rests e num den, at.1.rests e (u * den) den))

  littles : u * den ≤ num → (fs : List ServedFlow) → AllByRecursion Passes fs → AllByRecursion Little fs
  littles near fs h = All-weaker Passes Little (little near) fs h

  near_by : (t + 1) * den ≤ num + reach side L * den → u * den ≤ num
  near_by h =
      ⊎_elim
      (λ (l : reach side L < t + 1).
      let e : u + reach side L ≡ t + 1 = omega arith in
      omega (arith, ap (λ (v : ℕ). v * den) e, h))
      (λ (l : t + 1 ≤ reach side L).
      let e : u ≡ 0 = omega arith in
      omega (arith, ap (λ (v : ℕ). v * den) e))
      (cases_lt (reach side L) (t + 1))

  -- every head is passed over where none is ready
  unready_passes : (fs : List ServedFlow) → AllByRecursion (Chained W L) fs → AllByRecursion (HasService W) fs → AllByRecursion (λ f. Head (ServedUnready side W L t f.carried) f.waiting) fs → AllByRecursion Passes fs
  unready_passes [] c v h = tt
  unready_passes (f ∷ fs) c v h = ((c.0, v.0, head f.waiting h.0), unready_passes fs c.1 v.1 h.1)
    where
      head : (ps : List Queued) → Head (ServedUnready side W L t f.carried) ps → Passed W L num den side t f.carried ps
      head [] g = tt
      head (b ∷ more) g = inl g

  -- and where the first of them finishes after the deadline
  first_passes : (c₀ : Carried) (a : Queued) → c₀ num den < finish W a * den → (fs : List ServedFlow) → AllByRecursion (Chained W L) fs → AllByRecursion (HasService W) fs → AllByRecursion (λ f. Head (ServedPrecedes side W L t c₀ a f.carried) f.waiting) fs → AllByRecursion Passes fs
  first_passes c₀ a late [] c v h = tt
  first_passes c₀ a late (f ∷ fs) c v h = ((c.0, v.0, head f.waiting h.0), first_passes c₀ a late fs c.1 v.1 h.1)
    where
      head : (ps : List Queued) → Head (ServedPrecedes side W L t c₀ a f.carried) ps → Passed W L num den side t f.carried ps
      head [] g = tt
      head (b ∷ more) (inl g) = inl g
      head (b ∷ more) (inr k) =
          ⊎_elim
          (λ (l : f.carried num den < finish W b * den). inr l)
          (λ (g : finish W b * den ≤ f.carried num den). absurd (omega (arith, late, k num den pos g)))
          (cases_lt (f.carried num den) (finish W b * den))

module _ (side : Side) (W L n : ℕ) where
  pub idles_sound : (p q : ServedPort) → 0 < L → Sound side W L n p → ServedIdles side W L p q → Sound side W L n q
  idles_sound p q some s a =
      by_parts (Sound side W L n) q p.flows 0 (p.clock + 1) a.flows_are a.left_is a.clock_is
      record {
        chains = s.chains;
        services = s.services;
        shares = s.shares;
        few_open = s.few_open;
        fits = λ num den pos c.
            let t = p.clock in
            let passes = unready_passes side W L num den t pos p.flows s.chains s.services a.none_ready in
            let near = near_by side W L num den t pos (within_reach side W L num den t pos p.flows 0 passes c) in
            let all = each_sum (claim W num den (t + 1)) (λ (f : ServedFlow). f.carried ((t + 1 - reach side L) * den) den) (λ (f : ServedFlow). f.carried num den) (λ (f : ServedFlow). cond f.is_open 1 0) (W * den * extra side L) p.flows (littles side W L num den t pos near p.flows passes) in
            room W den num t (t + 1 - reach side L) 0 (reach side L) (extra side L) n (lateness side L n) 0
            (count_by (λ (f : ServedFlow). f.is_open) p.flows) (sum_by (λ (f : ServedFlow). f.carried ((t + 1 - reach side L) * den) den) p.flows) (sum_by (λ (f : ServedFlow). f.carried num den) p.flows)
            (sum_by (claim W num den (t + 1)) p.flows) refl s.few_open (omega (arith, all)) (s.shares ((t + 1 - reach side L) * den) num den near) (slack_idle side L n some);
      }

  module _ (p : ServedPort) (k : ℕ) (a : Queued) (rest : List Queued) (l : ℕ) (s : Sound side W L n p) (free : p.left ≡ 0) (among : k < length p.flows) (is_head : (served_flow_at p k).waiting ≡ a ∷ rest) (left : l + 1 ≡ a.bytes) where
    abbrev after : List ServedFlow
    after = set p.flows k (served_taking rest (served_flow_at p k))

    chain : Chain W L (served_flow_at p k).is_open 0 (a ∷ rest) (served_flow_at p k).last
    chain =
        subst (λ ps. Chain W L (served_flow_at p k).is_open 0 ps (served_flow_at p k).last) is_head
        (All-get_or (Chained W L) p.flows k (served_unused closed) among s.chains)

    served : HasService W (served_flow_at p k)
    served = All-get_or (HasService W) p.flows k (served_unused closed) among s.services

    services_after : AllByRecursion (HasService W) after
    services_after = All-set (HasService W) p.flows k (served_taking rest (served_flow_at p k)) served s.services

    chain_after : Chained W L (served_taking rest (served_flow_at p k))
    chain_after = chain_lower W L (served_flow_at p k).is_open rest 0 (finish W a) (served_flow_at p k).last (omega arith) chain.4

    taken_due : (num den : ℕ) → 0 < den → finish W a * den ≤ (served_flow_at p k).carried num den → FitsBy (lateness side L n) W num den (port after l (p.clock + 1))
    taken_due num den pos h =
        let f = served_flow_at p k in
        let before : FitsBy (lateness side L n) W num den p =
        s.fits num den pos (inr (k, among, subst (λ ps. Due W num den f.carried ps) (sym is_head) h)) in
        omega (
          arith,
          before,
          claims_tick W L num den p.clock after services_after,
          sum_by-set (claim W num den p.clock) p.flows k (served_taking rest f) (served_unused closed) among,
          claim_taken W L num den f.is_open f.carried served.serves p.clock a rest f.last h chain.4,
          ap (λ ps. claim_of W num den p.clock f.carried ps f.last) is_head,
          ap (λ v. W * den * v) left,
        )

    module _ (first : AllByRecursion (λ f. Head (ServedPrecedes side W L p.clock (served_flow_at p k).carried a f.carried) f.waiting) p.flows) where
      taken_late : (num den : ℕ) → 0 < den → (served_flow_at p k).carried num den < finish W a * den → Counts side W L num den (port after l (p.clock + 1)) → FitsBy (lateness side L n) W num den (port after l (p.clock + 1))
      taken_late num den pos late c =
          let f = served_flow_at p k in
          let t = p.clock in
          let g = served_taking rest f in
          let v = t + 1 - reach side L in
          let passes = All-set (Passes side W L num den t pos) p.flows k g
          (chain_after, served, passed_behind W L num den f.is_open f.carried served.serves side t a rest f.last late chain.4)
          (first_passes side W L num den t pos f.carried a late p.flows s.chains s.services first) in
          let near = near_by side W L num den t pos (within_reach side W L num den t pos after l passes c) in
          let is-g = get_or-set_same p.flows k g (served_unused closed) among in
          let at_g : claim W num den (t + 1) g + g.carried (v * den) den + W * den * extra side L ≤ g.carried num den + cond g.is_open 1 0 * (W * den * extra side L) =
          omega (
            arith,
            claim_behind W L num den f.is_open f.carried served.serves (t + 1) a rest f.last late chain.4,
            served.serves.rises (v * den) num den near,
            ap (λ (b : Bool). cond b 1 0 * (W * den * extra side L)) chain.0,
          ) in
          let at_k = subst (λ (x : ServedFlow). claim W num den (t + 1) x + x.carried (v * den) den + W * den * extra side L ≤ x.carried num den + cond x.is_open 1 0 * (W * den * extra side L)) (sym is-g) at_g in
          let all = each_sum_but (claim W num den (t + 1)) (λ (x : ServedFlow). x.carried (v * den) den) (λ (x : ServedFlow). x.carried num den) (λ (x : ServedFlow). cond x.is_open 1 0) (W * den * extra side L) after k (served_unused closed)
          (rw length-set among) (littles side W L num den t pos near after passes) at_k in
          room W den num t v l (reach side L) (extra side L) n (lateness side L n) 1
          (count_by (λ (x : ServedFlow). x.is_open) after) (sum_by (λ (x : ServedFlow). x.carried (v * den) den) after) (sum_by (λ (x : ServedFlow). x.carried num den) after)
          (sum_by (claim W num den (t + 1)) after) refl (omega (arith, open_kept p.flows k g among refl, s.few_open)) (omega (arith, all))
          (together_kept W p.flows k g among refl s.shares (v * den) num den near) (slack_taken side L n l (omega (arith, chain.2)))

  pub takes_sound : (k : ℕ) (a : Queued) (p q : ServedPort) → Sound side W L n p → ServedTakes side W L k a p q → Sound side W L n q
  takes_sound k a p q s m =
      let f = served_flow_at p k in
      let g = served_taking m.rest f in
      by_parts (Sound side W L n) q (set p.flows k g) q.left (p.clock + 1) m.flows_are refl m.clock_is
      record {
        chains = All-set (Chained W L) p.flows k g (chain_after p k a m.rest q.left s m.free m.among m.is_head m.left_is) s.chains;
        services = services_after p k a m.rest q.left s m.free m.among m.is_head m.left_is;
        shares = together_kept W p.flows k g m.among refl s.shares;
        few_open = omega (arith, open_kept p.flows k g m.among refl, s.few_open);
        fits = λ num den pos c.
            ⊎_elim
            (λ late. taken_late p k a m.rest q.left s m.free m.among m.is_head m.left_is m.first num den pos late c)
            (λ h. taken_due p k a m.rest q.left s m.free m.among m.is_head m.left_is num den pos h)
            (cases_lt (f.carried num den) (finish W a * den));
      }
