-- Ticks one after another, and the end of a run. Assumes nothing.
use Rattle.std.proofs.Common.{◌≡◌, ℕ, zero, suc, ◌+◌, ◌-◌, ◌<◌, ◌≤◌, Bool, true, false, eqb, List, [], ◌∷◌, sym, refl, ap, ◌∙◌, ⊎_elim, add-one, arith}
use Rattle.std.proofs.lemmas.Bool.{eq-eqb, ne_eqb, cases_eq, cond_both}
use Rattle.law.specs.Step.{Plan}
use Rattle.law.specs.Runs.{all_inside}
use Rattle.replay.specs.Kinds.{Kind}
use Rattle.replay.specs.Replay.{Arrival, last_tick, MayCome, Replayed, run_tick, run_ticks, run_to, offered, run_arrivals, run_out}

module _ {K : Type 0} (plan : Plan) (kind : Kind K) where
  pub ticks_none : (x : Replayed K) → run_ticks plan kind 0 x ≡ x
  unfolding run_ticks
  ticks_none x = refl

  -- one tick more
  pub ticks_last : (n : ℕ) (x : Replayed K) → run_ticks plan kind (n + 1) x ≡ run_tick plan kind (run_ticks plan kind n x)
  unfolding run_ticks
  ticks_last zero x = refl
  ticks_last (suc n) x = ap (λ m. run_ticks plan kind m x) (add-one (suc n)) ∙ ap (λ m. run_ticks plan kind m (run_tick plan kind x)) (sym (add-one n)) ∙ ticks_last n (run_tick plan kind x)

  pub ticks_more : (n m : ℕ) (x : Replayed K) → run_ticks plan kind (n + m) x ≡ run_ticks plan kind m (run_ticks plan kind n x)
  unfolding run_ticks
  ticks_more zero m x = let e : 0 + m ≡ m = omega arith in ap (λ k. run_ticks plan kind k x) e
  ticks_more (suc n) m x = let e : suc n + m ≡ suc (n + m) = omega arith in ap (λ k. run_ticks plan kind k x) e ∙ ticks_more n m (run_tick plan kind x)

  pub ticks_clock : (n : ℕ) (x : Replayed K) → (run_ticks plan kind n x).switch.clock ≡ x.switch.clock + n
  unfolding run_ticks
  ticks_clock zero x = omega arith
  ticks_clock (suc n) x = omega (arith, ticks_clock n (run_tick plan kind x))

  pub to_clock : (t : ℕ) (x : Replayed K) → x.switch.clock ≤ t → (run_to plan kind t x).switch.clock ≡ t
  to_clock t x h = omega (arith, ticks_clock (t - x.switch.clock) x)

  -- ticks accept nothing
  pub ticks_accepted : (n : ℕ) (x : Replayed K) (i j : ℕ) → ((run_ticks plan kind n x).switch.flow i j).accepted ≡ (x.switch.flow i j).accepted
  unfolding run_ticks
  ticks_accepted zero x i j = refl
  ticks_accepted (suc n) x i j = ticks_accepted n (run_tick plan kind x) i j

  -- after arrivals the clock stands at the tick of the last
  pub arrivals_clock : (arrivals : List Arrival) → MayCome plan arrivals → (run_arrivals plan kind arrivals).switch.clock ≡ last_tick arrivals
  arrivals_clock [] h = refl
  arrivals_clock (a ∷ earlier) h =
      let before = run_arrivals plan kind earlier in
      offered_clock a (run_to plan kind a.tick before) ∙ to_clock a.tick before (omega (arith, arrivals_clock earlier h.2, h.1))
    where
      offered_clock : (b : Arrival) (x : Replayed K) → (offered plan kind b x).switch.clock ≡ x.switch.clock
      offered_clock b x = cond_both (kind.sign plan x.switch b.input b.output) _ _ (λ (y : Replayed K). y.switch.clock ≡ x.switch.clock) (λ _. refl) (λ _. refl)

  -- the end: nothing is inside, or a tick more
  pub out_none : (x : Replayed K) → run_out plan kind 0 x ≡ x
  unfolding run_out
  out_none x = refl

  out_by : (n : ℕ) (x : Replayed K) (none : Bool) → eqb (all_inside plan x.switch) 0 ≡ none → run_out plan kind (suc n) x ≡ elim none [ true ↦ x | false ↦ run_out plan kind n (run_tick plan kind x) ]
  unfolding run_out
  out_by n x none e = ap (λ (b : Bool). elim b [ true ↦ x | false ↦ run_out plan kind n (run_tick plan kind x) ]) e

  pub out_stops : (n : ℕ) (x : Replayed K) → all_inside plan x.switch ≡ 0 → run_out plan kind n x ≡ x
  unfolding run_out
  out_stops zero x e = refl
  out_stops (suc n) x e = out_by n x true (eq-eqb (all_inside plan x.switch) 0 e)

  pub out_goes_on : (n : ℕ) (x : Replayed K) → (all_inside plan x.switch ≡ 0 → ⊥) → run_out plan kind (n + 1) x ≡ run_out plan kind n (run_tick plan kind x)
  out_goes_on n x ne = ap (λ m. run_out plan kind m x) (add-one n) ∙ out_by n x false (ne_eqb (all_inside plan x.switch) 0 ne)

  -- all in all it is some ticks, each of which finds something inside
  pub out_ticks : (n : ℕ) (x : Replayed K) → (m : ℕ) × (m ≤ n) × (run_out plan kind n x ≡ run_ticks plan kind m x) × ((k : ℕ) → k < m → all_inside plan (run_ticks plan kind k x).switch ≡ 0 → ⊥)
  unfolding run_ticks
  out_ticks zero x = (0, omega arith, out_none x, λ k h. absurd (omega arith))
  out_ticks (suc n) x =
      ⊎_elim
      (λ (e : all_inside plan x.switch ≡ 0). (0, omega arith, out_stops (suc n) x e, λ k h. absurd (omega arith)))
      (λ (ne : all_inside plan x.switch ≡ 0 → ⊥).
      let rest = out_ticks n (run_tick plan kind x) in
      let on : run_out plan kind (suc n) x ≡ run_out plan kind n (run_tick plan kind x) = ap (λ m. run_out plan kind m x) (sym (add-one n)) ∙ out_goes_on n x ne in
      (suc rest.0, omega (arith, rest.1), on ∙ rest.2, later rest.0 ne rest.3))
      (cases_eq (all_inside plan x.switch) 0)
    where
      later : (m : ℕ) → (all_inside plan x.switch ≡ 0 → ⊥) → ((k : ℕ) → k < m → all_inside plan (run_ticks plan kind k (run_tick plan kind x)).switch ≡ 0 → ⊥) →
          (k : ℕ) → k < suc m → all_inside plan (run_ticks plan kind k x).switch ≡ 0 → ⊥
      later m ne h zero l = ne
      later m ne h (suc k) l = h k (omega arith)
