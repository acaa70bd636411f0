-- The line of an output over a tick: what leaves, and what stays on it.
use Rattle.std.proofs.Common.{◌≡◌, ℕ, ◌+◌, ◌<◌, ◌≤◌, max, false, cond, ◌&&◌, eqb, ltb, length, Some, None, Option, sym, refl, ap, ◌∙◌, subst, ⊎_elim, arith}
use Rattle.std.proofs.lemmas.Bool.{cases_eq, lt-ltb, eq-eqb, ne_eqb, and_right}
use Rattle.law.specs.Journeys.{Journeys, departed}
use Rattle.law.specs.Step.{Plan}
use Rattle.law.specs.Runs.{departure}
use Rattle.departure.specs.declared.Departure.{Departure}
use Rattle.state.specs.Finishes.{ends_at}
use Rattle.state.specs.Shows.{IsOnLine, Loaded}
use Rattle.state.proofs.FlowOnLine.{line_free, off_line, line_ends, line_ticks}
use Rattle.state.specs.declared.line.Busy.{Busy}
use Rattle.state.specs.Lines.{until_of, loaded_with, from_input, Line}

-- the line once this has left it
abbrev pub left_line : Option Departure → Line Departure → Line Departure
left_line None line = line
left_line (Some d) line = None

module _ (plan : Plan) (t j : ℕ) (flows : ℕ → Journeys) where
  -- nothing leaves; or the oldest packet inside of one flow does
  pub data Outcome (o : Option Departure) : Type 0 where
    stays : o ≡ None → ((i : ℕ) → i < plan.ports → departed (t + 1) (flows i) ≡ departed t (flows i)) → Outcome o
    goes : (d : Departure) → o ≡ Some d → d.input < plan.ports → d ≡ departure plan d.input j (flows d.input) (departed t (flows d.input)) →
        length (flows d.input).sendings ≡ departed t (flows d.input) + 1 → departed (t + 1) (flows d.input) ≡ departed t (flows d.input) + 1 →
        ((i : ℕ) → i < plan.ports → (i ≡ d.input → ⊥) → departed (t + 1) (flows i) ≡ departed t (flows i)) → Outcome o

  -- what is known of the line before the tick
  pub record AtLine (line : Line Departure) : Type 0 where
    pub on : (i : ℕ) → i < plan.ports → IsOnLine t (flows i).accepted (flows i).sendings (loaded_with from_input i line) (until_of line)
    pub load : Loaded plan t flows j line
    pub long : (i : ℕ) → i < plan.ports → length (flows i).sendings ≤ length (flows i).accepted
    pub few : plan.ports ≤ 16

  moved : (line : Line Departure) → AtLine line → (i : ℕ) → i < plan.ports → departed (t + 1) (flows i) ≡ departed t (flows i) + cond (loaded_with from_input i line && eqb (until_of line) (t + 1)) 1 0
  moved line a i hi = line_ends t (flows i).accepted (flows i).sendings (loaded_with from_input i line) (until_of line) (a.long i hi) (a.on i hi)

  unmoved : (line : Line Departure) → AtLine line → (i : ℕ) → i < plan.ports → (loaded_with from_input i line && eqb (until_of line) (t + 1)) ≡ false → departed (t + 1) (flows i) ≡ departed t (flows i)
  unmoved line a i hi e =
      let m : departed (t + 1) (flows i) ≡ departed t (flows i) + 0 = moved line a i hi ∙ ap (λ v. departed t (flows i) + cond v 1 0) e in
      omega (arith, m)

  -- a line that does not end now
  not_now : (b : Busy Departure) → (b.until ≡ t + 1 → ⊥) → ends_at (t + 1) (Some b) ≡ None
  not_now b ne = ap (λ v. cond v (cond (ltb b.load.input 16) (Some b.load) None) None) (ne_eqb b.until (t + 1) ne)

  -- a line that does
  ends_now : (b : Busy Departure) → b.until ≡ t + 1 → b.load.input < 16 → ends_at (t + 1) (Some b) ≡ Some b.load
  ends_now b e l = (λ k. cond (eq-eqb b.until (t + 1) e k) (cond (lt-ltb b.load.input 16 l k) (Some b.load) None) None)

  load_at : (b : Busy Departure) → AtLine (Some b) → b.until ≡ t + 1 → (b.load.input < plan.ports) × (b.load ≡ departure plan b.load.input j (flows b.load.input) (departed t (flows b.load.input)))
  load_at b a e = a.load (omega (arith, e))

  pub outcome : (line : Line Departure) → AtLine line → Outcome (ends_at (t + 1) line)
  outcome None a = stays refl (λ i hi. unmoved None a i hi refl)
  outcome (Some b) a =
      ⊎_elim
      (λ (e : b.until ≡ t + 1).
      let l = load_at b a e in
      let here : length (flows b.load.input).sendings ≡ departed t (flows b.load.input) + 1 =
      (a.on b.load.input l.0).count ∙ (λ k. departed t (flows b.load.input) + cond (eq-eqb b.load.input b.load.input refl k && lt-ltb t b.until (omega (arith, e)) k) 1 0) in
      let went : departed (t + 1) (flows b.load.input) ≡ departed t (flows b.load.input) + 1 =
      moved (Some b) a b.load.input l.0 ∙ (λ k. departed t (flows b.load.input) + cond (eq-eqb b.load.input b.load.input refl k && eq-eqb b.until (t + 1) e k) 1 0) in
      goes b.load (ends_now b e (omega (arith, l.0, a.few))) l.0 l.1 here went
      (λ i hi ne. unmoved (Some b) a i hi (ap (λ v. v && eqb b.until (t + 1)) (ne_eqb b.load.input i (λ z. ne (sym z))))))
      (λ (ne : b.until ≡ t + 1 → ⊥). stays (not_now b ne) (λ i hi. unmoved (Some b) a i hi (and_right (eqb b.load.input i) (eqb b.until (t + 1)) (ne_eqb b.until (t + 1) ne))))
      (cases_eq b.until (t + 1))

  ticked_on : (line : Line Departure) → AtLine line → (i : ℕ) → i < plan.ports → IsOnLine (t + 1) (flows i).accepted (flows i).sendings (loaded_with from_input i line) (until_of line)
  ticked_on line a i hi = line_ticks t (flows i).accepted (flows i).sendings (loaded_with from_input i line) (until_of line) (a.long i hi) (a.on i hi)

  pub on_after : (line : Line Departure) → AtLine line → (i : ℕ) → i < plan.ports →
      IsOnLine (t + 1) (flows i).accepted (flows i).sendings (loaded_with from_input i (left_line (ends_at (t + 1) line) line)) (until_of (left_line (ends_at (t + 1) line) line))
  on_after None a i hi = ticked_on None a i hi
  on_after (Some b) a i hi =
      ⊎_elim
      (λ (e : b.until ≡ t + 1).
      subst (λ (o : Option Departure). IsOnLine (t + 1) (flows i).accepted (flows i).sendings (loaded_with from_input i (left_line o (Some b))) (until_of (left_line o (Some b)))) (sym (ends_now b e (omega (arith, (load_at b a e).0, a.few))))
      (off_line (t + 1) (flows i).accepted (flows i).sendings false 0 (line_free (t + 1) (flows i).accepted (flows i).sendings _ b.until (ticked_on (Some b) a i hi) (omega (arith, e))) refl))
      (λ (ne : b.until ≡ t + 1 → ⊥).
      subst (λ (o : Option Departure). IsOnLine (t + 1) (flows i).accepted (flows i).sendings (loaded_with from_input i (left_line o (Some b))) (until_of (left_line o (Some b)))) (sym (not_now b ne))
      (ticked_on (Some b) a i hi))
      (cases_eq b.until (t + 1))

  pub load_after : (line : Line Departure) → AtLine line → Loaded plan (t + 1) flows j (left_line (ends_at (t + 1) line) line)
  load_after None a = tt
  load_after (Some b) a =
      ⊎_elim
      (λ (e : b.until ≡ t + 1). subst (λ (o : Option Departure). Loaded plan (t + 1) flows j (left_line o (Some b))) (sym (ends_now b e (omega (arith, (load_at b a e).0, a.few)))) tt)
      (λ (ne : b.until ≡ t + 1 → ⊥).
      subst (λ (o : Option Departure). Loaded plan (t + 1) flows j (left_line o (Some b))) (sym (not_now b ne))
      (λ (later : t + 1 < b.until).
      let old = a.load (omega (arith, later)) in
      let same = unmoved (Some b) a b.load.input old.0 (and_right (eqb b.load.input b.load.input) (eqb b.until (t + 1)) (ne_eqb b.until (t + 1) ne)) in
      (old.0, old.1 ∙ ap (departure plan b.load.input j (flows b.load.input)) (sym same))))
      (cases_eq b.until (t + 1))

  pub until_after : (line : Line Departure) → AtLine line → max (t + 1) (until_of (left_line (ends_at (t + 1) line) line)) ≡ max (t + 1) (until_of line)
  until_after None a = refl
  until_after (Some b) a =
      ⊎_elim
      (λ (e : b.until ≡ t + 1).
      ap (λ (o : Option Departure). max (t + 1) (until_of (left_line o (Some b)))) (ends_now b e (omega (arith, (load_at b a e).0, a.few))) ∙ (let z : max (t + 1) 0 ≡ max (t + 1) b.until = omega (arith, e) in z))
      (λ (ne : b.until ≡ t + 1 → ⊥). ap (λ (o : Option Departure). max (t + 1) (until_of (left_line o (Some b)))) (not_now b ne))
      (cases_eq b.until (t + 1))
