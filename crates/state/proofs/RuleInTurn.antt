-- A tie rule through turns taken one after another: it is asked in each turn from what it keeps by then, and told the choice.
use Rattle.std.proofs.Common.{◌≡◌, ℕ, ◌+◌, ◌<◌, ◌≤◌, cond, eqb, None, Option, sym, refl, ap, ◌∙◌, subst, ⊎_elim, arith}
use Rattle.std.proofs.lemmas.Bool.{cases_eq, eq-eqb, ne_eqb, cond-true, cond-false}
use Rattle.law.specs.Rules.{Rule, KeptAfter}

module _ {K : Type 0} (answer : K → Rule) (told : K → ℕ → ℕ → K → Type 0) where
  -- of the same choice by the same rule
  pub kept_as : (code : ℕ) {a a' : K} {o o' : Option ℕ} {b b' : K} → a ≡ a' → o ≡ o' → b ≡ b' → KeptAfter answer told a code o b → KeptAfter answer told a' code o' b'
  kept_as code {a} {a'} {o} {o'} {b} {b'} x y z h =
      subst (λ (v : K). KeptAfter answer told v code o' b') x (subst (λ (v : Option ℕ). KeptAfter answer told a code v b') y (subst (λ (v : K). KeptAfter answer told a code o v) z h))

  -- `choice` says what is chosen in each turn from what the rule keeps, and `code` at which port code
  module _ (choice : K → ℕ → Option ℕ) (code : ℕ → ℕ) where
    -- ks i is what the rule keeps when turn i comes, at first `kept` and after n turns k; `chosen` are the choices
    pub record InTurn (kept : K) (n : ℕ) (k : K) (chosen : ℕ → Option ℕ) (ks : ℕ → K) : Type 0 where
      pub begins : ks 0 ≡ kept
      pub ends : ks n ≡ k
      pub asks : (i : ℕ) → i < n → chosen i ≡ choice (ks i) i
      pub tells : (i : ℕ) → i < n → KeptAfter answer told (ks i) (code i) (chosen i) (ks (i + 1))
      pub none : (i : ℕ) → n ≤ i → chosen i ≡ None

    pub no_turn : (kept : K) → InTurn kept 0 kept (λ _. None) (λ _. kept)
    no_turn kept = record { begins = refl; ends = refl; asks = λ i l. absurd (omega (arith, l)); tells = λ i l. absurd (omega (arith, l)); none = λ i _. refl }

    -- one turn more
    pub more_turn : (kept : K) (n : ℕ) (k next : K) (chosen : ℕ → Option ℕ) (ks : ℕ → K) → InTurn kept n k chosen ks → KeptAfter answer told k (code n) (choice k n) next →
        InTurn kept (n + 1) next (λ i. cond (eqb i n) (choice k n) (chosen i)) (λ i. cond (eqb i (n + 1)) next (ks i))
    more_turn kept n k next chosen ks q t =
        let off : (i : ℕ) → i ≤ n → cond (eqb i (n + 1)) next (ks i) ≡ ks i = λ i l. cond-false (eqb i (n + 1)) next (ks i) (ne_eqb i (n + 1) (λ e. omega (arith, e, l))) in
        let on : cond (eqb (n + 1) (n + 1)) next (ks (n + 1)) ≡ next = cond-true (eqb (n + 1) (n + 1)) next (ks (n + 1)) (eq-eqb (n + 1) (n + 1) refl) in
        record {
          begins = off 0 (omega arith) ∙ q.begins;
          ends = on;
          asks = λ i l.
              ⊎_elim
              (λ (e : i ≡ n). cond-true (eqb i n) _ (chosen i) (eq-eqb i n e) ∙ (λ x. choice (sym (off i (omega (arith, l)) ∙ ap ks e ∙ q.ends) x) (sym e x)))
              (λ (ne : i ≡ n → ⊥). cond-false (eqb i n) _ (chosen i) (ne_eqb i n ne) ∙ q.asks i (omega (arith, l, ne)) ∙ ap (λ (y : K). choice y i) (sym (off i (omega (arith, l)))))
              (cases_eq i n);
          tells = λ i l.
              ⊎_elim
              (λ (e : i ≡ n).
              subst (λ a. KeptAfter answer told (cond (eqb a (n + 1)) next (ks a)) (code a) (cond (eqb a n) (choice k n) (chosen a)) (cond (eqb (a + 1) (n + 1)) next (ks (a + 1)))) (sym e)
              (kept_as (code n) (sym (off n (omega arith) ∙ q.ends)) (sym (cond-true (eqb n n) _ (chosen n) (eq-eqb n n refl))) (sym on) t))
              (λ (ne : i ≡ n → ⊥).
              kept_as (code i) (sym (off i (omega (arith, l)))) (sym (cond-false (eqb i n) _ (chosen i) (ne_eqb i n ne))) (sym (off (i + 1) (omega (arith, l, ne)))) (q.tells i (omega (arith, l, ne))))
              (cases_eq i n);
          none = λ i l. cond-false (eqb i n) _ (chosen i) (ne_eqb i n (λ e. omega (arith, e, l))) ∙ q.none i (omega (arith, l));
        }
