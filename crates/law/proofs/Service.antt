-- What a line has carried of a flow up to a moment: all that the argument about a port uses of the flow's share.
use Rattle.std.proofs.Common.{◌≡◌, ℕ, ◌+◌, ◌*◌, ◌<◌, ◌≤◌, Bool, true, false, List, sum_by, ap, ◌∙◌, ⊎_elim, arith}
use Rattle.std.proofs.lemmas.Bool.{cases_lt}
use Rattle.std.specs.List.{AllByRecursion}

-- up to tick num / den, in W-ths of a byte times den, den not 0
abbrev pub Carried : Type 0
Carried = ℕ → ℕ → ℕ

-- a line of W parts: nothing at the seal, never less than before, and at most W more by tick
pub record Serves (W : ℕ) (carried : Carried) : Type 0 where
  pub scales : (num den k : ℕ) → carried (num * k) (den * k) ≡ carried num den * k
  pub at_seal : carried 0 1 ≡ 0
  pub rises : (a b den : ℕ) → a ≤ b → carried a den ≤ carried b den
  pub slow : (a b den : ℕ) → a ≤ b → carried b den + W * a ≤ carried a den + W * b

-- it is more at each later moment, and comes to every amount
pub record Moves (carried : Carried) : Type 0 where
  pub strict : (a b den : ℕ) → 0 < den → carried b den ≤ carried a den → b ≤ a
  pub reaches : (f : ℕ) → (num : ℕ) × (den : ℕ) × (0 < den) × (carried num den ≡ f * den)

-- the service of a flow: it moves where the flow is open, and a closed flow gets nothing
pub record Service : Type 0 where
  pub carried : Carried
  pub is_open : Bool

pub record IsService (W : ℕ) (carried : Carried) (is_open : Bool) : Type 0 where
  pub serves : Serves W carried
  pub moves : is_open ≡ true → Moves carried
  pub rests : is_open ≡ false → (num den : ℕ) → carried num den ≡ 0

-- services that a line can give at once: together they get no more than W by tick
pub record OnOneLine (W : ℕ) (services : List Service) : Type 0 where
  pub each : AllByRecursion (λ v. IsService W v.carried v.is_open) services
  pub together : (a b den : ℕ) → a ≤ b → sum_by (λ v. v.carried b den) services + W * a ≤ sum_by (λ v. v.carried a den) services + W * b

module _ (W : ℕ) (carried : Carried) (sv : Serves W carried) where
  -- at a whole tick
  pub at_tick : (t den : ℕ) → carried (t * den) den ≡ carried t 1 * den
  at_tick t den =
      let one : den ≡ 1 * den = omega arith in
      ap (λ (v : ℕ). carried (t * den) v) one ∙ sv.scales t 1 den

  -- a line that serves an open flow has parts
  pub some_parts : Moves carried → 0 < W
  some_parts m =
      ⊎_elim
      (λ (h : 0 < W). h)
      (λ (none : W ≤ 0). absurd (omega (arith, m.strict 0 1 1 (omega arith) (omega (arith, sv.slow 0 1 1 (omega arith), none)))))
      (cases_lt 0 W)
