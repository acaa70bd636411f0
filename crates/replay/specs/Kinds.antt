-- What a switch is made with besides its plan: a store, as far as its signs show it, and a tie rule.
use Rattle.std.specs.Prelude.{◌≡◌, ℕ, ◌<◌, ◌≤◌, Bool, true, false, Some, None, Option, nat_le}
use Rattle.store.specs.declared.meaning.TheConstants.{MOST_STORED}
use Rattle.law.specs.Journeys.{inside}
use Rattle.law.specs.Step.{Plan, Switch}
use Rattle.law.specs.Rules.{Rule}
use Rattle.law.specs.Runs.{all_inside}

-- whether the store's sign of flow (i, j) is up
abbrev pub Sign : Type 0
Sign = Plan → Switch → ℕ → ℕ → Bool

-- rings: two packets of the flow are inside
abbrev pub rings_sign : Sign
rings_sign plan s i j = nat_le 2 (inside s.clock (s.flow i j))

-- pool: 512 packets are inside in all
abbrev pub pool_sign : Sign
pool_sign plan s i j = nat_le 512 (all_inside plan s)

-- A sign of a store of stated size M. It is up only once M packets are inside. Where it is down, and no flow has more than
-- `most` packets inside, its flow has fewer than that, and fewer are inside in all than any store holds.
pub record SignFits (plan : Plan) (M most : ℕ) (sign : Sign) : Type 0 where
  pub up : (s : Switch) (i j : ℕ) → i < plan.ports → j < plan.ports → sign plan s i j ≡ true → M ≤ all_inside plan s
  pub down : (s : Switch) (i j : ℕ) → i < plan.ports → j < plan.ports → sign plan s i j ≡ false →
      ((a c : ℕ) → a < plan.ports → c < plan.ports → inside s.clock (s.flow a c) ≤ most) →
      (inside s.clock (s.flow i j) < most) × (all_inside plan s < MOST_STORED)

-- when a store's sign is up, and a tie rule that keeps something of type K: what it keeps at first, what it answers from
-- what it keeps, and what it keeps once it is told the winner at a code
pub record Kind (K : Type 0) : Type 0 where
  pub sign : Sign
  pub first : K
  pub answer : K → Rule
  pub next : K → ℕ → ℕ → K

-- the next of a rule that keeps the same whatever it is told
abbrev pub unchanged : {K : Type 0} → K → ℕ → ℕ → K
unchanged kept code winner = kept

-- what a rule is told leaves it no choice of what it keeps next
abbrev pub KeepsNext : {K : Type 0} → (K → ℕ → ℕ → K → Type 0) → (K → ℕ → ℕ → K) → Type 0
KeepsNext {K} told next = (kept : K) (code winner : ℕ) (after : K) → told kept code winner after → after ≡ next kept code winner

module _ {K : Type 0} (kind : Kind K) where
  -- what the rule keeps after a choice at a code: it is told a winner, and nothing otherwise
  abbrev pub kept_after : ℕ → K → Option ℕ → K
  kept_after code kept None = kept
  kept_after code kept (Some winner) = kind.next kept code winner

  -- the same as a relation, for a winner
  abbrev pub IsNext : K → ℕ → ℕ → K → Type 0
  IsNext kept code winner after = after ≡ kind.next kept code winner
