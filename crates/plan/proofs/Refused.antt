-- What a call that is not refused says of its arguments. Assumes nothing.
use Rattle.std.proofs.Common.{◌≡◌, ℕ, ◌<◌, ◌≤◌, true, ◌&&◌, ltb, None, arith}
use Rattle.std.proofs.lemmas.Bool.Decides.{nat_tests}
use Rattle.plan.specs.Refusals.{port_refusal, step_refusal}
use Rattle.plan.specs.declared.fault.TheConstants.{LAST_TICK}

-- both ports are below n
pub port_granted : (n i j : ℕ) → port_refusal n i j ≡ None → (ltb i n && ltb j n) ≡ true
port_granted n i j e = grind (arith, nat_tests)

-- a step that is granted
pub step_granted : (n room clock : ℕ) → step_refusal n room clock ≡ None → (n ≤ room) × (clock < LAST_TICK)
step_granted n room clock e = grind (arith, nat_tests)

pub step_grants : (n room clock : ℕ) → n ≤ room → clock < LAST_TICK → step_refusal n room clock ≡ None
step_grants n room clock long early = grind (arith, nat_tests)

-- a step is refused alike wherever there is room alike
pub step_alike : (n a b clock : ℕ) → (a < n → b < n) → (n ≤ a → n ≤ b) → step_refusal n a clock ≡ step_refusal n b clock
step_alike n a b clock less more = grind (arith, nat_tests)
