-- Laws of walks along links. Assumes nothing.
use Rattle.std.proofs.Common.{◌≡◌, ℕ, zero, suc, ◌+◌, ◌<◌, List, get_or, add-one, arith}
use Rattle.pool.specs.Queues.{walk}

pub walk_more : (next : List ℕ) (c k : ℕ) → walk next c (k + 1) ≡ get_or next (walk next c k) 0
unfolding walk
walk_more next c k = rw add-one

-- a number above 0 is one more than another
pub less_one : (n : ℕ) → 0 < n → (m : ℕ) × (n ≡ m + 1)
less_one zero h = absurd (omega arith)
less_one (suc n) h = (n, omega arith)
