-- A flow's share: how near its bytes stay to the fluid amount.
use Rattle.std.specs.Prelude.{ℕ, ◌+◌, ◌*◌, ◌≤◌, List, take, drop}
use Rattle.std.specs.List.{AllByRecursion}
use Rattle.timing.specs.Fluid.{Accepted, fluid}
use Rattle.law.specs.Queues.{finish, stamps, bytes_of}
use Rattle.law.specs.Port.{Head}

-- A flow of weight w at tick t: of its packets ps the first i have started across, and the first d have left. Each that has
-- started had its virtual start by now, and the oldest one inside had its virtual finish at most c ticks ago, if at all.
pub record Served (W L w c t : ℕ) (ps : List Accepted) (i d : ℕ) : Type 0 where
  pub lengths : AllByRecursion (λ p. p.bytes ≤ L) ps
  pub begun : AllByRecursion (λ a. a.start ≤ w * t) (take i (stamps W w 0 ps))
  pub inside : Head (λ a. w * t ≤ finish W a + w * c) (drop d (stamps W w 0 ps))

-- The bytes started are at most L ahead of the fluid amount. The bytes that have left are at most L and the share of c ticks
-- behind it. So those held between are at most 2 × L and the share of c ticks. All in W-ths of a byte.
pub record ShareKept (W L w c t : ℕ) (ps : List Accepted) (i d : ℕ) : Type 0 where
  pub ahead : W * bytes_of ps i ≤ fluid W w t 0 ps + W * L
  pub behind : fluid W w t 0 ps ≤ W * bytes_of ps d + W * L + w * c
  pub held : W * bytes_of ps i ≤ W * bytes_of ps d + 2 * (W * L) + w * c

abbrev pub FlowKeepsItsShare : Type 0
FlowKeepsItsShare =
    (W L w c t : ℕ) (ps : List Accepted) (i d : ℕ) → Served W L w c t ps i d → ShareKept W L w c t ps i d
