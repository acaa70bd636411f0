-- The signs of the named stores are those that a run names.
use Rattle.std.specs.Prelude.{◌≡◌, ℕ, ◌<◌, true, cond, List, length, nat_le}
use Rattle.std.proofs.Common.{ap, ◌∙◌, arith}
use Rattle.std.proofs.lemmas.Bool.{lt-ltb}
use Rattle.grid.specs.Flows.{in_grid}
use Rattle.store.specs.Stored.{stored}
use Rattle.store.specs.declared.packet.Packet.{Packet}
use Rattle.law.specs.Step.{Plan, Switch}
use Rattle.rings.specs.Held.{full_at_two}
use Rattle.pool.specs.Held.{full_at_512}
use Rattle.replay.specs.Kinds.{rings_sign, pool_sign}
use Rattle.player.specs.Held.{Holds}

module _ (lists : ℕ → ℕ → List Packet) (plan : Plan) (s : Switch) (h : Holds lists plan s) (i j : ℕ) (hi : i < plan.ports) (hj : j < plan.ports) where
  within : in_grid i j ≡ true
  within = rw (lt-ltb i 16 (omega (arith, h.few_ports)), lt-ltb j 16 (omega (arith, h.few_ports)))

  pub rings_signs : full_at_two lists i j ≡ rings_sign plan s i j
  rings_signs = ap (λ b. cond b (nat_le 2 (length (lists i j))) true) within ∙ ap (nat_le 2) (h.each i j)

  pub pool_signs : full_at_512 lists i j ≡ pool_sign plan s i j
  pool_signs = ap (λ b. cond b (nat_le 512 (stored lists)) true) within ∙ ap (nat_le 512) h.all
