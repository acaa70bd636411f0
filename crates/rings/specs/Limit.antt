-- The lemma that the store's law `full_at_most` cites.
use Rattle.std.specs.Prelude.{ℕ, ◌+◌, ◌*◌, ◌≤◌, List, length}
use Rattle.std.proofs.Common.{arith}
use Rattle.std.proofs.lemmas.Bool.{cond_both}
use Rattle.arrayvec.specs.ArrayVec.{ArrayVec}
use Rattle.store.specs.declared.packet.Packet.{Packet}
use Rattle.grid.specs.Flows.{in_grid}
use Rattle.rings.specs.Held.{lists_in, AtMostTwo}

-- no flow has more than two packets
pub at_most_two : (rings : List (ArrayVec Packet)) → AtMostTwo rings → (i j : ℕ) → length (lists_in rings i j) ≤ 2
at_most_two rings short i j =
    cond_both (in_grid i j) _ _ (λ (ring : ArrayVec Packet). length ring.items ≤ 2) (λ _. short (16 * i + j)) (λ _. omega arith)
