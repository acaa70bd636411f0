-- The totals of a ledger, kept modulo 2 ^ 64, are exact: no flow ever has so many bytes.
use Rattle.std.proofs.Common.{◌≡◌, ℕ, ◌^◌, ◌<◌, List, length, ◌∙◌, mod-eq_of_lt, arith}
use Rattle.timing.specs.Fluid.{accepted_bytes}
use Rattle.store.specs.declared.packet.Packet.{Packet}
use Rattle.law.specs.Journeys.{Journeys, departed, started_bytes, departed_bytes}
use Rattle.state.specs.declared.line.Ledger.{Ledger}
use Rattle.state.specs.Shows.{FlowShows}
use Rattle.state.proofs.ShownFlows.{bytes_le}

module _ {W w t : ℕ} {f : Journeys} {peak : ℕ} {list : List Packet} {count : ℕ} {l : Ledger} (h : FlowShows W w t f peak list count l) (small : accepted_bytes f.accepted < 2 ^ 63) where
  pub accepted_exact : l.accepted ≡ accepted_bytes f.accepted
  accepted_exact = let less : accepted_bytes f.accepted < 2 ^ 64 = omega (arith, small) in h.accepted_is ∙ mod-eq_of_lt less

  pub started_exact : l.started ≡ started_bytes f
  started_exact = let less : started_bytes f < 2 ^ 64 = omega (arith, bytes_le f.accepted (length f.crossings), small) in h.started_is ∙ mod-eq_of_lt less

  pub departed_exact : l.departed ≡ departed_bytes t f
  departed_exact = let less : departed_bytes t f < 2 ^ 64 = omega (arith, bytes_le f.accepted (departed t f), small) in h.departed_is ∙ mod-eq_of_lt less
