-- A seal is the start of a run: the sealed state stands for the sealed switch of the law.
use Rattle.std.proofs.Common.{◌≡◌, ℕ, List, [], get_or, replicate, sym, refl, arith, None}
use Rattle.std.proofs.lemmas.Bool.{true≢false}
use Rattle.plan.specs.declared.table.Plan as kit
use Rattle.store.specs.declared.packet.Packet.{Packet}
use Rattle.law.specs.Journeys.{ended}
use Rattle.law.specs.Runs.{at_seal}
use Rattle.law.specs.Step.{sealed}
use Rattle.state.specs.declared.line.Ledger.{Ledger}
use Rattle.state.specs.State.{State, fresh}
use Rattle.state.specs.Seals.{sealed_state, Opens}
use Rattle.state.specs.Shows.{Shows, Moment}
use Rattle.state.proofs.Lists.{lines_same}
use Rattle.state.proofs.ShownFlows.{keeps}

shows_sealed : (plan : kit.Plan) → Shows (sealed_state plan) sealed
unfolding ended
shows_sealed plan =
    record {
      clock_is = refl;
      early = omega arith;
      flows = λ i j. record {
        arrived_by = tt;
        listed = refl;
        numbered = refl;
        last_is = refl;
        accepted_is = refl;
        started_is = refl;
        departed_is = refl;
        peak_is = refl;
        under_way_is = refl;
      };
      outside = λ i j _. refl;
      few = λ i j. omega arith;
      inputs = λ i _. refl;
      outputs = λ j _. refl;
      across_now = λ i j _ _. record { count = refl; ends = λ e. absurd (true≢false (sym e)) };
      out_now = λ i j _ _. record { count = refl; ends = λ e. absurd (true≢false (sym e)) };
      loads = λ j _. tt;
    }

pub seal_opens : (M : ℕ) (plan : kit.Plan) → Opens M (sealed_state plan)
seal_opens M plan =
    let m : Moment M (sealed_state plan) [] sealed = record { run = at_seal; shows = shows_sealed plan } in
    (m, keeps m)

-- the state that the code makes
pub sealed_is : (plan : kit.Plan) (ledgers : ℕ → ℕ → Ledger) (lists : ℕ → ℕ → List Packet) (counts : ℕ → ℕ → ℕ) → ledgers ≡ (λ _ _. fresh) → lists ≡ (λ _ _. []) → counts ≡ (λ _ _. 0) →
    ◌≡◌ {A = State} record { plan = plan; clock = 0; crossing = λ i. get_or (replicate 16 None) i None; sending = λ j. get_or (replicate 16 None) j None; ledgers = ledgers; lists = lists; counts = counts } (sealed_state plan)
sealed_is plan ledgers lists counts a b c =
    λ k. record { plan = plan; clock = 0; crossing = lines_same None 16 k; sending = lines_same None 16 k; ledgers = a k; lists = b k; counts = c k }
