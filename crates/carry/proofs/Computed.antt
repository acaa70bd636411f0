-- The worked examples, by computing. Assumes nothing.
use Rattle.std.proofs.Common.{◌≡◌, ℕ, List, [], ◌∷◌, ◌++◌, Some, refl, arith}
use Rattle.std.specs.Fmt.{digits}
use Rattle.grid.specs.Flows.{sum_below}
use Rattle.listing.specs.Line.{line_of}
use Rattle.plan.specs.declared.fault.ArriveFault.TheVariants.{Closed}
use Rattle.tie.specs.Positions.{first_round}
use Rattle.law.specs.Journeys.{ended}
use Rattle.replay.specs.Replay.{kept_at, run_ticks, run_out}
use Rattle.runfile.specs.File.{Reads, opened, more, complete, refused, completed, stopped}
use Rattle.runfile.specs.Order.{Item, head, share, seal, arrival, end, Running, Ended}
use Rattle.runfile.specs.declared.body.StoreKind.TheVariants.{Pool}
use Rattle.runfile.specs.declared.body.RuleKind.TheVariants.{Turn}
use Rattle.runfile.specs.declared.fault.Cause.TheVariants.{Arrive}
use Rattle.carry.specs.Items.{refuses}
use Rattle.carry.specs.Lines.{join_below}
use Rattle.carry.specs.Examples.{three_arrivals, WholeIsListed, RefusedIsListed}

-- the items, newest first
abbrev booked : List Item
booked =
    seal
    ∷ share record { input = 1; output = 0; weight = 1 }
    ∷ share record { input = 0; output = 1; weight = 2 }
    ∷ share record { input = 0; output = 0; weight = 2 }
    ∷ head record { ports = 2; longest = 6; parts = 4; store = Pool; rule = Turn }
    ∷ []

abbrev came : List Item
came =
    arrival record { tick = 1; input = 1; output = 0; length = 3 }
    ∷ arrival record { tick = 0; input = 0; output = 0; length = 6 }
    ∷ arrival record { tick = 0; input = 0; output = 1; length = 4 }
    ∷ booked

read_whole : Reads refuses (three_arrivals ++ 5 ∷ []) came (5 ∷ [])
unfolding sum_below
read_whole = more (more (more (more (more (more (more (more opened refl) refl) refl) refl) refl) refl) refl) refl

pub whole_is_listed : WholeIsListed
unfolding first_round ended kept_at run_ticks run_out join_below line_of digits
whole_is_listed = (complete (end ∷ came), completed (more read_whole refl), refl)

abbrev late : List ℕ
late = 4 ∷ 0 ∷ 0 ∷ 12 ∷ 1 ∷ 1 ∷ 0 ∷ 1 ∷ 5 ∷ []

read_late : Reads refuses (three_arrivals ++ late) came late
unfolding sum_below
read_late = more (more (more (more (more (more (more (more opened refl) refl) refl) refl) refl) refl) refl) refl

goes_on : Running 1 ≡ Ended → ⊥
goes_on e = let z : ◌≡◌ {A = ℕ} 0 1 = cc in omega arith

pub refused_is_listed : RefusedIsListed
unfolding first_round ended kept_at run_ticks run_out join_below line_of digits
refused_is_listed = (
  refused came (Some (arrival record { tick = 12; input = 1; output = 1; length = 1 })) record { place = 48; cause = Arrive Closed },
  stopped read_late goes_on refl,
  refl,
)
