-- The listing of a file that is refused before an arrival. Assumes nothing.
use Rattle.std.proofs.Common.{◌≡◌, ℕ, List, [], ◌++◌, Option, ap, ◌∙◌}
use Rattle.replay.specs.Kinds.{Kind}
use Rattle.replay.specs.Named.{lowest_kind, turn_kind, longest_kind}
use Rattle.replay.specs.Replay.{Arrival, Replayed, run_to, at_start, run_arrivals}
use Rattle.replay.specs.Events.{events_of}
use Rattle.replay.proofs.Steps.{ticks_none}
use Rattle.runfile.specs.File.{refused}
use Rattle.runfile.specs.Order.{Item}
use Rattle.runfile.specs.declared.body.StoreKind.{StoreKind}
use Rattle.runfile.specs.declared.body.RuleKind.{RuleKind}
use Rattle.runfile.specs.declared.body.RuleKind.TheVariants.{Lowest, Turn, Longest}
use Rattle.runfile.specs.declared.fault.Fault.{Fault}
use Rattle.carry.specs.Items.{head_in, plan_in, arrivals_in}
use Rattle.carry.specs.Lines.{event_lines, refused_line}
use Rattle.carry.specs.Listing.{refused_at, run_of, listing_with, sign_of, of_kind, listing}

module _ (is : List Item) (none : arrivals_in is ≡ []) where
  module _ {K : Type 0} (kind : Kind K) where
    refused_at_start : (o : Option Item) (f : Fault) → refused_at o ≡ 0 → run_of kind (refused is o f) ≡ at_start (plan_in is) kind
    refused_at_start o f e =
        ap (λ (t : ℕ). run_to (plan_in is) kind t (run_arrivals (plan_in is) kind (arrivals_in is))) e
        ∙ ap (λ (packets : List Arrival). run_to (plan_in is) kind 0 (run_arrivals (plan_in is) kind packets)) none
        ∙ ticks_none (plan_in is) kind (at_start (plan_in is) kind)

    refused_with : (o : Option Item) (f : Fault) → refused_at o ≡ 0 → listing_with kind (refused is o f) ≡ refused_line f
    refused_with o f e = ap (λ (x : Replayed K). event_lines (events_of x.log) ++ refused_line f) (refused_at_start o f e)

  pub refused_early : (o : Option Item) (f : Fault) → refused_at o ≡ 0 → listing (refused is o f) ≡ refused_line f
  refused_early o f e = by (head_in is).store (head_in is).rule
    where
      by : (store : StoreKind) (rule : RuleKind) → of_kind (λ K kind. listing_with kind (refused is o f)) store rule ≡ refused_line f
      by store Lowest = refused_with (lowest_kind (sign_of store)) o f e
      by store Turn = refused_with (turn_kind (sign_of store)) o f e
      by store Longest = refused_with (longest_kind (sign_of store)) o f e
