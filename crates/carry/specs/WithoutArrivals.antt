-- Files in which nothing arrives: what the plan alone refuses of them, and their listing.
use Rattle.std.specs.Prelude.{◌≡◌, ℕ, cond, List, [], ◌++◌, Some, None, nat_lt, ◌≢◌, ◌↔◌}
use Rattle.std.specs.Option.{option_map}
use Rattle.listing.specs.Line.{peak_text, end_text}
use Rattle.plan.specs.Refusals.{size_refusal, share_refusal}
use Rattle.law.specs.Step.{Plan}
use Rattle.runfile.specs.File.{Library, Outcome, complete, refused, Comes}
use Rattle.runfile.specs.Order.{head, share, arrival}
use Rattle.runfile.specs.declared.body.Arrival.{Arrival}
use Rattle.runfile.specs.declared.fault.Cause.TheVariants as cause
use Rattle.carry.specs.Items.{plan_in, arrivals_in, refuses}
use Rattle.carry.specs.Lines.{join_below, refused_line}
use Rattle.carry.specs.Listing.{listing}

-- what the plan refuses of an item after those before it: a size or a share, and nothing else
abbrev pub plan_refuses : Library
plan_refuses is (head h) = option_map cause.Size (size_refusal h.ports h.longest h.parts)
plan_refuses is (share s) = option_map cause.Share (share_refusal (plan_in is).ports (plan_in is).parts (plan_in is).weight s.input s.output s.weight)
plan_refuses is i = None

-- no arrival is read, and no arrival is refused
abbrev pub NothingArrives : Outcome → Type 0
NothingArrives (complete is) = arrivals_in is ≡ []
NothingArrives (refused is o f) = (arrivals_in is ≡ []) × ((a : Arrival) → o ≢ Some (arrival a))

-- the `X` line of flow (i, j) with the peak 0, if it is open, and those of all flows, by input and then by output
abbrev pub zero_peak_of : Plan → ℕ → ℕ → List ℕ
zero_peak_of plan i j = cond (nat_lt 0 (plan.weight i j)) (peak_text i j 0) []

abbrev pub zero_peak_lines : Plan → List ℕ
zero_peak_lines plan = join_below plan.ports (λ i. join_below plan.ports (λ j. zero_peak_of plan i j))

-- the listing by the plan alone: `X` lines with the peak 0 and `E 0 0`; or the `R` line of the refusal
abbrev pub plan_listing : Outcome → List ℕ
plan_listing (complete is) = zero_peak_lines (plan_in is) ++ end_text 0 0
plan_listing (refused is o f) = refused_line f

-- A file comes to an outcome in which nothing arrives if and only if it does so by what the plan alone refuses, and the listing
-- of that outcome is that of the plan.
abbrev pub PlansAreListed : Type 0
PlansAreListed =
    (file : List ℕ) (o : Outcome) → NothingArrives o →
    (Comes plan_refuses file o ↔ Comes refuses file o) × (listing o ≡ plan_listing o)
