-- The listing of a run file, as a function of what the file comes to.
use Rattle.std.specs.Prelude.{ℕ, List, ◌++◌, Some, Option}
use Rattle.replay.specs.Kinds.{Sign, rings_sign, pool_sign, Kind}
use Rattle.replay.specs.Named.{lowest_kind, turn_kind, longest_kind}
use Rattle.replay.specs.Replay.{Replayed, run_to, run_arrivals, replay}
use Rattle.replay.specs.Events.{events_of}
use Rattle.runfile.specs.File.{Outcome, complete, refused}
use Rattle.runfile.specs.Order.{Item, arrival}
use Rattle.runfile.specs.declared.body.StoreKind.{StoreKind}
use Rattle.runfile.specs.declared.body.StoreKind.TheVariants.{Rings, Pool}
use Rattle.runfile.specs.declared.body.RuleKind.{RuleKind}
use Rattle.runfile.specs.declared.body.RuleKind.TheVariants.{Lowest, Turn, Longest}
use Rattle.carry.specs.Items.{head_in, plan_in, arrivals_in}
use Rattle.carry.specs.Lines.{event_lines, peak_lines, last_line, refused_line}

-- the tick at which the library refuses an item: that of an arrival, and the seal otherwise
abbrev pub refused_at : Option Item → ℕ
refused_at (Some (arrival a)) = a.tick
refused_at o = 0

module _ {K : Type 0} (kind : Kind K) where
  -- the run behind a listing: to its end, or to the refusal
  abbrev pub run_of : Outcome → Replayed K
  run_of (complete is) = replay (plan_in is) kind (arrivals_in is)
  run_of (refused is o f) = run_to (plan_in is) kind (refused_at o) (run_arrivals (plan_in is) kind (arrivals_in is))

  -- what stands behind the lines of its events: the peaks and the end, or the refusal
  abbrev pub closing : Outcome → List ℕ
  closing (complete is) = peak_lines (plan_in is) (run_of (complete is)).switch ++ last_line (run_of (complete is))
  closing (refused is o f) = refused_line f

  abbrev pub listing_with : Outcome → List ℕ
  listing_with o = event_lines (events_of (run_of o).log) ++ closing o

-- the sign of a store
abbrev pub sign_of : StoreKind → Sign
sign_of Rings = rings_sign
sign_of Pool = pool_sign

-- f of the kind of this store and this tie rule
abbrev pub of_kind {ℓ} : {A : Type ℓ} → ((K : Type 0) → Kind K → A) → StoreKind → RuleKind → A
of_kind f store Lowest = f _ (lowest_kind (sign_of store))
of_kind f store Turn = f _ (turn_kind (sign_of store))
of_kind f store Longest = f _ (longest_kind (sign_of store))

-- the items that are read
abbrev pub items_in : Outcome → List Item
items_in (complete is) = is
items_in (refused is o f) = is

-- f of the kind that the head names
abbrev pub of_run {ℓ} : {A : Type ℓ} → ((K : Type 0) → Kind K → A) → Outcome → A
of_run f o = of_kind f (head_in (items_in o)).store (head_in (items_in o)).rule

abbrev pub listing : Outcome → List ℕ
listing o = of_run (λ K kind. listing_with kind o) o
