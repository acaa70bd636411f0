-- What is proved of the run behind a listing.
use Rattle.std.specs.Prelude.{ℕ, ◌+◌, ◌<◌, List}
use Rattle.plan.specs.declared.fault.TheConstants.{LAST_TICK}
use Rattle.replay.specs.Kinds.{Kind}
use Rattle.replay.specs.Replay.{last_tick}
use Rattle.replay.specs.Follows.{FollowsLaw, Accounted, EndsAfter}
use Rattle.runfile.specs.File.{Outcome, complete, refused, Comes, AreBytes}
use Rattle.runfile.specs.declared.body.StoreKind.{StoreKind}
use Rattle.runfile.specs.declared.body.StoreKind.TheVariants.{Rings, Pool}
use Rattle.carry.specs.Items.{head_in, plan_in, arrivals_in, refuses}
use Rattle.carry.specs.Listing.{run_of, items_in, of_run}

-- the size that a store states
abbrev pub size_of : StoreKind → ℕ
size_of Rings = 2
size_of Pool = 512

-- the run of a whole file comes to its end before the clock's last tick
abbrev pub ComesToEnd : {K : Type 0} → Kind K → Outcome → Type 0
ComesToEnd kind (complete is) = (n : ℕ) × EndsAfter (plan_in is) kind (arrivals_in is) (run_of kind (complete is)) n × (last_tick (arrivals_in is) + n < LAST_TICK)
ComesToEnd kind (refused is o f) = Unit {0}

-- The run behind a listing follows the law, over the store that the head names: the promises hold, each departure is listed once,
-- by tick and then by output. It accounts for the arrivals of the file, and comes to its end if the file is whole: each packet
-- accepted has left, and so have all bytes.
pub record Behind {K : Type 0} (kind : Kind K) (o : Outcome) : Type 0 where
  pub follows_law : FollowsLaw (plan_in (items_in o)) (size_of (head_in (items_in o)).store) (run_of kind o)
  pub accounted : Accounted (plan_in (items_in o)) (arrivals_in (items_in o)) (run_of kind o)
  pub comes_to_end : ComesToEnd kind o

-- so of every file
abbrev pub ListingsFollowLaw : Type 0
ListingsFollowLaw = (file : List ℕ) → AreBytes file → (o : Outcome) → Comes refuses file o → of_run (λ K kind. Behind kind o) o
