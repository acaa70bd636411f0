-- How far the reading of a run file is, and the plan that it has booked.
use Rattle.std.specs.Prelude.{◌≡◌, ℕ, List, [], length, None}
use Rattle.plan.specs.declared.table.Plan.{Plan}
use Rattle.law.specs.Plans.{plan_of}
use Rattle.runfile.specs.File.{Reads, phase_of, Outcome, Comes}
use Rattle.runfile.specs.Records.{too_long}
use Rattle.runfile.specs.Order.{Item, Phase}
use Rattle.runfile.specs.declared.body.Head.{Head}
use Rattle.runfile.specs.declared.record.Rest.{Rest}
use Rattle.runfile.specs.declared.fault.Fault.{Fault}
use Rattle.carry.specs.Items.{head_in, plan_in, arrivals_in, refuses}
use Rattle.carry.specs.Lines.{refused_line}
use Rattle.carry.specs.Listing.{listing}

-- a plan that holds what the items book
abbrev pub Books : List Item → Plan → Type 0
Books is plan = plan_of plan ≡ plan_in is

-- a reading of a file: its items, and what is left behind them
pub record Stands (file : List ℕ) (is : List Item) (rest : Rest) : Type 0 where
  pub short : too_long file ≡ None
  pub reads : Reads refuses file is rest.bytes.now
  pub size : rest.length ≡ length file

-- a reading of a file whose head is h, up to a phase, without arrivals so far: what is left behind it, and the plan booked
pub record BooksAt (phase : Phase) (file : List ℕ) (h : Head) (plan : Plan) (rest : Rest) : Type 0 where
  pub items : List Item
  pub phase_is : phase_of items ≡ phase
  pub head_is : head_in items ≡ h
  pub no_arrivals : arrivals_in items ≡ []
  pub stands : Stands file items rest
  pub books : Books items plan

-- the file's listing is this text
abbrev pub Lists : List ℕ → List ℕ → Type 0
Lists file text = (o : Outcome) × Comes refuses file o × (listing o ≡ text)

-- the file is refused before anything can leave
abbrev pub Refuses : List ℕ → Fault → Type 0
Refuses file f = Lists file (refused_line f)
