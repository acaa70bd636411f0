-- What carrying a file answers and leaves.
use Rattle.std.specs.Prelude.{◌≡◌, ℕ, ◌+◌, ◌<◌, true, false, List, ◌++◌, length, Ok, Err, Result}
use Rattle.std.specs.declared.vec.Vec.{Vec}
use Rattle.plan.specs.declared.table.Plan.{Plan}
use Rattle.replay.specs.Kinds.{Sign}
use Rattle.replay.specs.Named.{lowest_kind, turn_kind, longest_kind}
use Rattle.runfile.specs.File.{Outcome, Comes}
use Rattle.runfile.specs.Order.{Running}
use Rattle.runfile.specs.declared.body.Head.{Head}
use Rattle.runfile.specs.declared.record.Rest.{Rest}
use Rattle.runfile.specs.declared.body.RuleKind.{RuleKind}
use Rattle.runfile.specs.declared.body.RuleKind.TheVariants as rule
use Rattle.carry.specs.Booked.{BooksAt}
use Rattle.carry.specs.Items.{refuses}
use Rattle.carry.specs.Lines.{refused_line}
use Rattle.carry.specs.Listing.{listing}
use Rattle.carry.specs.Lists.{Adds}
use Rattle.carry.specs.Traffic.{ListsAs}
use Rattle.carry.specs.declared.stop.Stop.{Stop}
use Rattle.carry.specs.declared.stop.Stop.TheVariants.{Refused, Memory}

-- a file of this head has this listing, over a store of this sign and by the rule of this name
abbrev pub ListsBy : Sign → RuleKind → Head → (file text : List ℕ) → Type 0
ListsBy sign rule.Lowest = ListsAs (lowest_kind sign)
ListsBy sign rule.Turn = ListsAs (turn_kind sign)
ListsBy sign rule.Longest = ListsAs (longest_kind sign)

-- the listing of a file is appended, but for the `R` line of a refusal; or there is no memory for it
abbrev pub Leaves : {Z : Type 0} → (List ℕ → Type 0) → (before after : Vec ℕ Z) → Result (Unit {0}) Stop → Type 0
Leaves IsListing before after (Ok u) = (text : List ℕ) × IsListing text × Adds text before after true
Leaves IsListing before after (Err (Refused f)) = (text : List ℕ) × IsListing (text ++ refused_line f) × Adds text before after true
Leaves IsListing before after (Err (Memory e)) = (text : List ℕ) × IsListing text × Adds text before after false

-- the same of any file whose reading stands behind its seal, with this plan booked; its head says what is its listing
abbrev pub CarriesOn : {Z : Type 0} → (Head → (file text : List ℕ) → Type 0) → Plan → Rest → (before after : Vec ℕ Z) → Result (Unit {0}) Stop → Type 0
CarriesOn IsListing plan rest before after r = (file : List ℕ) (h : Head) → BooksAt (Running 0) file h plan rest → Leaves (IsListing h file) before after r

-- A file is carried to the end of a vector that holds `before`, with room for `room` bytes in all; then it holds `after`. The
-- listing of the file's outcome is appended; or it does not fit into the room and there is no memory.
abbrev pub Carries : {E : Type 0} → (file before after : List ℕ) (room : ℕ) → Result (Unit {0}) E → Type 0
Carries file before after room (Ok u) = (o : Outcome) × Comes refuses file o × (after ≡ before ++ listing o)
Carries file before after room (Err e) = (after ≡ before) × ((o : Outcome) × Comes refuses file o × (room < length before + length (listing o)))
