-- The playing of the arrivals of a run file.
use Rattle.std.specs.Prelude.{◌≡◌, ℕ, ◌≤◌, ◌⊎◌, true, false, List, [], ◌∷◌, ◌++◌, Some, None, Ok, Err, Option, Result, vec_items, vec_capacity}
use Rattle.std.specs.declared.vec.Vec.{Vec}
use Rattle.std.specs.Option.{option_map}
use Rattle.plan.specs.Refusals.{arrive_refusal}
use Rattle.plan.specs.declared.fault.ArriveFault.{ArriveFault}
use Rattle.store.specs.declared.packet.Packet.{Packet}
use Rattle.law.specs.Step.{Plan}
use Rattle.replay.specs.Kinds.{Kind}
use Rattle.replay.specs.Replay.{Arrival, Replayed, run_to, offered, run_arrivals}
use Rattle.replay.specs.Events.{events_of}
use Rattle.player.specs.declared.player.Player.{Player}
use Rattle.runfile.specs.File.{phase_of, Reads, Outcome, Comes}
use Rattle.runfile.specs.Order.{Item, end, Running}
use Rattle.runfile.specs.Records.{fault_at}
use Rattle.runfile.specs.declared.record.Rest.{Rest}
use Rattle.runfile.specs.declared.body.Head.{Head}
use Rattle.runfile.specs.declared.body.Arrival as file
use Rattle.runfile.specs.declared.fault.Cause.TheVariants as cause
use Rattle.carry.specs.declared.stop.Stop.{Stop}
use Rattle.carry.specs.declared.stop.Stop.TheVariants.{Refused, Memory}
use Rattle.carry.specs.Items.{head_in, plan_in, arriving, arrivals_in, refuses}
use Rattle.carry.specs.Lines.{event_lines, refused_line}
use Rattle.carry.specs.Listing.{items_in, listing_with}
use Rattle.carry.specs.Lists.{Appends}
use Rattle.player.specs.Named.{StoreOf, RuleOf, kind_of}
use Rattle.carry.specs.Booked.{Stands}
use Rattle.carry.specs.Playing.{Tells, IsUpTo}

-- why the plan refuses an arrival
abbrev pub refused_by : Plan → Arrival → Option ArriveFault
refused_by plan a = arrive_refusal plan.ports plan.longest plan.weight a.input a.output a.bytes

module _ {S R : Type 0} (lists : S → ℕ → ℕ → List Packet) (size : S → ℕ) where
  -- an arrival at the moment y: it is accepted or turned away; or the plan refuses it, at this place; or there is no memory
  -- for what happened before it, or for its own line
  abbrev pub Brought : {g : _} → Plan → Kind R → Replayed R → Arrival → Player S R g → ℕ → (before after : List ℕ) → (room most : ℕ) → Result (Unit {0}) Stop → Type 0
  Brought plan kind y a q place before after room most (Ok u) = (refused_by plan a ≡ None) × IsUpTo lists size plan (offered plan kind a y) q before after room most
  Brought plan kind y a q place before after room most (Err (Refused f)) = (option_map (fault_at place) (option_map cause.Arrive (refused_by plan a)) ≡ Some f) × Tells y before after room most true
  Brought plan kind y a q place before after room most (Err (Memory e)) = Tells y before after room most false ⊎ ((refused_by plan a ≡ None) × Tells (offered plan kind a y) before after room most false)

-- an arrival of a file, whose tick the clock has not passed: the ticks up to it are played before
abbrev pub Brings : {S R Z : Type 0} → StoreOf S → RuleOf R → {g : _} (p q : Player S R g) → ℕ → file.Arrival → (old new : Vec ℕ Z) → Result (Unit {0}) Stop → Type 0
Brings {S} {R} store rule p q place packet old new r =
    (plan : Plan) (first : R) (x : Replayed R) (before : List ℕ) (room : ℕ) → IsUpTo store.lists store.size plan x p before (vec_items old) room (vec_capacity old) → x.switch.clock ≤ packet.tick →
    Brought store.lists store.size plan (kind_of store rule first) (run_to plan (kind_of store rule first) packet.tick x) (arriving packet) q place before (vec_items new) room (vec_capacity new) r

-- The reading of a file has come to the moment x of its run: to items that end with an arrival at this tick, or with the seal.
pub record IsRead {K : Type 0} (kind : Kind K) (file : List ℕ) (is : List Item) (rest : Rest) (clock : ℕ) (plan : Plan) (x : Replayed K) : Type 0 where
  pub stands : Stands file is rest
  pub running : phase_of is ≡ Running clock
  pub plan_is : plan_in is ≡ plan
  pub moment : x ≡ run_arrivals plan kind (arrivals_in is)

-- a file of this head has this listing, of a kind
abbrev pub ListsAs : {K : Type 0} → Kind K → Head → (file text : List ℕ) → Type 0
ListsAs kind h file text = (o : Outcome) × Comes refuses file o × (head_in (items_in o) ≡ h) × (listing_with kind o ≡ text)

module _ {S R : Type 0} (lists : S → ℕ → ℕ → List Packet) (size : S → ℕ) (kind : Kind R) where
  -- where the reading on leads: to the end record, and the moment y of the run; to a refusal, with what happened up to it; or
  -- to no memory for the file's listing
  abbrev pub ReadsOn : {g : _} → Plan → Replayed R → Rest → Player S R g → (before after : List ℕ) → (room most : ℕ) → Result (Unit {0}) Stop → Type 0
  ReadsOn plan x rest q before after room most (Ok u) =
      (y : Replayed R) × IsUpTo lists size plan y q before after room most
      × ((file : List ℕ) (is : List Item) → IsRead kind file is rest 0 plan x →
      (js : List Item) × Reads refuses file (end ∷ js) [] × (plan_in js ≡ plan) × (y ≡ run_arrivals plan kind (arrivals_in js)) × (head_in js ≡ head_in is))
  ReadsOn plan x rest q before after room most (Err (Refused f)) =
      (y : Replayed R) × Tells y before after room most true
      × ((file : List ℕ) (is : List Item) → IsRead kind file is rest 0 plan x → ListsAs kind (head_in is) file (event_lines (events_of y.log) ++ refused_line f))
  ReadsOn plan x rest q before after room most (Err (Memory e)) =
      (file : List ℕ) (is : List Item) → IsRead kind file is rest 0 plan x → (text : List ℕ) × ListsAs kind (head_in is) file text × Appends text before after room most false

-- the arrivals of a file are played from tick 0 of its run up to its end record
abbrev pub Arrives : {S R Z : Type 0} → StoreOf S → RuleOf R → {g : _} (p q : Player S R g) → Rest → (old new : Vec ℕ Z) → Result (Unit {0}) Stop → Type 0
Arrives {S} {R} store rule p q rest old new r =
    (plan : Plan) (first : R) (x : Replayed R) (before : List ℕ) (room : ℕ) → IsUpTo store.lists store.size plan x p before (vec_items old) room (vec_capacity old) → x.switch.clock ≡ 0 →
    ReadsOn store.lists store.size (kind_of store rule first) plan x rest q before (vec_items new) room (vec_capacity new) r
