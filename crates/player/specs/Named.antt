-- What a contract names by `S.NamedStore` and `R.NamedRule`: all that the bounds of a store S and of a tie rule R say of them.
use Rattle.std.specs.Prelude.{ℕ, Bool, List, Result}
use Rattle.plan.specs.declared.fault.ArriveFault.{ArriveFault}
use Rattle.store.specs.declared.packet.Packet.{Packet}
use Rattle.law.specs.Plans.{plan_of}
use Rattle.law.specs.Rules.{Rule}
use Rattle.replay.specs.Kinds.{Sign, Kind}
use Rattle.replay.specs.Replay.{at_start}
use Rattle.switch.specs.declared.draft.Draft.{Draft}
use Rattle.player.specs.declared.player.Player.{Player}
use Rattle.player.specs.Plays.{Offers, PassesQuietly, Plays, Ticks, kind_with}

abbrev pub StoreOf : Type 0 → Type 0
StoreOf S = record { lists : S → ℕ → ℕ → List Packet; full : S → ℕ → ℕ → Bool; size : S → ℕ; sign : Sign; flow_most : ℕ }

abbrev pub RuleOf : Type 0 → Type 1
RuleOf R = record { answer : R → Rule; told : R → ℕ → ℕ → R → Type 0; next : R → ℕ → ℕ → R }

-- the kind of a run over such a store, by such a rule, which keeps this at first
abbrev pub kind_of : {S R : Type 0} → StoreOf S → RuleOf R → R → Kind R
kind_of store rule first = kind_with store.sign rule.answer rule.next first

module _ {S R : Type 0} (store : StoreOf S) (rule : RuleOf R) where
  -- a player made of a draft is at the start of its replay
  abbrev pub Begins : {g : _} → Draft S R → Player S R g → Type 0
  Begins draft p =
      let plan = plan_of draft.plan in
      Plays store.lists store.size plan (at_start plan (kind_of store rule draft.rule)) p

  -- what a tick makes of a player, the passing of quiet ticks, and an arrival
  abbrev pub TicksOn : {g : _} → Player S R g → Player S R g → Type 0
  TicksOn before after = Ticks store.lists store.size store.sign rule.answer rule.next before after

  abbrev pub PassesOn : {g : _} → Player S R g → Player S R g → ℕ → ℕ → Type 0
  PassesOn before after limit k = PassesQuietly store.lists store.size store.sign rule.answer rule.next before after limit k

  abbrev pub OffersTo : {g : _} → Player S R g → Player S R g → ℕ → ℕ → ℕ → Result (Unit {0}) ArriveFault → Type 0
  OffersTo before after i j b r = Offers store.lists store.size store.sign rule.answer rule.next before after i j b r
