-- A player plays on, and the lines are appended. Assumes nothing.
use Rattle.std.proofs.Common.{◌≡◌, ℕ, true, List, ◌++◌, Ok, Err, Result}
use Rattle.std.specs.Result.{is_ok}
use Rattle.store.specs.declared.packet.Packet.{Packet}
use Rattle.law.specs.Step.{Plan}
use Rattle.replay.specs.Replay.{Replayed}
use Rattle.replay.specs.Events.{Event, events_of}
use Rattle.player.specs.Plays.{Plays}
use Rattle.player.specs.declared.player.Player.{Player}
use Rattle.carry.specs.Lines.{event_lines}
use Rattle.carry.specs.Lists.{Appends}
use Rattle.carry.specs.Playing.{Tells, Reaches}
use Rattle.carry.proofs.Extends.{tells_more}

module _ {S R : Type 0} (lists : S → ℕ → ℕ → List Packet) (size : S → ℕ) (plan : Plan) where
  -- at the moment y, whose events are those of x and these
  pub reaches : {E : Type 0} (r : Result (Unit {0}) E) (x y : Replayed R) {g : _} (q : Player S R g) (es : List Event) → events_of y.log ≡ events_of x.log ++ es →
      (before out after : List ℕ) (room more most : ℕ) → Plays lists size plan y q → Tells x before out room more true → Appends (event_lines es) out after more most (is_ok r) →
      Reaches lists size plan y q before after room most r
  reaches (Ok u) x y q es e before out after room more most plays t s = record { plays = plays; tells = tells_more x y es e before out after room more most _ t s }
  reaches (Err f) x y q es e before out after room more most plays t s = tells_more x y es e before out after room more most _ t s
