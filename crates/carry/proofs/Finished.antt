-- The end of a run, as a settled switch has it. Assumes nothing.
use Rattle.std.proofs.Common.{◌≡◌, ℕ, ◌^◌, ◌<◌, List, sym, ap, ◌∙◌, subst, mod-eq_of_lt}
use Rattle.listing.specs.Line.{end_text}
use Rattle.store.specs.declared.packet.Packet.{Packet}
use Rattle.law.specs.Plans.{plan_of}
use Rattle.law.specs.Step.{Plan}
use Rattle.switch.specs.declared.running.Running.{Running}
use Rattle.switch.specs.declared.settled.Settled.{Settled}
use Rattle.replay.specs.Replay.{Replayed}
use Rattle.replay.specs.Events.{left_in, bytes_in}
use Rattle.player.specs.Plays.{IsAt, Plays}
use Rattle.player.specs.declared.player.Player.{Player}
use Rattle.carry.specs.Lines.{peak_lines, last_line}
use Rattle.carry.specs.Settles.{Settles}

module _ {S R : Type 0} (lists : S → ℕ → ℕ → List Packet) (size : S → ℕ) (plan : Plan) (y : Replayed R) {g : _} (p : Player S R g) (plays : Plays lists size plan y p) where
  pub end_of : (tick bytes : ℕ) → tick ≡ p.running.clock → bytes ≡ p.bytes → bytes_in (left_in y.log) < 2 ^ 64 → end_text tick bytes ≡ last_line y
  end_of tick bytes t b few =
      let whole : bytes ≡ bytes_in (left_in y.log) = b ∙ plays.bytes ∙ mod-eq_of_lt few in
      let last = t ∙ plays.switch.moment.shows.clock_is in
      λ k. end_text (last k) (whole k)

  module _ (settled : Settled S R g) (same : settled.running ≡ p.running) where
    settled_at : IsAt lists size plan y settled.running
    settled_at = subst (λ (r : Running S R g). IsAt lists size plan y r) (sym same) plays.switch

    pub settles : Settles lists settled y.switch
    settles = (size settled.running.store.store, y.log, settled_at.moment)

    pub same_peaks : peak_lines (plan_of settled.running.plan) y.switch ≡ peak_lines plan y.switch
    same_peaks = ap (λ (v : Plan). peak_lines v y.switch) settled_at.plan_is
