-- An arrival in its tick, with its line. Assumes nothing.
use Rattle.std.proofs.Common.{◌≡◌, ℕ, Bool, true, false, List, [], ◌∷◌, ◌++◌, Some, None, Err, Ok, sym, ap, ◌∙◌, subst}
use Rattle.std.proofs.lemmas.Bool.{cond-true, cond-false}
use Rattle.std.proofs.lemmas.List.{append-nil}
use Rattle.plan.specs.declared.fault.ArriveFault.{ArriveFault}
use Rattle.plan.specs.declared.fault.ArriveFault.TheVariants.{Port, Length, Closed, Full}
use Rattle.store.specs.declared.packet.Packet.{Packet}
use Rattle.law.specs.Promises.{clock_of}
use Rattle.law.specs.Rules.{Rule}
use Rattle.law.specs.Step.{Plan}
use Rattle.law.proofs.PromisesKept.{moment}
use Rattle.state.proofs.ShownFlows.{plan_bookable}
use Rattle.replay.specs.Kinds.{Sign}
use Rattle.replay.specs.Replay.{Arrival, Replayed, offered}
use Rattle.replay.specs.Events.{Event, turned_away, events_of}
use Rattle.player.specs.Plays.{Plays, Answers, kind_with}
use Rattle.player.specs.declared.player.Player.{Player}
use Rattle.carry.specs.Lines.{event_line, event_lines}
use Rattle.carry.specs.Lists.{Appends}
use Rattle.carry.specs.Playing.{Tells, IsUpTo}
use Rattle.carry.specs.Traffic.{refused_by}
use Rattle.carry.proofs.Extends.{tells_more}

module _ {S R : Type 0} (lists : S → ℕ → ℕ → List Packet) (size : S → ℕ) where
  -- the log tells the clock
  pub clock_as_told : (plan : Plan) (y : Replayed R) {g : _} (p : Player S R g) → Plays lists size plan y p → clock_of y.log ≡ y.switch.clock
  clock_as_told plan y p plays = (moment _ _ (plan_bookable p.running.plan) plays.switch.moment.run).clock_told

  module _ (sign : Sign) (answer : R → Rule) (next : R → ℕ → ℕ → R) (first : R) (plan : Plan) (y : Replayed R) {g : _} (q : Player S R g) (a : Arrival) where
    abbrev after : Replayed R
    after = offered plan (kind_with sign answer next first) a y

    accepted_events : sign plan y.switch a.input a.output ≡ false → events_of after.log ≡ events_of y.log
    accepted_events down = ap (λ (z : Replayed R). events_of z.log) (cond-false _ _ _ down) ∙ append-nil (events_of y.log)

    turned_events : sign plan y.switch a.input a.output ≡ true → clock_of y.log ≡ a.tick → events_of after.log ≡ events_of y.log ++ turned_away a ∷ []
    turned_events up clock =
        ap (λ (z : Replayed R). events_of z.log) (cond-true _ _ _ up)
        ∙ ap (λ (t : ℕ). events_of y.log ++ turned_away record { tick = t; input = a.input; output = a.output; bytes = a.bytes } ∷ []) clock

    pub accepted : (u : Unit {0}) → Answers lists size sign answer next plan first y q a (Ok u) → (before out : List ℕ) (room more : ℕ) → Tells y before out room more true →
        (refused_by plan a ≡ None) × IsUpTo lists size plan after q before out room more
    accepted u answers before out room more tells = (
      answers.0,
      record { plays = answers.2; tells = subst (λ (es : List Event). Appends (event_lines es) before out room more true) (sym (accepted_events answers.1)) tells },
    )

    -- one that is turned away, with its line
    pub turned : Answers lists size sign answer next plan first y q a (Err Full) → clock_of y.log ≡ a.tick → (before out out' : List ℕ) (room more most : ℕ) (ok : Bool) → Tells y before out room more true →
        Appends (event_line (turned_away a)) out out' more most ok → (refused_by plan a ≡ None) × Tells after before out' room most ok × Plays lists size plan after q
    turned answers clock before out out' room more most ok tells appends = (
      answers.0,
      tells_more y after (turned_away a ∷ []) (turned_events answers.1 clock) before out out' room more most ok tells
          (subst (λ (text : List ℕ). Appends text out out' more most ok) (sym (append-nil (event_line (turned_away a)))) appends),
      answers.2,
    )

    -- one that the plan refuses
    pub unlawful : (f : ArriveFault) → (f ≡ Full → ⊥) → Answers lists size sign answer next plan first y q a (Err f) → refused_by plan a ≡ Some f
    unlawful Full other answers = absurd (other (λ k. Full))
    unlawful Port other answers = answers.0
    unlawful Length other answers = answers.0
    unlawful Closed other answers = answers.0
