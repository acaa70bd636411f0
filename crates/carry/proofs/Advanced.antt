-- The ticks that a player has played since a moment, as its clock tells them. Assumes nothing.
use Rattle.std.proofs.Common.{◌≡◌, ℕ, ◌+◌, ◌-◌, ◌<◌, ◌≤◌, List, sym, ap, ◌∙◌, arith}
use Rattle.store.specs.declared.packet.Packet.{Packet}
use Rattle.plan.specs.declared.fault.TheConstants.{LAST_TICK}
use Rattle.law.specs.Runs.{all_inside}
use Rattle.law.specs.Step.{Plan}
use Rattle.replay.specs.Kinds.{Kind}
use Rattle.replay.specs.Replay.{Replayed, run_ticks, run_out}
use Rattle.replay.proofs.Steps.{ticks_none, ticks_more, ticks_clock, out_none, out_stops}
use Rattle.player.specs.Plays.{Plays}
use Rattle.player.specs.declared.player.Player.{Player}
use Rattle.carry.proofs.Extends.{out_on}

module _ {S R : Type 0} (lists : S → ℕ → ℕ → List Packet) (size : S → ℕ) (plan : Plan) (kind : Kind R) (x : Replayed R) where
  -- the moment to which the ticks since x lead that the player's clock tells
  abbrev pub since : {g : _} → Player S R g → Replayed R
  since p = run_ticks plan kind (p.running.clock - x.switch.clock) x

  pub since_itself : {g : _} (p : Player S R g) → Plays lists size plan x p → since p ≡ x
  since_itself p at =
      let none : p.running.clock - x.switch.clock ≡ 0 = omega (arith, at.switch.moment.shows.clock_is) in
      ap (λ n. run_ticks plan kind n x) none ∙ ticks_none plan kind x

  -- the run from x on, out of which these ticks are taken
  abbrev pub OutOf : {g : _} → Player S R g → Type 0
  OutOf p = run_out plan kind (LAST_TICK - x.switch.clock) x ≡ run_out plan kind (LAST_TICK - p.running.clock) (since p)

  pub out_at_first : {g : _} (p : Player S R g) → Plays lists size plan x p → OutOf p
  out_at_first p at =
      let clock = at.switch.moment.shows.clock_is in
      let left : LAST_TICK - x.switch.clock ≡ LAST_TICK - p.running.clock = omega (arith, clock) in
      ap (λ n. run_out plan kind n x) left ∙ ap (run_out plan kind (LAST_TICK - p.running.clock)) (sym (since_itself p at))

  module _ {g : _} (p : Player S R g) (here : Plays lists size plan (since p) p) where
    -- x is no later
    pub no_earlier : x.switch.clock ≤ p.running.clock
    no_earlier = omega (arith, here.switch.moment.shows.clock_is, ticks_clock plan kind (p.running.clock - x.switch.clock) x)

    -- the end: nothing is inside, or the clock stands at its last tick
    pub out_ends : OutOf p → all_inside plan (since p).switch ≡ 0 → run_out plan kind (LAST_TICK - x.switch.clock) x ≡ since p
    out_ends out none = out ∙ out_stops plan kind (LAST_TICK - p.running.clock) (since p) none

    pub out_at_last : OutOf p → LAST_TICK ≤ p.running.clock → run_out plan kind (LAST_TICK - x.switch.clock) x ≡ since p
    out_at_last out late =
        let none : LAST_TICK - p.running.clock ≡ 0 = omega (arith, late) in
        out ∙ ap (λ n. run_out plan kind n (since p)) none ∙ out_none plan kind (since p)

    -- k ticks more
    module _ (k : ℕ) where
      pub ticks_in_all : run_ticks plan kind k (since p) ≡ run_ticks plan kind (p.running.clock - x.switch.clock + k) x
      ticks_in_all = sym (ticks_more plan kind (p.running.clock - x.switch.clock) k x)

      -- where something is inside before each of them, the run goes on
      pub out_later : OutOf p → p.running.clock + k ≤ LAST_TICK → (all_inside plan (since p).switch ≡ 0 → ⊥) →
          ((m : ℕ) → m < k → all_inside plan (run_ticks plan kind m (since p)).switch ≡ all_inside plan (since p).switch) →
          run_out plan kind (LAST_TICK - x.switch.clock) x ≡ run_out plan kind (LAST_TICK - (p.running.clock + k)) (run_ticks plan kind k (since p))
      out_later out early some same =
          let left : LAST_TICK - p.running.clock - k ≡ LAST_TICK - (p.running.clock + k) = omega arith in
          out
          ∙ out_on plan kind k (LAST_TICK - p.running.clock) (since p) (omega (arith, early)) (λ m l none. some (sym (same m l) ∙ none))
          ∙ ap (λ n. run_out plan kind n (run_ticks plan kind k (since p))) left

      module _ (q : Player S R g) (on : Plays lists size plan (run_ticks plan kind k (since p)) q) where
        pub clock_later : q.running.clock ≡ p.running.clock + k
        clock_later = omega (arith, here.switch.moment.shows.clock_is, on.switch.moment.shows.clock_is, ticks_clock plan kind k (since p))

        pub since_later : run_ticks plan kind k (since p) ≡ since q
        since_later =
            let all : p.running.clock - x.switch.clock + k ≡ q.running.clock - x.switch.clock = omega (arith, clock_later, no_earlier) in
            ticks_in_all ∙ ap (λ n. run_ticks plan kind n x) all

        pub out_on_later : run_out plan kind (LAST_TICK - x.switch.clock) x ≡ run_out plan kind (LAST_TICK - (p.running.clock + k)) (run_ticks plan kind k (since p)) → OutOf q
        out_on_later out = out ∙ (λ i. run_out plan kind (LAST_TICK - sym clock_later i) (since_later i))
