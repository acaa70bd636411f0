-- The worked examples, and two runs, by computing.
use Rattle.std.proofs.Common.{◌≡◌, ℕ, ◌<◌, List, [], ◌∷◌, None, sym, refl, subst, lit<, lit≤}
use Rattle.grid.specs.Flows.{sum_below}
use Rattle.plan.specs.Refusals.{arrive_refusal}
use Rattle.plan.specs.declared.fault.ArriveFault.TheVariants.{Length}
use Rattle.store.specs.declared.meaning.TheConstants.{MOST_STORED}
use Rattle.tie.specs.PicksTied.{PicksTied}
use Rattle.tie.specs.Picked.{first_picks_tied}
use Rattle.tie.specs.Positions.{first_round}
use Rattle.law.specs.Journeys.{ended}
use Rattle.law.specs.Promises.{Bookable}
use Rattle.law.specs.Step.{Switch, sealed, after_tick}
use Rattle.law.specs.Rules.{crossing_choice, sending_choice}
use Rattle.law.specs.Runs.{Call, arrive, Answer, granted, Run, at_seal, accepts, is_unlawful, ticks, arrived, all_inside}
use Rattle.law.specs.Examples.{steps_by, lowest_rule, ExamplesHold, burst_plan, burst_log, burst, small_plan, ARun, BurstRuns}
use Rattle.law.proofs.LawfulArrivals.{lawful}
use Rattle.law.proofs.RuleAnswers.{rules_make_steps, tied_answers}
use Rattle.law.proofs.RunByRule.{WithinPorts, within_seal, within_arrives, written_same, steps_run}

pub examples_hold : ExamplesHold
unfolding steps_by ended first_round sum_below
examples_hold =
    (refl, (refl, (refl, (refl, (refl, (refl, (refl, (refl, (refl, (refl, (refl, (refl, (refl, (refl, (refl, (refl, (refl, (refl, (refl, (refl, (refl, (refl, (refl, (refl, tt))))))))))))))))))))))))

lowest_picks_tied : PicksTied lowest_rule
lowest_picks_tied = first_picks_tied (λ _. 0)

bookable : Bookable small_plan
unfolding sum_below
bookable =
    record {
      few_ports = lit≤ tt;
      some_bytes = lit< tt;
      rows = λ i h. lit≤ tt;
      columns = λ j h. lit≤ tt;
    }

next : Switch → Switch
next s = after_tick small_plan s (crossing_choice small_plan s lowest_rule) (sending_choice small_plan s lowest_rule)

pub a_run : ARun
unfolding ended first_round next
a_run =
    let s₀ = arrived sealed 0 0 1 in
    let s₁ = next s₀ in
    let s₂ = next s₁ in
    let d : Run small_plan 2 ((arrive 0 0 1, granted) ∷ []) s₀ = accepts 0 0 1 at_seal refl (lit< tt) in
    let d₀ = is_unlawful 0 0 3 Length d refl in
    let d₁ = ticks 1 (crossing_choice small_plan s₀ lowest_rule) (sending_choice small_plan s₀ lowest_rule) d₀ refl (rules_make_steps small_plan 2 bookable _ s₀ d₀ lowest_rule (tied_answers lowest_rule lowest_picks_tied)) in
    let d₂ = ticks 1 (crossing_choice small_plan s₁ lowest_rule) (sending_choice small_plan s₁ lowest_rule) d₁ refl (rules_make_steps small_plan 2 bookable _ s₁ d₁ lowest_rule (tied_answers lowest_rule lowest_picks_tied)) in
    let d₃ = ticks 1 (crossing_choice small_plan s₂ lowest_rule) (sending_choice small_plan s₂ lowest_rule) d₂ refl (rules_make_steps small_plan 2 bookable _ s₂ d₂ lowest_rule (tied_answers lowest_rule lowest_picks_tied)) in
    (bookable, (next s₂, d₃))

burst_bookable : Bookable burst_plan
unfolding sum_below
burst_bookable =
    record {
      few_ports = lit≤ tt;
      some_bytes = lit< tt;
      rows = λ i h. lit≤ tt;
      columns = λ j h. lit≤ tt;
    }

-- a packet of the burst comes
comes : {M : ℕ} {log : List (Call × Answer)} {s : Switch} (i j b : ℕ) → arrive_refusal 4 10 burst_plan.weight i j b ≡ None → all_inside burst_plan s < MOST_STORED →
    Run burst_plan M log s × WithinPorts 4 s → Run burst_plan M ((arrive i j b, granted) ∷ log) (arrived s i j b) × WithinPorts 4 (arrived s i j b)
comes {s = s} i j b is room d =
    let good = lawful burst_plan i j b is in
    (accepts i j b d.0 is room, within_arrives 4 s i j b good.input_in good.output_in d.1)

pub burst_runs : BurstRuns
unfolding ended sum_below
burst_runs = (
  burst_bookable,
  λ M.
      let s₀ : Run burst_plan M [] sealed × WithinPorts 4 sealed = (at_seal, within_seal 4) in
      let s₁ = comes 0 0 9 refl (lit< tt) s₀ in
      let s₂ = comes 0 1 9 refl (lit< tt) s₁ in
      let s₃ = comes 0 2 9 refl (lit< tt) s₂ in
      let s₄ = comes 0 3 10 refl (lit< tt) s₃ in
      let s₅ = comes 1 0 9 refl (lit< tt) s₄ in
      let s₆ = comes 1 1 9 refl (lit< tt) s₅ in
      let s₇ = comes 1 2 9 refl (lit< tt) s₆ in
      let s₈ = comes 1 3 10 refl (lit< tt) s₇ in
      let s₉ = comes 2 0 9 refl (lit< tt) s₈ in
      let s₁₀ = comes 2 1 9 refl (lit< tt) s₉ in
      let s₁₁ = comes 2 2 9 refl (lit< tt) s₁₀ in
      let s₁₂ = comes 2 3 10 refl (lit< tt) s₁₁ in
      let s₁₃ = comes 3 0 9 refl (lit< tt) s₁₂ in
      let s₁₄ = comes 3 1 9 refl (lit< tt) s₁₃ in
      let s₁₅ = comes 3 2 9 refl (lit< tt) s₁₄ in
      let s₁₆ = comes 3 3 10 refl (lit< tt) s₁₅ in
      let same = sym (written_same 4 _ s₁₆.1) in
      steps_run burst_plan M burst_bookable lowest_rule lowest_picks_tied 78 burst_log burst (lit≤ tt) (subst (WithinPorts 4) same s₁₆.1) (subst (Run burst_plan M burst_log) same s₁₆.0),
)
