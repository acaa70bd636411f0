-- The run that a list of arrivals makes of a switch at its seal: tick by tick up to each arrival, and on until nothing is inside.
use Rattle.std.specs.Prelude.{◌≡◌, ℕ, zero, suc, ◌+◌, ◌-◌, ◌*◌, ◌≤◌, true, false, cond, List, [], ◌∷◌, None, ◌==◌}
use Rattle.plan.specs.Numbers.{arrive_number}
use Rattle.plan.specs.declared.fault.ArriveFault.TheVariants.{Full}
use Rattle.plan.specs.Refusals.{arrive_refusal}
use Rattle.plan.specs.declared.fault.TheConstants.{LAST_TICK}
use Rattle.law.specs.Step.{Plan, Switch, sealed, after_tick}
use Rattle.law.specs.Rules.{crossing_choice, sending_choice, choice, answers_in_order}
use Rattle.law.specs.Runs.{Call, arrive, step, Answer, granted, refused, listed, arrived, leaves, all_inside}
use Rattle.replay.specs.Kinds.{Kind, kept_after, IsNext}

-- a packet that arrives
pub record Arrival : Type 0 where
  pub tick : ℕ
  pub input : ℕ
  pub output : ℕ
  pub bytes : ℕ

-- the tick of the last of these arrivals, which stand newest first
abbrev pub last_tick : List Arrival → ℕ
last_tick [] = 0
last_tick (a ∷ earlier) = a.tick

-- arrivals that may come one after another: each is lawful, and no earlier than the one before it
abbrev pub MayCome : Plan → List Arrival → Type 0
MayCome plan [] = Unit {0}
MayCome plan (a ∷ earlier) = (arrive_refusal plan.ports plan.longest plan.weight a.input a.output a.bytes ≡ None) × (last_tick earlier ≤ a.tick) × MayCome plan earlier

-- a run at a moment: the switch, what the tie rule keeps, and the calls so far with their answers, newest first
pub record Replayed (K : Type 0) : Type 0 where
  pub switch : Switch
  pub kept : K
  pub log : List (Call × Answer)

module _ {K : Type 0} (plan : Plan) (kind : Kind K) where
  -- what the rule keeps when it is asked at each code in a tick, and at 2 × N after the tick
  abbrev pub kept_next : Switch → ℕ → K → K
  kept_next s code kept = kept_after kind code kept (choice plan s (kind.answer kept) code)

  unfoldable pub kept_at : Switch → K → ℕ → K
  kept_at s kept zero = kept
  kept_at s kept (suc code) = kept_next s code (kept_at s kept code)

  -- the switch a tick later, with the starts that the rule answers, asked in order
  abbrev pub next_switch : Switch → K → Switch
  next_switch s kept =
      after_tick plan s
      (crossing_choice plan s (answers_in_order kind.answer (IsNext kind) (kept_at s kept)))
      (sending_choice plan s (answers_in_order kind.answer (IsNext kind) (kept_at s kept)))

  abbrev pub run_tick : Replayed K → Replayed K
  run_tick x =
      record {
        switch = next_switch x.switch x.kept;
        kept = kept_at x.switch x.kept (2 * plan.ports);
        log = (step plan.ports, listed (leaves plan (next_switch x.switch x.kept) x.switch.clock (x.switch.clock + 1))) ∷ x.log;
      }

  unfoldable pub run_ticks : ℕ → Replayed K → Replayed K
  run_ticks zero x = x
  run_ticks (suc n) x = run_ticks n (run_tick x)

  -- the ticks up to this one, none if the clock has passed it
  abbrev pub run_to : ℕ → Replayed K → Replayed K
  run_to t x = run_ticks (t - x.switch.clock) x

  -- an arrival at the present tick: it is turned away if the store's sign is up, and accepted otherwise
  abbrev pub offered : Arrival → Replayed K → Replayed K
  offered a x =
      cond {A = Replayed K} (kind.sign plan x.switch a.input a.output)
      record { switch = x.switch; kept = x.kept; log = (arrive a.input a.output a.bytes, refused (arrive_number Full)) ∷ x.log }
      record { switch = arrived x.switch a.input a.output a.bytes; kept = x.kept; log = (arrive a.input a.output a.bytes, granted) ∷ x.log }

  abbrev pub at_start : Replayed K
  at_start = record { switch = sealed; kept = kind.first; log = [] }

  -- these arrivals, newest first, each in its tick
  abbrev pub run_arrivals : List Arrival → Replayed K
  run_arrivals [] = at_start
  run_arrivals (a ∷ earlier) = offered a (run_to a.tick (run_arrivals earlier))

  -- ticks until nothing is inside, at most so many
  unfoldable pub run_out : ℕ → Replayed K → Replayed K
  run_out zero x = x
  run_out (suc n) x = elim (all_inside plan x.switch == 0) [ true ↦ x | false ↦ run_out n (run_tick x) ]

  -- the whole run: the arrivals, and all the ticks that the clock has, until nothing is inside
  abbrev pub replay : List Arrival → Replayed K
  replay arrivals = run_out (LAST_TICK - (run_arrivals arrivals).switch.clock) (run_arrivals arrivals)
