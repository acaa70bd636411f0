-- A player at a moment of a replay, and what its calls do there. S is the store and R the tie rule: of the store its lists,
-- stated size and sign, of the rule its answers and what it keeps next.
use Rattle.std.specs.Prelude.{◌≡◌, ℕ, ◌+◌, ◌-◌, ◌%◌, ◌^◌, ◌<◌, ◌≤◌, min, max, true, false, cond, List, [], take, Some, None, Ok, Err, Result, ◌==◌}
use Rattle.departure.specs.declared.Departure.{Departure}
use Rattle.plan.specs.Refusals.{arrive_refusal}
use Rattle.plan.specs.declared.fault.ArriveFault.{ArriveFault}
use Rattle.plan.specs.declared.fault.ArriveFault.TheVariants.{Port, Length, Closed, Full}
use Rattle.plan.specs.declared.fault.TheConstants.{LAST_TICK}
use Rattle.store.specs.declared.packet.Packet.{Packet}
use Rattle.law.specs.Plans.{plan_of}
use Rattle.law.specs.Step.{Plan}
use Rattle.law.specs.Rules.{Rule}
use Rattle.law.specs.Runs.{leaves, all_inside}
use Rattle.state.specs.Quiet.{next_event}
use Rattle.state.specs.Shows.{Moment}
use Rattle.switch.specs.Calls.{state_of}
use Rattle.switch.specs.declared.running.Running.{Running}
use Rattle.replay.specs.Kinds.{Sign, Kind}
use Rattle.replay.specs.Replay.{Arrival, Replayed, run_tick, run_ticks, offered}
use Rattle.replay.specs.Events.{events_of, left_in, bytes_in}
use Rattle.player.specs.declared.player.Player.{Player}

-- a store's sign and a tie rule that at first is this one
abbrev pub kind_with : {R : Type 0} → Sign → (R → Rule) → (R → ℕ → ℕ → R) → R → Kind R
kind_with sign answer next first = record { sign = sign; first = first; answer = answer; next = next }

-- what left in the last tick
abbrev pub left_now : {S R : Type 0} {g : _} → Player S R g → List Departure
left_now p = take p.count p.list

-- The switch stands for that of a replay at a moment, by the same log, and its rule keeps the same.
pub record IsAt {S R : Type 0} (lists : S → ℕ → ℕ → List Packet) (size : S → ℕ) (plan : Plan) (x : Replayed R) {g : _} (running : Running S R g) : Type 0 where
  pub plan_is : plan_of running.plan ≡ plan
  pub moment : Moment (size running.store.store) (state_of lists running) x.log x.switch
  pub rule : running.rule ≡ x.kept

-- A player at that moment: so is its switch, and its counts are those of the replay.
pub record Plays {S R : Type 0} (lists : S → ℕ → ℕ → List Packet) (size : S → ℕ) (plan : Plan) (x : Replayed R) {g : _} (p : Player S R g) : Type 0 where
  pub switch : IsAt lists size plan x p.running
  pub inside : p.inside ≡ all_inside plan x.switch
  pub bytes : p.bytes ≡ bytes_in (left_in x.log) % 2 ^ 64

-- The k ticks of a replay from a moment on are quiet: after each of them the events are the same, and as many packets are inside.
pub record AddsNoEvent {K : Type 0} (plan : Plan) (kind : Kind K) (x : Replayed K) (k : ℕ) : Type 0 where
  pub events : (m : ℕ) → m ≤ k → events_of (run_ticks plan kind m x).log ≡ events_of x.log
  pub inside : (m : ℕ) → m ≤ k → all_inside plan (run_ticks plan kind m x).switch ≡ all_inside plan x.switch

module _ {S R : Type 0} (lists : S → ℕ → ℕ → List Packet) (size : S → ℕ) (sign : Sign) (answer : R → Rule) (next : R → ℕ → ℕ → R) where
  -- a tick of a replay, before the clock's last: what leaves is listed
  abbrev pub Ticks : {g : _} → Player S R g → Player S R g → Type 0
  Ticks before after =
      (plan : Plan) (first : R) (x : Replayed R) → Plays lists size plan x before → x.switch.clock < LAST_TICK →
      Plays lists size plan (run_tick plan (kind_with sign answer next first) x) after
      × (left_now after ≡ leaves plan (run_tick plan (kind_with sign answer next first) x).switch x.switch.clock (x.switch.clock + 1))

  -- k ticks of a replay are passed, all those up to the limit that come before the switch's next event: they are quiet, and none
  -- is beyond the limit; in the last of them, if there is one, nothing left
  abbrev pub PassesQuietly : {g : _} → Player S R g → Player S R g → ℕ → ℕ → Type 0
  PassesQuietly before after limit k =
      (k ≡ next_event (state_of lists before.running) limit - before.running.clock)
      × (left_now after ≡ cond (k == 0) (left_now before) [])
      × ((plan : Plan) (first : R) (x : Replayed R) → Plays lists size plan x before →
      Plays lists size plan (run_ticks plan (kind_with sign answer next first) k x) after
      × AddsNoEvent plan (kind_with sign answer next first) x k
      × (x.switch.clock + k ≤ max x.switch.clock (min limit LAST_TICK)))

  -- what an arrival answers: a lawful one is accepted where the store's sign is down, and turned away where it is up; any other
  -- is refused by the plan, and nothing changes
  abbrev pub Answers : {g : _} → Plan → R → Replayed R → Player S R g → Arrival → Result (Unit {0}) ArriveFault → Type 0
  Answers plan first x after a (Ok u) =
      (arrive_refusal plan.ports plan.longest plan.weight a.input a.output a.bytes ≡ None) × (sign plan x.switch a.input a.output ≡ false) × Plays lists size plan (offered plan (kind_with sign answer next first) a x) after
  Answers plan first x after a (Err Full) =
      (arrive_refusal plan.ports plan.longest plan.weight a.input a.output a.bytes ≡ None) × (sign plan x.switch a.input a.output ≡ true) × Plays lists size plan (offered plan (kind_with sign answer next first) a x) after
  Answers plan first x after a (Err Port) = (arrive_refusal plan.ports plan.longest plan.weight a.input a.output a.bytes ≡ Some Port) × Plays lists size plan x after
  Answers plan first x after a (Err Length) = (arrive_refusal plan.ports plan.longest plan.weight a.input a.output a.bytes ≡ Some Length) × Plays lists size plan x after
  Answers plan first x after a (Err Closed) = (arrive_refusal plan.ports plan.longest plan.weight a.input a.output a.bytes ≡ Some Closed) × Plays lists size plan x after

  -- an arrival in the present tick
  abbrev pub Offers : {g : _} → Player S R g → Player S R g → ℕ → ℕ → ℕ → Result (Unit {0}) ArriveFault → Type 0
  Offers before after i j b r =
      (plan : Plan) (first : R) (x : Replayed R) → Plays lists size plan x before →
      (t : ℕ) → Answers plan first x after record { tick = t; input = i; output = j; bytes = b } r
