-- The playing of a run whose lines are appended to a vector that held `before`.
use Rattle.std.specs.Prelude.{◌≡◌, ℕ, ◌+◌, ◌-◌, ◌^◌, ◌<◌, ◌≤◌, min, max, Bool, true, false, List, ◌++◌, is_ok, Ok, Err, Result, vec_items, vec_capacity}
use Rattle.std.specs.declared.vec.Vec.{Vec}
use Rattle.store.specs.declared.packet.Packet.{Packet}
use Rattle.law.specs.Runs.{all_inside}
use Rattle.law.specs.Step.{Plan}
use Rattle.state.specs.Quiet.{next_event}
use Rattle.state.specs.State.{State}
use Rattle.switch.specs.Calls.{state_of}
use Rattle.replay.specs.Kinds.{Kind}
use Rattle.plan.specs.declared.fault.TheConstants.{LAST_TICK}
use Rattle.replay.specs.Replay.{Replayed, run_ticks, run_out}
use Rattle.replay.specs.Events.{events_of, left_in, bytes_in}
use Rattle.player.specs.Plays.{Plays}
use Rattle.player.specs.declared.player.Player.{Player}
use Rattle.carry.specs.Lines.{event_lines, peak_lines, last_line}
use Rattle.carry.specs.Lists.{Appends}
use Rattle.player.specs.Named.{StoreOf, RuleOf, kind_of}

-- what has happened in a replay is appended, or does not fit
abbrev pub Tells : {K : Type 0} → Replayed K → (before after : List ℕ) → (room more : ℕ) → Bool → Type 0
Tells x before after room more ok = Appends (event_lines (events_of x.log)) before after room more ok

-- how many ticks there are up to the next event and with its tick, none beyond the limit
abbrev pub ticks_with_next : State → ℕ → ℕ
ticks_with_next st limit = min limit (max st.clock (next_event st limit) + 1) - st.clock

module _ {S R : Type 0} (lists : S → ℕ → ℕ → List Packet) (size : S → ℕ) where
  -- A player is at a moment of a replay, and what has happened is appended.
  pub record IsUpTo (plan : Plan) (x : Replayed R) {g : _} (p : Player S R g) (before out : List ℕ) (room more : ℕ) : Type 0 where
    pub plays : Plays lists size plan x p
    pub tells : Tells x before out room more true

  -- where a call leads that reaches the moment y, or finds no memory on the way
  abbrev pub Reaches : {g : _} → {E : Type 0} → Plan → Replayed R → Player S R g → (before after : List ℕ) → (room more : ℕ) → Result (Unit {0}) E → Type 0
  Reaches plan y q before after room more (Ok u) = IsUpTo plan y q before after room more
  Reaches plan y q before after room more (Err e) = Tells y before after room more false

module _ {S R Z : Type 0} (store : StoreOf S) (rule : RuleOf R) where
  -- A player is at some moment of a replay, and what has happened is appended.
  abbrev pub IsPlaying : {g : _} → Player S R g → Vec ℕ Z → Type 0
  IsPlaying p out = (plan : Plan) × (x : Replayed R) × (before : List ℕ) × (room : ℕ) × IsUpTo store.lists store.size plan x p before (vec_items out) room (vec_capacity out)

  -- From any moment x at which `Soon` holds, a call plays on to the moment `on x`.
  abbrev pub PlaysOn : {E : Type 0} → (Plan → Kind R → Replayed R → Replayed R) → (Replayed R → Type 0) → {g : _} (p q : Player S R g) → (old new : Vec ℕ Z) → Result (Unit {0}) E → Type 0
  PlaysOn on Soon p q old new r =
      (plan : Plan) (first : R) (x : Replayed R) (before : List ℕ) (room : ℕ) → IsUpTo store.lists store.size plan x p before (vec_items old) room (vec_capacity old) → Soon x →
      Reaches store.lists store.size plan (on plan (kind_of store rule first) x) q before (vec_items new) room (vec_capacity new) r

  -- A call plays on up to the next event and with its tick, or only to the limit: until its last tick as many packets are inside.
  abbrev pub ToNextEvent : {E : Type 0} → ℕ → {g : _} (p q : Player S R g) → (old new : Vec ℕ Z) → Result (Unit {0}) E → Type 0
  ToNextEvent limit p q old new r =
      (plan : Plan) (first : R) (x : Replayed R) (before : List ℕ) (room : ℕ) → IsUpTo store.lists store.size plan x p before (vec_items old) room (vec_capacity old) →
      limit ≤ LAST_TICK →
      let kind = kind_of store rule first in
      let k = ticks_with_next (state_of store.lists p.running) limit in
      ((m : ℕ) → m < k → all_inside plan (run_ticks plan kind m x).switch ≡ all_inside plan x.switch)
      × Reaches store.lists store.size plan (run_ticks plan kind k x) q before (vec_items new) room (vec_capacity new) r

  -- A call plays on to the end of a run, and appends the peaks and the end: if the bytes of what has left can be counted.
  abbrev pub Ends : {g : _} → {E : Type 0} → Player S R g → (old new : Vec ℕ Z) → Result (Unit {0}) E → Type 0
  Ends p old new r =
      (plan : Plan) (first : R) (x : Replayed R) (before : List ℕ) (room : ℕ) → IsUpTo store.lists store.size plan x p before (vec_items old) room (vec_capacity old) →
      let y = run_out plan (kind_of store rule first) (LAST_TICK - x.switch.clock) x in
      bytes_in (left_in y.log) < 2 ^ 64 → Appends (event_lines (events_of y.log) ++ (peak_lines plan y.switch ++ last_line y)) before (vec_items new) room (vec_capacity new) (is_ok r)
