-- What the state at a moment of a run shows of the flows: the packets stored are those inside, a flow outside the plan has none, and
-- the bytes of a flow are far below 2 ^ 64.
use Rattle.std.proofs.Common.{◌≡◌, ℕ, zero, suc, ◌+◌, ◌-◌, ◌^◌, ◌<◌, ◌≤◌, max, true, false, ltb, List, [], ◌∷◌, length, sum_by, sym, refl, ap, ◌∙◌, ⊎_elim, add-zero, arith, Some, None}
use mathlib.Core.Path.{fun_ext}
use native.Mathlib.Nat.{le_dest}
use Rattle.std.specs.List.{range_with_len}
use Rattle.std.proofs.lemmas.List.{length-drop, nil_from_length}
use Rattle.std.proofs.lemmas.List.Sums.{sum-map}
use Rattle.std.proofs.lemmas.Bool.{lt-ltb, ltb-true, le-ltb, cases_Bool, cases_lt, and_parts, and_right}
use Rattle.plan.specs.Weights.{weight_of, has_flow}
use Rattle.plan.specs.declared.table.Plan as kit
use Rattle.grid.specs.Flows.{sum_below, flow_sum}
use Rattle.grid.proofs.Sums as sums
use Rattle.store.specs.declared.meaning.TheConstants.{MOST_STORED}
use Rattle.store.specs.Stored.{stored}
use Rattle.timing.specs.Fluid.{Accepted, accepted_bytes}
use Rattle.law.specs.Journeys.{departed, inside, held}
use Rattle.law.specs.Plans.{plan_of}
use Rattle.law.specs.Promises.{Bookable}
use Rattle.law.specs.Queues.{bytes_of}
use Rattle.law.specs.Runs.{Call, Answer, all_inside}
use Rattle.law.specs.Step.{Switch}
use Rattle.law.proofs.EndedPackets.{ended_le_starts}
use Rattle.law.proofs.FlowInvariant.{Steady}
use Rattle.law.proofs.Lists.{sum_counting}
use Rattle.law.proofs.PromisesKept.{moment, runs_keep_promises}
use Rattle.law.proofs.SwitchInvariant as law
use Rattle.state.specs.State.{State}
use Rattle.state.specs.Lines.{until_of, busy_at, Line}
use Rattle.state.specs.Stamping.{stampable}
use Rattle.state.specs.Shows.{packets, Shows, Moment, AllPromises}
use Rattle.state.proofs.FlowBounds.{accepted_small, is_stampable}
use Rattle.state.proofs.FlowTakesPacket.{packets_length}

-- sums over 16 ports where those from n on add nothing
sum_upto : (f : ℕ → ℕ) (n d : ℕ) → ((k : ℕ) → n ≤ k → f k ≡ 0) → sum_below (n + d) f ≡ sum_below n f
sum_upto f n zero h = ap (λ m. sum_below m f) (add-zero n)
sum_upto f n (suc d) h =
    let e : n + suc d ≡ (n + d) + 1 = omega arith in
    ap (λ m. sum_below m f) e ∙ sums.sum_more (n + d) f ∙ omega (arith, sum_upto f n d h, h (n + d) (omega arith))

sum_ports : (f : ℕ → ℕ) (n : ℕ) → n ≤ 16 → ((k : ℕ) → n ≤ k → f k ≡ 0) → sum_below 16 f ≡ sum_by f (range_with_len 0 n)
sum_ports f n le h =
    let (d, e) = le_dest le in
    ap (λ m. sum_below m f) (sym e) ∙ sum_upto f n d h ∙ sym (sum_counting f n) ∙ sum-map f (range_with_len 0 n)

-- a part of a flow's bytes
pub bytes_le : (ps : List Accepted) (n : ℕ) → bytes_of ps n ≤ accepted_bytes ps
bytes_le [] zero = omega arith
bytes_le [] (suc n) = omega arith
bytes_le (p ∷ ps) zero = omega arith
bytes_le (p ∷ ps) (suc n) = omega (arith, bytes_le ps n)

-- what the law asks of a plan
pub plan_bookable : (p : kit.Plan) → Bookable (plan_of p)
plan_bookable p = record { few_ports = p.size.few_ports; some_bytes = p.size.some_bytes; rows = p.rows; columns = p.columns }

-- which flows a plan has
pub flow_in_plan : (p : kit.Plan) (i j : ℕ) → has_flow p i j ≡ true → (i < p.size.ports) × (j < p.size.ports)
flow_in_plan p i j h = let both = and_parts _ _ h in (ltb-true i _ both.0, ltb-true j _ both.1)

pub plan_has : (p : kit.Plan) (i j : ℕ) → i < p.size.ports → j < p.size.ports → has_flow p i j ≡ true
plan_has p i j hi hj = rw (lt-ltb i _ hi, lt-ltb j _ hj)

pub not_row : (p : kit.Plan) (i j : ℕ) → p.size.ports ≤ i → has_flow p i j ≡ false
not_row p i j h = rw (le-ltb i p.size.ports h)

pub not_column : (p : kit.Plan) (i j : ℕ) → p.size.ports ≤ j → has_flow p i j ≡ false
not_column p i j h = and_right (ltb i p.size.ports) (ltb j p.size.ports) (le-ltb j p.size.ports h)

-- two lines that fall free at the same tick or before t
pub test_same : (t a b : ℕ) → max t a ≡ max t b → ltb t a ≡ ltb t b
test_same t a b e =
    ⊎_elim
    (λ (l : t < a). let r : t < b = omega (arith, e) in lt-ltb t a l ∙ sym (lt-ltb t b r))
    (λ (l : a ≤ t). let r : b ≤ t = omega (arith, e) in le-ltb t a l ∙ sym (le-ltb t b r))
    (cases_lt t a)

pub busy_until : {X : Type 0} (t : ℕ) (line : Line X) → busy_at t line ≡ ltb t (until_of line)
busy_until t None = sym (le-ltb t 0 (omega arith))
busy_until t (Some b) = refl

module _ {st : State} {s : Switch} (h : Shows st s) where
  pub input_busy : (i : ℕ) → i < st.plan.size.ports → busy_at st.clock (st.crossing i) ≡ ltb s.clock (s.crossing_until i)
  input_busy i hi = ap (λ t. busy_at t (st.crossing i)) h.clock_is ∙ busy_until s.clock (st.crossing i) ∙ test_same s.clock _ _ (h.inputs i hi)

  pub output_busy : (j : ℕ) → j < st.plan.size.ports → busy_at st.clock (st.sending j) ≡ ltb s.clock (s.sending_until j)
  output_busy j hj = ap (λ t. busy_at t (st.sending j)) h.clock_is ∙ busy_until s.clock (st.sending j) ∙ test_same s.clock _ _ (h.outputs j hj)

  pub length_listed : (i j : ℕ) → length (st.lists i j) ≡ inside s.clock (s.flow i j)
  length_listed i j =
      let f = s.flow i j in
      ap length (h.flows i j).listed ∙ length-drop (departed s.clock f) (packets _ _ 0 0 f.accepted f.crossings)
      ∙ ap (λ n. n - departed s.clock f) (packets_length _ _ f.accepted 0 0 f.crossings)

  none_outside : (i j : ℕ) → has_flow st.plan i j ≡ false → inside s.clock (s.flow i j) ≡ 0
  none_outside i j out = omega (arith, ap length (h.outside i j out))

  -- the packets stored are those inside
  pub stored_inside : stored st.lists ≡ all_inside (plan_of st.plan) s
  unfolding flow_sum
  stored_inside =
      let n = st.plan.size.ports in
      let few : n ≤ 16 = st.plan.size.few_ports in
      let row : ℕ → ℕ → ℕ = λ i j. inside s.clock (s.flow i j) in
      sums.flow_sum_same (λ i j. length (st.lists i j)) row (λ i j _ _. length_listed i j)
      ∙ sum_ports (λ i. sum_below 16 (row i)) n few (λ i out. sums.sum_same 16 (row i) (λ _. 0) (λ j _. none_outside i j (not_row st.plan i j out)) ∙ sums.sum_zero 16)
      ∙ ap (λ (g : ℕ → ℕ). sum_by g (range_with_len 0 n)) (fun_ext (λ i. sum_ports (row i) n few (λ j out. none_outside i j (not_column st.plan i j out))))

module _ {M : ℕ} {st : State} {log : List (Call × Answer)} {s : Switch} (now : Moment M st log s) where
  -- what the law keeps at the moment
  pub invariant : law.Moment (plan_of st.plan) log s
  invariant = moment (plan_of st.plan) M (plan_bookable st.plan) now.run

  pub steady : (i j : ℕ) → i < st.plan.size.ports → j < st.plan.size.ports → Steady st.plan.size.parts st.plan.size.longest (weight_of st.plan i j) (law.late (plan_of st.plan) j) s.clock (s.flow i j)
  steady i j hi hj = invariant.flows i j hi hj

  -- the promises to every flow hold
  pub keeps : AllPromises (plan_of st.plan) M log s
  keeps = runs_keep_promises (plan_of st.plan) M (plan_bookable st.plan) log s now.run

  -- a packet starts across after it came, and out after it started across
  pub starts_in_order : (i j : ℕ) → i < st.plan.size.ports → j < st.plan.size.ports → (length (s.flow i j).sendings ≤ length (s.flow i j).crossings) × (length (s.flow i j).crossings ≤ length (s.flow i j).accepted)
  starts_in_order i j hi hj = let told = invariant.told i j hi hj in (told.out_after_across, told.across_after_in)

  -- by cases: a flow of the plan, or one that never has a packet
  pub in_plan_or_empty : (P : ℕ → ℕ → Type 0) (i j : ℕ) → (i < st.plan.size.ports → j < st.plan.size.ports → P i j) → ((s.flow i j).accepted ≡ [] → P i j) → P i j
  in_plan_or_empty P i j there empty =
      ⊎_elim
      (λ (here : has_flow st.plan i j ≡ true). let ports = flow_in_plan st.plan i j here in there ports.0 ports.1)
      (λ (out : has_flow st.plan i j ≡ false). empty (now.shows.outside i j out))
      (cases_Bool (has_flow st.plan i j))

  -- no more is held than the peak
  pub peak_covered : (i j : ℕ) → held s.clock (s.flow i j) ≤ s.peak i j
  peak_covered i j =
      in_plan_or_empty (λ a b. held s.clock (s.flow a b) ≤ s.peak a b) i j
      (λ hi hj. (keeps i j hi hj).0.peak_covers)
      (λ e. omega (arith, bytes_le (s.flow i j).accepted (length (s.flow i j).crossings), ap accepted_bytes e))

  -- a flow with packets is open
  pub open_flow : (i j : ℕ) → 0 < length (s.flow i j).accepted → 0 < weight_of st.plan i j
  open_flow i j some = in_plan_or_empty (λ a b. 0 < weight_of st.plan a b) i j (λ hi hj. (steady i j hi hj).is_open some) (λ e. absurd (omega (arith, some, ap length e)))

  pub empty_if_shut : (i j : ℕ) → weight_of st.plan i j ≤ 0 → (s.flow i j).accepted ≡ []
  empty_if_shut i j shut =
      ⊎_elim
      (λ (some : 0 < length (s.flow i j).accepted). absurd (omega (arith, open_flow i j some, shut)))
      (λ (none : length (s.flow i j).accepted ≤ 0). nil_from_length (s.flow i j).accepted (omega (arith, none)))
      (cases_lt 0 (length (s.flow i j).accepted))

  module _ (i j : ℕ) (hi : i < st.plan.size.ports) (hj : j < st.plan.size.ports) where
    few_inside : length (s.flow i j).accepted ≤ departed s.clock (s.flow i j) + MOST_STORED
    few_inside = omega (arith, length_listed now.shows i j, now.shows.few i j)

    left_after_across : departed s.clock (s.flow i j) ≤ length (s.flow i j).crossings
    left_after_across = omega (arith, ended_le_starts s.clock (s.flow i j).accepted (s.flow i j).sendings, (starts_in_order i j hi hj).0)

    -- a lawful packet has its stamps
    pub stamps_there : (b : ℕ) → 0 < weight_of st.plan i j → b ≤ st.plan.size.longest → stampable (st.ledgers i j).last (weight_of st.plan i j) st.clock b st.plan.size.parts ≡ true
    stamps_there b pos le =
        let shows = now.shows.flows i j in
        (λ k. stampable (shows.last_is k) (weight_of st.plan i j) (now.shows.clock_is k) b st.plan.size.parts)
        ∙ is_stampable st.plan.size.parts st.plan.size.longest (weight_of st.plan i j) s.clock (s.flow i j) st.plan.size.few_parts st.plan.size.few_bytes now.shows.early
        shows.arrived_by (steady i j hi hj).short few_inside left_after_across (keeps i j hi hj).0.not_ahead b pos le

    accepted_fits_in : accepted_bytes (s.flow i j).accepted < 2 ^ 63
    accepted_fits_in =
        accepted_small st.plan.size.parts st.plan.size.longest (weight_of st.plan i j) s.clock (s.flow i j) st.plan.size.few_parts st.plan.size.few_bytes now.shows.early
        (now.shows.flows i j).arrived_by (steady i j hi hj).short few_inside left_after_across (keeps i j hi hj).0.not_ahead
        (law.weight_fits (plan_of st.plan) (plan_bookable st.plan) log s invariant i j hi hj) st.plan.size.some_parts

  -- the bytes of a flow are few
  pub accepted_fits : (i j : ℕ) → accepted_bytes (s.flow i j).accepted < 2 ^ 63
  accepted_fits i j = in_plan_or_empty (λ a b. accepted_bytes (s.flow a b).accepted < 2 ^ 63) i j (accepted_fits_in i j) (λ e. omega (arith, ap accepted_bytes e))
