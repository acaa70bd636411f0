-- A line carries one packet after another: what has ended and what has not, the departures listed by the step that ends at
-- their tick, and their bytes.
use Rattle.std.proofs.Common.{◌≡◌, ℕ, zero, suc, ◌+◌, ◌-◌, ◌<◌, ◌≤◌, Bool, true, false, cond, leb, ltb, List, [], ◌∷◌, map, length, get_or, sum_by, filter, refl, sym, ap, ◌∙◌, subst, ⊎_elim, arith}
use Rattle.std.proofs.lemmas.Bool.{leb-true, leb-false, lt-ltb, le-ltb, cases_Bool, cases_eq, cases_lt}
use Rattle.std.specs.List.{range_with_len, AllByRecursion}
use Rattle.timing.specs.Fluid.{Accepted}
use Rattle.grid.specs.Flows.{sum_below}
use Rattle.std.proofs.lemmas.List.Sums.{sum-map}
use Rattle.law.specs.Queues.{bytes_of}
use Rattle.law.specs.Journeys.{Journeys, ended, departed}
use Rattle.law.specs.Step.{Plan, Switch}
use Rattle.departure.specs.declared.Departure.{Departure}
use Rattle.law.specs.Runs.{departure, flow_leaves, leaves, no_packet, Call, Answer}
use Rattle.law.specs.Promises.{clock_of, of_flow, on_line}
use Rattle.law.proofs.EndedPackets.{ended_later, ended_le_starts, ended_le_packets}
use Rattle.law.proofs.DeparturesOfFlow.{kept_leaves}
use Rattle.law.proofs.Lists.{sum_by_map, sum_counting}
use Rattle.law.proofs.OneAtATime.{end_of, LinesCarry}

-- what has ended by t
pub ended_by : (t : ℕ) (ps : List Accepted) (vs : List ℕ) (k : ℕ) (p₀ : Accepted) → k < ended t ps vs → get_or vs k 0 + (get_or ps k p₀).bytes ≤ t
unfolding ended
ended_by t [] vs k p₀ h = absurd (omega arith)
ended_by t (p ∷ ps) [] k p₀ h = absurd (omega arith)
ended_by t (p ∷ ps) (v ∷ vs) k p₀ h =
    ⊎_elim
    (λ (e : leb (v + p.bytes) t ≡ true). go k (leb-true (v + p.bytes) t e) (subst (λ (b : Bool). k < cond b (suc (ended t ps vs)) 0) e h) (λ m l. ended_by t ps vs m p₀ l))
    (λ (e : leb (v + p.bytes) t ≡ false). absurd (none (subst (λ (b : Bool). k < cond b (suc (ended t ps vs)) 0) e h)))
    (cases_Bool (leb (v + p.bytes) t))
  where
    none : k < 0 → ⊥
    none l = omega arith

    go : (m : ℕ) → v + p.bytes ≤ t → m < suc (ended t ps vs) → ((x : ℕ) → x < ended t ps vs → get_or vs x 0 + (get_or ps x p₀).bytes ≤ t) → get_or (v ∷ vs) m 0 + (get_or (p ∷ ps) m p₀).bytes ≤ t
    go zero l s tail = l
    go (suc m) l s tail = tail m (omega arith)

-- the first that has not ended
first_not_ended : (t : ℕ) (ps : List Accepted) (vs : List ℕ) → ended t ps vs < length vs → ended t ps vs < length ps → t < end_of ps vs (ended t ps vs)
unfolding ended
first_not_ended t [] vs lv lp = absurd (omega arith)
first_not_ended t (p ∷ ps) [] lv lp = absurd (omega arith)
first_not_ended t (p ∷ ps) (v ∷ vs) lv lp =
    ⊎_elim
    (λ (e : leb (v + p.bytes) t ≡ true).
    let in-sent = subst (λ (b : Bool). cond b (suc (ended t ps vs)) 0 < length (v ∷ vs)) e lv in
    let in-accepted = subst (λ (b : Bool). cond b (suc (ended t ps vs)) 0 < length (p ∷ ps)) e lp in
    rw e (first_not_ended t ps vs (omega (arith, in-sent)) (omega (arith, in-accepted))))
    (λ (e : leb (v + p.bytes) t ≡ false). rw e (leb-false (v + p.bytes) t e))
    (cases_Bool (leb (v + p.bytes) t))

-- and so none behind it
not_ended : (t : ℕ) (ps : List Accepted) (vs : List ℕ) → ((x y : ℕ) → x < y → y < length vs → end_of ps vs x ≤ get_or vs y 0) → (k : ℕ) → ended t ps vs ≤ k → k < length vs → k < length ps → t < end_of ps vs k
not_ended t ps vs turn k l lv lp =
    let e = ended t ps vs in
    let first = first_not_ended t ps vs (omega arith) (omega arith) in
    ⊎_elim
    (λ (same : e ≡ k). subst (λ (x : ℕ). t < end_of ps vs x) same first)
    (λ (ne : e ≡ k → ⊥). omega (arith, first, turn e k (omega arith) lv))
    (cases_eq e k)

all_map_from : (P : Departure → Type 0) (g : ℕ → Departure) (a n : ℕ) → ((k : ℕ) → a ≤ k → k < a + n → P (g k)) → AllByRecursion P (map g (range_with_len a n))
all_map_from P g a zero h = tt
all_map_from P g a (suc n) h = (h a (omega arith) (omega arith), all_map_from P g (a + 1) n (λ k l u. h k (omega arith) (omega arith)))

-- each departure of a step ends when the step does
pub leaves_now : (plan : Plan) (i j t : ℕ) (f : Journeys) → ((x y : ℕ) → x < y → y < length f.sendings → end_of f.accepted f.sendings x ≤ get_or f.sendings y 0) → AllByRecursion (λ d. d.tick ≡ t + 1) (flow_leaves plan t (t + 1) i j f)
leaves_now plan i j t f turn =
    let grows = ended_later t f.accepted f.sendings in
    let in-sent = ended_le_starts (t + 1) f.accepted f.sendings in
    let in-accepted = ended_le_packets (t + 1) f.accepted f.sendings in
    all_map_from (λ d. d.tick ≡ t + 1) (departure plan i j f) (departed t f) (departed (t + 1) f - departed t f)
    (λ k low high.
    let by = ended_by (t + 1) f.accepted f.sendings k no_packet (omega (arith, grows)) in
    let after = not_ended t f.accepted f.sendings turn k low (omega (arith, grows, in-sent)) (omega (arith, grows, in-accepted)) in
    omega (arith, by, after))

-- those of a step from tick t to the next switch, as a log tells them
pub step_lists_now : (plan : Plan) (log : List (Call × Answer)) (next : Switch) (t : ℕ) → clock_of log ≡ t → LinesCarry plan next → (i j : ℕ) → i < plan.ports → j < plan.ports →
    AllByRecursion (λ d. d.tick ≡ clock_of log + 1) (filter (of_flow i j) (leaves plan next t (t + 1)))
step_lists_now plan log next t clock_told lines i j hi hj =
    let now = leaves_now plan i j t (next.flow i j) (λ x y l ly. (lines.outputs j hj).one.in_turn i x y hi l ly) in
    let of-log = subst (λ (ds : List Departure). AllByRecursion (λ d. d.tick ≡ t + 1) ds) (sym (kept_leaves plan next t (t + 1) i j hi hj)) now in
    subst (λ (u : ℕ). AllByRecursion (λ d. d.tick ≡ u + 1) (filter (of_flow i j) (leaves plan next t (t + 1)))) (sym clock_told) of-log

-- of n numbers those from e on count
count_from : (p : ℕ → Bool) (e n : ℕ) → ((k : ℕ) → k < e → k < n → p k ≡ false) → ((k : ℕ) → e ≤ k → k < n → p k ≡ true) → sum_below n (λ k. cond (p k) 1 0) ≡ n - e
unfolding sum_below
count_from p e zero none each = omega arith
count_from p e (suc n) none each =
    let before = count_from p e n (λ k l h. none k l (omega arith)) (λ k l h. each k l (omega arith)) in
    ⊎_elim
    (λ (h : n < e). omega (arith, before, ap {B = ℕ} (λ (b : Bool). cond b 1 0) (none n h (omega arith))))
    (λ (h : e ≤ n). omega (arith, before, ap {B = ℕ} (λ (b : Bool). cond b 1 0) (each n h (omega arith))))
    (cases_lt n e)

-- the packets of a flow that have started on a line and not ended
pub on_line_is : (t : ℕ) (ps : List Accepted) (vs : List ℕ) → length vs ≤ length ps → ((x y : ℕ) → x < y → y < length vs → end_of ps vs x ≤ get_or vs y 0) → on_line t ps vs ≡ length vs - ended t ps vs
on_line_is t ps vs long turn =
    let is-on : ℕ → Bool = λ k. ltb t (end_of ps vs k) in
    sym (sum-map (λ k. cond (is-on k) 1 0) (range_with_len 0 (length vs))) ∙ sum_counting (λ k. cond (is-on k) 1 0) (length vs)
    ∙ count_from is-on (ended t ps vs) (length vs)
    (λ k l h. le-ltb t (end_of ps vs k) (ended_by t ps vs k no_packet l))
    (λ k l h. lt-ltb t (end_of ps vs k) (not_ended t ps vs turn k l h (omega arith)))

one_more_packet : (ps : List Accepted) (d : ℕ) → d < length ps → bytes_of ps (suc d) ≡ bytes_of ps d + (get_or ps d no_packet).bytes
one_more_packet [] d l = absurd (omega arith)
one_more_packet (p ∷ ps) zero l = omega arith
one_more_packet (p ∷ ps) (suc d) l = omega (arith, one_more_packet ps d (omega arith))

bytes_below : (ps : List Accepted) (d : ℕ) → d ≤ length ps → sum_below d (λ k. (get_or ps k no_packet).bytes) ≡ bytes_of ps d
unfolding sum_below
bytes_below ps zero l = refl
bytes_below ps (suc d) l = omega (arith, bytes_below ps d (omega arith), one_more_packet ps d (omega arith))

-- the bytes of the first departures of a flow
pub departures_bytes : (plan : Plan) (i j : ℕ) (f : Journeys) (d : ℕ) → d ≤ length f.accepted → sum_by (λ (x : Departure). x.bytes) (map (departure plan i j f) (range_with_len 0 d)) ≡ bytes_of f.accepted d
departures_bytes plan i j f d l =
    let bytes : ℕ → ℕ = λ k. (get_or f.accepted k no_packet).bytes in
    sum_by_map (λ (x : Departure). x.bytes) (departure plan i j f) (range_with_len 0 d) ∙ sym (sum-map bytes (range_with_len 0 d)) ∙ sum_counting bytes d ∙ bytes_below f.accepted d l
