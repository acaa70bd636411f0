-- Each packet is gone in time, so a run comes to its end. Assumes nothing.
use Rattle.std.proofs.Common.{◌≡◌, ℕ, zero, suc, ◌+◌, ◌-◌, ◌*◌, ◌^◌, ◌<◌, ◌≤◌, max, Bool, true, false, cond, ◌&&◌, eqb, List, [], ◌∷◌, ◌++◌, length, get_or, sym, ap, ◌∙◌, subst, ⊎_elim, mul-le-mul_left, mul-le-mul_right, mul-le-mul, add-one, arith}
use Rattle.std.proofs.ByRecursion.{All-push, All-weaker}
use Rattle.std.proofs.lemmas.Bool.{cond_both, cases_eq, cases_lt}
use Rattle.std.proofs.lemmas.List.{append-nil}
use Rattle.timing.specs.Fluid.{Accepted, Arrived, accepted_bytes}
use Rattle.law.specs.Queues.{finish, stamp, stamps}
use Rattle.law.specs.Journeys.{inside}
use Rattle.law.specs.Step.{Plan}
use Rattle.tie.specs.PicksTied.{PicksTied}
use Rattle.plan.specs.declared.fault.TheConstants.{LAST_TICK}
use Rattle.law.specs.Runs.{no_stamp, finish_at, all_inside}
use Rattle.law.specs.Promises.{Bookable}
use Rattle.law.proofs.LawfulArrivals.{lawful}
use Rattle.law.proofs.PromisesKept.{moment, runs_keep_promises}
use Rattle.replay.specs.Kinds.{Kind, SignFits}
use Rattle.replay.specs.Replay.{Arrival, last_tick, MayCome, Replayed, run_tick, run_to, run_arrivals, run_out, replay}
use Rattle.replay.specs.Follows.{ReplaysEnd}
use Rattle.replay.proofs.Sums.{flows_most}
use Rattle.replay.proofs.Steps.{to_clock, arrivals_clock, ticks_accepted, ticks_clock, out_none, out_stops, out_goes_on, out_ticks}
use Rattle.replay.proofs.Running.{Running, tick_runs, arrivals_run}
use Rattle.replay.proofs.Following.{follows, each_has_left, all_have_left}

-- a virtual finish is at most all bytes after the last arrival
finish_most : (W w t : ℕ) (ps : List Accepted) (f k : ℕ) → Arrived t ps → finish W (get_or (stamps W w f ps) k no_stamp) ≤ max (w * t) f + W * accepted_bytes ps
finish_most W w t [] f k h = omega arith
finish_most W w t (p ∷ ps) f zero h = omega (arith, mul-le-mul_left w h.0)
finish_most W w t (p ∷ ps) f (suc k) h =
    omega (arith, mul-le-mul_left w h.0, finish_most W w t ps (finish W (stamp w f p)) k h.1)

accepted_push : (ps : List Accepted) (p : Accepted) → accepted_bytes (ps ++ p ∷ []) ≡ accepted_bytes ps + p.bytes
accepted_push [] p = omega arith
accepted_push (q ∷ ps) p = omega (arith, accepted_push ps p)

-- the bytes that arrive
pub bytes_coming : List Arrival → ℕ
bytes_coming [] = 0
bytes_coming (a ∷ earlier) = a.bytes + bytes_coming earlier

bytes_most : (plan : Plan) (arrivals : List Arrival) → MayCome plan arrivals → bytes_coming arrivals ≤ length arrivals * plan.longest
unfolding bytes_coming
bytes_most plan [] h = omega arith
bytes_most plan (a ∷ earlier) h = omega (arith, (lawful plan a.input a.output a.bytes h.0).not_long, bytes_most plan earlier h.2)

module _ {K : Type 0} (plan : Plan) (kind : Kind K) where
  -- what flow (i, j) has accepted came by this tick, and is no more than these bytes
  abbrev Came : ℕ → ℕ → List Accepted → Type 0
  Came t b ps = Arrived t ps × (accepted_bytes ps ≤ b)

  came_later : (t u b c : ℕ) → t ≤ u → b ≤ c → (ps : List Accepted) → Came t b ps → Came u c ps
  came_later t u b c h l ps p = (All-weaker (λ (q : Accepted). q.arrival ≤ t) (λ (q : Accepted). q.arrival ≤ u) (λ q k. omega (arith, k)) ps p.0, omega (arith, p.1))

  came_more : (t b : ℕ) (mine : Bool) (p : Accepted) → p.arrival ≤ t → (ps : List Accepted) → Came t b ps → Came t (p.bytes + b) (ps ++ cond mine (p ∷ []) [])
  came_more t b true p h ps c = (All-push (λ (q : Accepted). q.arrival ≤ t) ps p c.0 h, omega (arith, accepted_push ps p, c.1))
  came_more t b false p h ps c = subst (Came t (p.bytes + b)) (sym (append-nil ps)) (came_later t t b (p.bytes + b) (omega arith) (omega arith) ps c)

  pub came : (arrivals : List Arrival) → MayCome plan arrivals → (i j : ℕ) → Came (last_tick arrivals) (bytes_coming arrivals) ((run_arrivals plan kind arrivals).switch.flow i j).accepted
  unfolding bytes_coming
  came [] h i j = (tt, omega arith)
  came (a ∷ earlier) h i j =
      let before = run_arrivals plan kind earlier in
      let x = run_to plan kind a.tick before in
      let clock = to_clock plan kind a.tick before (omega (arith, arrivals_clock plan kind earlier h.2, h.1)) in
      let old : Came a.tick (bytes_coming earlier) (x.switch.flow i j).accepted =
      subst (Came a.tick (bytes_coming earlier)) (sym (ticks_accepted plan kind (a.tick - before.switch.clock) before i j)) (came_later (last_tick earlier) a.tick (bytes_coming earlier) (bytes_coming earlier) h.1 (omega arith) _ (came earlier h.2 i j)) in
      cond_both (kind.sign plan x.switch a.input a.output) _ _ (λ (y : Replayed K). Came a.tick (a.bytes + bytes_coming earlier) (y.switch.flow i j).accepted)
      (λ _. came_later a.tick a.tick (bytes_coming earlier) (a.bytes + bytes_coming earlier) (omega arith) (omega arith) _ old)
      (λ _. came_more a.tick (bytes_coming earlier) (eqb i a.input && eqb j a.output) record { arrival = x.switch.clock; bytes = a.bytes } (omega (arith, clock)) (x.switch.flow i j).accepted old)

  module _ (M most : ℕ) (bookable : Bookable plan) (fits : SignFits plan M most kind.sign) (picks-tied : (kept : K) → PicksTied (kind.answer kept)) (t b : ℕ) where
    abbrev Runs : Replayed K → Type 0
    Runs = Running plan kind M most bookable fits picks-tied

    -- by when all is gone
    abbrev deadline : ℕ
    deadline = t + plan.parts * b + (plan.ports + 1) * plan.longest

    weighed : (w f W l c : ℕ) → 0 < w → f ≤ w * t + W * b → t + W * b + l ≤ c → f + w * l ≤ w * c
    weighed w f W l c pos h late = omega (arith, mul-le-mul_left w late, mul-le-mul_right (W * b) pos)

    flow_gone : (x : Replayed K) → Runs x → ((i j : ℕ) → Came t b (x.switch.flow i j).accepted) → deadline ≤ x.switch.clock → (i j : ℕ) → i < plan.ports → j < plan.ports → inside x.switch.clock (x.switch.flow i j) ≤ 0
    flow_gone x r came late i j hi hj =
        let f = x.switch.flow i j in
        let w = plan.weight i j in
        let last = length f.accepted - 1 in
        let c = came i j in
        ⊎_elim
        (λ (none : length f.accepted ≡ 0). omega arith)
        (λ (some : length f.accepted ≡ 0 → ⊥).
        let pos = ((moment plan M bookable r.run).flows i j hi hj).is_open (omega arith) in
        let finished = finish_most plan.parts w t f.accepted 0 last c.0 in
        let whole = mul-le-mul_left plan.parts c.1 in
        let limit = weighed w (finish_at plan i j f last) plan.parts ((plan.ports + 1) * plan.longest) x.switch.clock pos (omega (arith, finished, whole)) late in
        let gone = (runs_keep_promises plan M bookable x.log x.switch r.run i j hi hj).1.gone last (omega arith) limit in
        omega (arith, gone))
        (cases_eq (length f.accepted) 0)

    all_gone : (x : Replayed K) → Runs x → ((i j : ℕ) → Came t b (x.switch.flow i j).accepted) → deadline ≤ x.switch.clock → all_inside plan x.switch ≡ 0
    all_gone x r came late = omega (arith, flows_most plan (λ i j. inside x.switch.clock (x.switch.flow i j)) 0 (flow_gone x r came late))

    -- a run with enough ticks left ends
    abbrev Ends : ℕ → Replayed K → Type 0
    Ends c y = Runs y × (all_inside plan y.switch ≡ 0) × (y.switch.clock ≤ max c deadline)

    pub out_ends : (n : ℕ) (x : Replayed K) → Runs x → ((i j : ℕ) → Came t b (x.switch.flow i j).accepted) → x.switch.clock + n ≤ LAST_TICK → deadline ≤ x.switch.clock + n → Ends x.switch.clock (run_out plan kind n x)
    out_ends zero x r came early enough = subst (Ends x.switch.clock) (sym (out_none plan kind x)) (r, all_gone x r came (omega arith), omega arith)
    out_ends (suc n) x r came early enough =
        ⊎_elim
        (λ (none : all_inside plan x.switch ≡ 0). subst (Ends x.switch.clock) (sym (out_stops plan kind (suc n) x none)) (r, none, omega arith))
        (λ (some : all_inside plan x.switch ≡ 0 → ⊥).
        let soon : x.switch.clock < deadline = ⊎_elim (λ l. l) (λ late. absurd (some (all_gone x r came late))) (cases_lt x.switch.clock deadline) in
        let rest = out_ends n (run_tick plan kind x) (tick_runs plan kind M most bookable fits picks-tied x r (omega arith)) came (omega arith) (omega arith) in
        subst (Ends x.switch.clock) (sym (ap (λ m. run_out plan kind m x) (sym (add-one n)) ∙ out_goes_on plan kind n x some)) (rest.0, rest.1, omega (arith, rest.2)))
        (cases_eq (all_inside plan x.switch) 0)

-- a run file's arrivals are gone in less than the clock's ticks
in_time : (t W b L N n : ℕ) → t < 2 ^ 24 → W ≤ 10000 → L ≤ 1500 → N ≤ 16 → n ≤ 8192 → b ≤ n * L → t + W * b + (N + 1) * L < LAST_TICK
in_time t W b L N n ht hW hL hN hn hb =
    let bytes : b ≤ 8192 * 1500 = omega (arith, mul-le-mul hn hL) in
    omega (arith, mul-le-mul hW bytes, mul-le-mul hN hL)

pub replays_end : (K : Type 0) → ReplaysEnd K
replays_end K plan M most kind bookable short-packets few-parts fits picks-tied arrivals may few early =
    let x = run_arrivals plan kind arrivals in
    let clock = arrivals_clock plan kind arrivals may in
    let t = last_tick arrivals in
    let b = bytes_coming arrivals in
    let soon = in_time t plan.parts b plan.longest plan.ports (length arrivals) early few-parts short-packets bookable.few_ports few (bytes_most plan arrivals may) in
    let runs = arrivals_run plan kind M most bookable fits picks-tied arrivals may (omega arith) in
    let ends = out_ends plan kind M most bookable fits picks-tied t b (LAST_TICK - x.switch.clock) x runs (came plan kind arrivals may) (omega (arith, clock)) (omega (arith, clock, soon)) in
    let law = follows plan kind M most bookable fits picks-tied (replay plan kind arrivals) ends.0 in
    let by = out_ticks plan kind (LAST_TICK - x.switch.clock) x in
    let later = ap (λ (y : Replayed K). y.switch.clock) by.2 ∙ ticks_clock plan kind by.0 x in (
      by.0,
      record {
        is_end = by.2;
        none_inside = ends.1;
        some_before = λ m h. positive (by.3 m h);
        each_left = each_has_left plan M (replay plan kind arrivals) law ends.1;
        all_left = all_have_left plan M (replay plan kind arrivals) law ends.1;
      },
      omega (arith, ends.2, clock, soon, later),
    )
  where
    positive : {n : ℕ} → (n ≡ 0 → ⊥) → 0 < n
    positive ne = omega (arith, ne)
