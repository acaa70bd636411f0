-- What a packet that comes, starts across or leaves moves of the ticks of `across_due` and `out_due`. An arrival at most brings its
-- input's tick nearer, and a start across its output's; the other tick that stays is that of a departure's input, where a packet
-- of the flow was under way. Assumes nothing.
use Rattle.std.proofs.Common.{◌≡◌, ℕ, zero, suc, ◌-◌, ◌<◌, ◌≤◌, min, Bool, true, false, cond, ◌&&◌, eqb, ltb, List, [], ◌∷◌, ◌++◌, length, get_or, drop, set, Some, None, Option, is_some, sym, refl, ap, ◌∙◌, subst, ⊎_elim, arith}
use Rattle.std.specs.List.{slice_get}
use Rattle.std.proofs.lemmas.Bool.{cases_eq, eq-eqb, ne_eqb, eqb-true, lt-ltb}
use Rattle.std.proofs.lemmas.List.{get_or-set_same, get_or-set_other}
use Rattle.grid.specs.Flows.{with_flow}
use Rattle.store.specs.Stored.{noted, numbered, started_across}
use Rattle.store.specs.declared.packet.Packet.{Packet}
use Rattle.store.specs.declared.packet.Incoming.{Incoming}
use Rattle.state.specs.declared.line.Ledger.{Ledger}
use Rattle.state.specs.Ready.{tick_from, across_from, out_after, out_from}
use Rattle.state.specs.Due.{sooner_of, first_of, across_due, out_due, oldest_across, oldest_out, TellsAcross, TellsOut}
use Rattle.state.proofs.DueKept.{first_alike, other_row, other_column, across_kept, out_kept}

-- which of two ticks is looked at first makes no difference
sooner_swap : (best : ℕ) (s t : Option ℕ) → sooner_of (sooner_of best s) t ≡ sooner_of (sooner_of best t) s
sooner_swap best None t = refl
sooner_swap best (Some s) None = refl
sooner_swap best (Some s) (Some t) = omega arith

-- Of ticks f, one, the c-th, comes nearer by t: so does the first of them.
module _ (f g : ℕ → Option ℕ) (c : ℕ) (t : Option ℕ) (nearer : (best : ℕ) → sooner_of best (g c) ≡ sooner_of (sooner_of best (f c)) t) (same : (k : ℕ) → (k ≡ c → ⊥) → g k ≡ f k) where
  first_before : (n : ℕ) → n ≤ c → first_of g n ≡ first_of f n
  unfolding first_of
  first_before zero le = refl
  first_before (suc n) le =
      let ne : n ≡ c → ⊥ = λ e. omega (arith, e, le) in
      ap (λ best. sooner_of best (g n)) (first_before n (omega (arith, le))) ∙ ap (sooner_of (first_of f n)) (same n ne)

  first_nearer : (n : ℕ) → c < n → first_of g n ≡ sooner_of (first_of f n) t
  unfolding first_of
  first_nearer zero lt = absurd (omega arith)
  first_nearer (suc n) lt =
      ⊎_elim
      (λ (here : n ≡ c). ap (λ best. sooner_of best (g n)) (first_before n (omega (arith, here))) ∙ subst (λ k. sooner_of (first_of f n) (g k) ≡ sooner_of (sooner_of (first_of f n) (f k)) t) (sym here) (nearer (first_of f n)))
      (λ (ne : n ≡ c → ⊥).
      ap (λ best. sooner_of best (g n)) (first_nearer n (omega (arith, ne, lt)))
      ∙ ap (sooner_of (sooner_of (first_of f n) t)) (same n ne)
      ∙ sooner_swap (first_of f n) t (f n))
      (cases_eq n c)

-- a table's replaced entry
replaced : {X : Type 0} (b : Bool) (table : ℕ → ℕ → X) (a c : ℕ) (x : X) → cond {A = ℕ → ℕ → X} b (with_flow table a c x) table a c ≡ cond b x (table a c)
replaced true table a c x = rw (eq-eqb a a refl, eq-eqb c c refl) refl
replaced false table a c x = refl

module _ (b : Bool) (lists after : ℕ → ℕ → List Packet) (a c : ℕ) (xs : List Packet) (is : after ≡ cond {A = ℕ → ℕ → List Packet} b (with_flow lists a c xs) lists) (row : List ℕ) (long : length row ≡ 16) where
  other_list : (i j : ℕ) → (i ≡ a → ⊥) → after i j ≡ lists i j
  other_list i j ne = ap (λ (t : ℕ → ℕ → List Packet). t i j) is ∙ other_row b lists a c xs i j ne

  beside_list : (i j : ℕ) → (j ≡ c → ⊥) → after i j ≡ lists i j
  beside_list i j ne = ap (λ (t : ℕ → ℕ → List Packet). t i j) is ∙ other_column b lists a c xs i j ne

  list_now : after a c ≡ cond b xs (lists a c)
  list_now = ap (λ (t : ℕ → ℕ → List Packet). t a c) is ∙ replaced b lists a c xs

  module _ (ledgers later : ℕ → ℕ → Ledger) (l : Ledger) (changed : later ≡ with_flow ledgers a c l) where
    ledger_now : later a c ≡ l
    ledger_now = ap (λ (t : ℕ → ℕ → Ledger). t a c) changed ∙ replaced true ledgers a c l

    next_now : oldest_across after later a c ≡ slice_get (cond b xs (lists a c)) l.under_way
    next_now k = slice_get (list_now k) (ledger_now k).under_way

    next_in_other_row : (i j : ℕ) → (i ≡ a → ⊥) → oldest_across after later i j ≡ oldest_across lists ledgers i j
    next_in_other_row i j ne k = slice_get (other_list i j ne k) ((ap (λ (t : ℕ → ℕ → Ledger). t i j) changed ∙ other_row true ledgers a c l i j ne) k).under_way

    next_beside : (i j : ℕ) → (j ≡ c → ⊥) → oldest_across after later i j ≡ oldest_across lists ledgers i j
    next_beside i j ne k = slice_get (beside_list i j ne k) ((ap (λ (t : ℕ → ℕ → Ledger). t i j) changed ∙ other_column true ledgers a c l i j ne) k).under_way

    -- where the next packet of the flow comes nearer by a tick, so does the tick of input a
    across_nearer : (t : Option ℕ) → ((best : ℕ) → sooner_of best (across_from (slice_get (cond b xs (lists a c)) l.under_way)) ≡ sooner_of (sooner_of best (across_from (oldest_across lists ledgers a c))) t) →
        a < 16 → c < 16 → TellsAcross lists ledgers row → TellsAcross after later (set row a (sooner_of (get_or row a 0) t))
    across_nearer t nearer inside within tells i hi =
        ⊎_elim
        (λ (here : i ≡ a).
        subst (λ k. get_or (set row a (sooner_of (get_or row a 0) t)) k 0 ≡ across_due after later k) (sym here)
        (get_or-set_same row a (sooner_of (get_or row a 0) t) 0 (omega (arith, long, inside))
        ∙ ap (λ best. sooner_of best t) (tells a inside)
        ∙ sym (first_nearer (λ j. across_from (oldest_across lists ledgers a j)) (λ j. across_from (oldest_across after later a j)) c t
        (λ best. ap (λ p. sooner_of best (across_from p)) next_now ∙ nearer best) (λ j ne. ap across_from (next_beside a j ne)) 16 within)))
        (λ (ne : i ≡ a → ⊥).
        get_or-set_other row a i (sooner_of (get_or row a 0) t) 0 ne
        ∙ tells i hi
        ∙ first_alike (λ j. across_from (oldest_across lists ledgers i j)) (λ j. across_from (oldest_across after later i j)) (λ j. ap across_from (sym (next_in_other_row i j ne))) 16)
        (cases_eq i a)

    -- where the next packet of the flow is the same one, the ticks of all inputs are as they were
    across_same : slice_get (cond b xs (lists a c)) l.under_way ≡ oldest_across lists ledgers a c → TellsAcross lists ledgers row → TellsAcross after later row
    across_same same tells i hi =
        tells i hi
        ∙ first_alike (λ j. across_from (oldest_across lists ledgers i j)) (λ j. across_from (oldest_across after later i j)) (λ j. ap across_from (sym (next j))) 16
      where
        next : (j : ℕ) → oldest_across after later i j ≡ oldest_across lists ledgers i j
        next j =
            ⊎_elim
            (λ (row : i ≡ a).
            ⊎_elim
            (λ (column : j ≡ c). subst (λ v. oldest_across after later v j ≡ oldest_across lists ledgers v j) (sym row) (subst (λ v. oldest_across after later a v ≡ oldest_across lists ledgers a v) (sym column) (next_now ∙ same)))
            (next_beside i j)
            (cases_eq j c))
            (next_in_other_row i j)
            (cases_eq i a)

  -- where the oldest packet of the flow comes nearer by a tick, so does the tick of output c
  out_nearer : (L : ℕ) (t : Option ℕ) → ((best : ℕ) → sooner_of best (out_from L (slice_get (cond b xs (lists a c)) 0)) ≡ sooner_of (sooner_of best (out_from L (oldest_out lists a c))) t) →
      a < 16 → c < 16 → TellsOut L lists row → TellsOut L after (set row c (sooner_of (get_or row c 0) t))
  out_nearer L t nearer inside within tells j hj =
      ⊎_elim
      (λ (here : j ≡ c).
      subst (λ k. get_or (set row c (sooner_of (get_or row c 0) t)) k 0 ≡ out_due L after k) (sym here)
      (get_or-set_same row c (sooner_of (get_or row c 0) t) 0 (omega (arith, long, within))
      ∙ ap (λ best. sooner_of best t) (tells c within)
      ∙ sym (first_nearer (λ i. out_from L (oldest_out lists i c)) (λ i. out_from L (oldest_out after i c)) a t
      (λ best. ap (λ ps. sooner_of best (out_from L (slice_get ps 0))) list_now ∙ nearer best) (λ i ne. ap (λ ps. out_from L (slice_get ps 0)) (other_list i c ne)) 16 inside)))
      (λ (ne : j ≡ c → ⊥).
      get_or-set_other row c j (sooner_of (get_or row c 0) t) 0 ne
      ∙ tells j hj
      ∙ first_alike (λ i. out_from L (oldest_out lists i j)) (λ i. out_from L (oldest_out after i j)) (λ i. ap (λ ps. out_from L (slice_get ps 0)) (sym (beside_list i j ne))) 16)
      (cases_eq j c)

  -- where the oldest packet of the flow may start out from the same tick on, the ticks of all outputs are as they were
  out_same : (L : ℕ) → out_from L (slice_get (cond b xs (lists a c)) 0) ≡ out_from L (oldest_out lists a c) → TellsOut L lists row → TellsOut L after row
  out_same L same tells j hj = tells j hj ∙ first_alike (λ i. out_from L (oldest_out lists i j)) (λ i. out_from L (oldest_out after i j)) (λ i. sym (oldest i)) 16
    where
      oldest : (i : ℕ) → out_from L (oldest_out after i j) ≡ out_from L (oldest_out lists i j)
      oldest i =
          ⊎_elim
          (λ (row : i ≡ a).
          ⊎_elim
          (λ (column : j ≡ c). subst (λ v. out_from L (oldest_out after v j) ≡ out_from L (oldest_out lists v j)) (sym row) (subst (λ v. out_from L (oldest_out after a v) ≡ out_from L (oldest_out lists a v)) (sym column) (ap (λ ps. out_from L (slice_get ps 0)) list_now ∙ same)))
          (λ ne. ap (λ ps. out_from L (slice_get ps 0)) (beside_list i j ne))
          (cases_eq j c))
          (λ ne. ap (λ ps. out_from L (slice_get ps 0)) (other_list i j ne))
          (cases_eq i a)

next_number : (m n : ℕ) → eqb (suc m) (suc n) ≡ eqb m n
next_number m n =
    ⊎_elim
    (λ (same : m ≡ n). eq-eqb (suc m) (suc n) (ap suc same) ∙ sym (eq-eqb m n same))
    (λ (ne : m ≡ n → ⊥). ne_eqb (suc m) (suc n) (λ e. ne (omega (arith, e))) ∙ sym (ne_eqb m n ne))
    (cases_eq m n)

-- a packet that is put behind others is the next to start across just where so many are under way
put_next : (xs : List Packet) (u : ℕ) (p : Packet) (best : ℕ) → sooner_of best (across_from (slice_get (xs ++ p ∷ []) u)) ≡ sooner_of (sooner_of best (across_from (slice_get xs u))) (cond (eqb (length xs) u) (Some (tick_from p.start)) None)
put_next [] zero p best = refl
put_next [] (suc u) p best = ap (λ v. sooner_of best (cond v (Some (tick_from p.start)) None)) (sym (ne_eqb 0 (suc u) (λ e. omega (arith, e))))
put_next (x ∷ xs) zero p best = ap (λ v. sooner_of (min best (tick_from x.start)) (cond v (Some (tick_from p.start)) None)) (sym (ne_eqb (suc (length xs)) 0 (λ e. omega (arith, e))))
put_next (x ∷ xs) (suc u) p best = put_next xs u p best ∙ ap (λ v. sooner_of (sooner_of best (across_from (slice_get xs u))) (cond v (Some (tick_from p.start)) None)) (sym (next_number (length xs) u))

-- it may not start out yet, so what may at its output is as it was
put_out : (L : ℕ) (xs : List Packet) (n : ℕ) (p : Incoming) → out_from L (slice_get (xs ++ numbered n p ∷ []) 0) ≡ out_from L (slice_get xs 0)
put_out L [] n p = refl
put_out L (x ∷ xs) n p = refl

-- without its oldest packet, with one fewer under way, the next one is the same
left_next : (b : Bool) (xs : List Packet) (u : ℕ) → b ≡ ltb 0 (length xs) → ltb 0 u ≡ true → slice_get (cond b (drop 1 xs) xs) (u - 1) ≡ slice_get xs u
left_next b [] zero granted some = absurd (cc)
left_next b (x ∷ xs) zero granted some = absurd (cc)
left_next true [] (suc u) granted some = refl
left_next false [] (suc u) granted some = refl
left_next b (x ∷ xs) (suc u) granted some =
    let fewer : suc u - 1 ≡ u = omega arith in
    ap (λ v. slice_get (cond v xs (x ∷ xs)) (suc u - 1)) (granted ∙ lt-ltb 0 (suc (length xs)) (omega arith)) ∙ ap (slice_get xs) fewer

-- a later packet that is noted leaves the oldest as it was
noted_oldest : (b : Bool) (u t : ℕ) (xs : List Packet) → eqb u 0 ≡ false → slice_get (cond b (noted u t xs) xs) 0 ≡ slice_get xs 0
noted_oldest b zero t xs later = absurd (cc)
noted_oldest true (suc u) t [] later = refl
noted_oldest true (suc u) t (x ∷ xs) later = refl
noted_oldest false (suc u) t xs later = refl

no_tick : (o : Option ℕ) → is_some o ≡ false → o ≡ None
no_tick None e = refl
no_tick (Some x) e = absurd (cc)

-- the oldest, where it had no tick to start out at, brings one nearer
noted_nearer : (b : Bool) (L u t : ℕ) (p : Packet) (xs : List Packet) → eqb u 0 ≡ true → slice_get xs u ≡ Some p → b ≡ ltb u (length xs) → p.crossing ≡ None → (best : ℕ) →
    sooner_of best (out_from L (slice_get (cond b (noted u t xs) xs) 0)) ≡ sooner_of (sooner_of best (out_from L (slice_get xs 0))) (out_from L (Some (started_across t p)))
noted_nearer b L u t p [] same there granted none best = absurd (cc)
noted_nearer b L zero t p (x ∷ xs) same there granted none best =
    let is : x ≡ p = cc in
    ap (λ v. sooner_of best (out_from L (slice_get (cond v (started_across t x ∷ xs) (x ∷ xs)) 0))) (granted ∙ lt-ltb 0 (suc (length xs)) (omega arith))
    ∙ ap (λ q. sooner_of best (out_from L (Some (started_across t q)))) is
    ∙ ap (λ o. sooner_of (sooner_of best (out_after L x o)) (out_from L (Some (started_across t p)))) (sym none ∙ ap (λ (q : Packet). q.crossing) (sym is))
noted_nearer b L (suc u) t p (x ∷ xs) same there granted none best = absurd (omega (arith, eqb-true (suc u) 0 same))

module _ (b : Bool) (lists after : ℕ → ℕ → List Packet) (a c : ℕ) (row : List ℕ) (long : length row ≡ 16) where
  -- a packet has come: the ledger's count of those under way is as it was
  module _ (n : ℕ) (p : Incoming) (is : after ≡ cond {A = ℕ → ℕ → List Packet} b (with_flow lists a c (lists a c ++ numbered n p ∷ [])) lists) (granted : b ≡ true) where
    pub across_arrived : (ledgers later : ℕ → ℕ → Ledger) (l : Ledger) → later ≡ with_flow ledgers a c l → l.under_way ≡ (ledgers a c).under_way → (t : Option ℕ) → t ≡ cond (eqb (length (lists a c)) (ledgers a c).under_way) (Some (tick_from p.start)) None →
        a < 16 → c < 16 → TellsAcross lists ledgers row → TellsAcross after later (set row a (sooner_of (get_or row a 0) t))
    across_arrived ledgers later l changed as_many t next =
        across_nearer b lists after a c (lists a c ++ numbered n p ∷ []) is row long ledgers later l changed t
        (λ best.
        (λ k. sooner_of best (across_from (slice_get (cond (granted k) (lists a c ++ numbered n p ∷ []) (lists a c)) (as_many k))))
        ∙ put_next (lists a c) (ledgers a c).under_way (numbered n p) best
        ∙ ap (sooner_of (sooner_of best (across_from (oldest_across lists ledgers a c)))) (sym next))

    pub out_arrived : (L : ℕ) → TellsOut L lists row → TellsOut L after row
    out_arrived L =
        out_same b lists after a c (lists a c ++ numbered n p ∷ []) is row long L
        (ap (λ v. out_from L (slice_get (cond v (lists a c ++ numbered n p ∷ []) (lists a c)) 0)) granted ∙ put_out L (lists a c) n p)

  -- a packet has started across: the ticks of the outputs
  pub out_started : (u t L : ℕ) (p : Packet) (next : Option ℕ) (again : Bool) → next ≡ out_from L (cond (eqb u 0) (Some (started_across t p)) None) → again ≡ (eqb u 0 && is_some p.crossing) →
      slice_get (lists a c) u ≡ Some p → b ≡ ltb u (length (lists a c)) → after ≡ cond {A = ℕ → ℕ → List Packet} b (with_flow lists a c (noted u t (lists a c))) lists → a < 16 → c < 16 → TellsOut L lists row →
      TellsOut L after (set row c (cond again (out_due L after c) (sooner_of (get_or row c 0) next)))
  out_started u t L p next again ready twice there granted is inside within tells =
      subst (λ o. TellsOut L after (set row c (cond again (out_due L after c) (sooner_of (get_or row c 0) o)))) (sym ready)
      (subst (λ v. TellsOut L after (set row c (cond v (out_due L after c) (sooner_of (get_or row c 0) (out_from L (cond (eqb u 0) (Some (started_across t p)) None)))))) (sym twice)
      (by (eqb u 0) refl (is_some p.crossing) refl))
    where
      by : (oldest : Bool) → eqb u 0 ≡ oldest → (had : Bool) → is_some p.crossing ≡ had →
          TellsOut L after (set row c (cond (oldest && had) (out_due L after c) (sooner_of (get_or row c 0) (out_from L (cond oldest (Some (started_across t p)) None)))))
      by false later had e = out_nearer b lists after a c (noted u t (lists a c)) is row long L None (λ best. ap (λ q. sooner_of best (out_from L q)) (noted_oldest b u t (lists a c) later)) inside within tells
      by true same true e = out_kept b lists after a c (noted u t (lists a c)) is row long L within tells
      by true same false e =
          out_nearer b lists after a c (noted u t (lists a c)) is row long L (out_from L (Some (started_across t p)))
          (λ best. noted_nearer b L u t p (lists a c) same there granted (no_tick p.crossing e) best) inside within tells

  -- a packet has left: the ticks of the inputs
  pub across_left : (crossed : Bool) (ledgers later : ℕ → ℕ → Ledger) (l : Ledger) → crossed ≡ ltb 0 (ledgers a c).under_way → later ≡ with_flow ledgers a c l → l.under_way ≡ (ledgers a c).under_way - 1 →
      b ≡ ltb 0 (length (lists a c)) → after ≡ cond {A = ℕ → ℕ → List Packet} b (with_flow lists a c (drop 1 (lists a c))) lists → a < 16 → TellsAcross lists ledgers row →
      TellsAcross after later (cond crossed row (set row a (across_due after later a)))
  across_left true ledgers later l flag changed fewer granted is inside tells =
      across_same b lists after a c (drop 1 (lists a c)) is row long ledgers later l changed
      (ap (slice_get (cond b (drop 1 (lists a c)) (lists a c))) fewer ∙ left_next b (lists a c) (ledgers a c).under_way granted (sym flag)) tells
  across_left false ledgers later l flag changed fewer granted is inside tells = across_kept b lists after a c (drop 1 (lists a c)) is row long ledgers later l changed inside tells
