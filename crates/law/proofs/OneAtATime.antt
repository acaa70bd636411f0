-- Each line carries one packet at a time.
use Rattle.std.proofs.Common.{◌≡◌, ℕ, zero, suc, ◌+◌, ◌<◌, ◌≤◌, Bool, true, false, cond, ◌&&◌, eqb, ltb, ◌⊎◌, List, [], ◌∷◌, ◌++◌, length, get_or, drop, Some, None, Option, sym, refl, ap, ◌∙◌, inl, inr, ⊎_elim, arith}
use Rattle.std.proofs.lemmas.List.{get_or_append_left, get_or_push, length_push}
use Rattle.std.proofs.lemmas.Bool.{ltb-false, both_ways, eqb-true, cases_lt}
use Rattle.timing.specs.Fluid.{Accepted}
use Rattle.law.specs.Queues.{Queued, stamps}
use Rattle.law.specs.Step.{Plan, Switch, VirtualFinish, sealed, Starts, LineStarts, names, with_start, head_bytes, busy_until, at_input, at_output, after_tick}
use Rattle.law.specs.Runs.{no_packet, no_stamp, Call, Answer, arrived}
use Rattle.law.specs.Promises.{OneAtATime}
use Rattle.law.proofs.StampsOfFlow.{stamp_at_bytes}
use Rattle.law.proofs.SwitchInvariant.{Moment}

-- the end of the x-th start
abbrev pub end_of : List Accepted → List ℕ → ℕ → ℕ
end_of ps us x = get_or us x 0 + (get_or ps x no_packet).bytes

-- what a line keeps that is busy until `until`
pub record Carried (n : ℕ) (packets : ℕ → List Accepted) (starts : ℕ → List ℕ) (until : ℕ) : Type 0 where
  pub one : OneAtATime n packets starts
  pub ends : (k x : ℕ) → k < n → x < length (starts k) → end_of (packets k) (starts k) x ≤ until

pub carried_none : (n : ℕ) (packets : ℕ → List Accepted) (until : ℕ) → Carried n packets (λ _. []) until
carried_none n packets until =
    record {
      one = record { in_turn = λ k x y _ _ l. absurd (omega arith); apart = λ k m x y _ _ _ l _. absurd (omega arith) };
      ends = λ k x _ l. absurd (omega arith);
    }

-- packets that have not started do not matter
pub carried_comes : (n : ℕ) (packets more : ℕ → List Accepted) (starts : ℕ → List ℕ) (until : ℕ) → ((k : ℕ) → k < n → length (starts k) ≤ length (packets k)) → Carried n packets starts until →
    Carried n (λ k. packets k ++ more k) starts until
carried_comes n packets more starts until long c =
    record {
      one = record {
        in_turn = λ k x y hk l ly. omega (arith, c.one.in_turn k x y hk l ly, same k x hk (omega arith));
        apart = λ k m x y hk hm ne lx ly.
            ⊎_elim
            (λ (h : end_of (packets k) (starts k) x ≤ get_or (starts m) y 0). inl (omega (arith, h, same k x hk lx)))
            (λ (h : end_of (packets m) (starts m) y ≤ get_or (starts k) x 0). inr (omega (arith, h, same m y hm ly)))
            (c.one.apart k m x y hk hm ne lx ly);
      };
      ends = λ k x hk l. omega (arith, c.ends k x hk l, same k x hk l);
    }
  where
    same : (k x : ℕ) → k < n → x < length (starts k) → (get_or (packets k ++ more k) x no_packet).bytes ≡ (get_or (packets k) x no_packet).bytes
    same k x hk l = ap (λ (p : Accepted). p.bytes) (get_or_append_left (packets k) (more k) no_packet x (omega (arith, long k hk)))

-- of the starts with one more, or none: an earlier one, or the one at t
with_start_at : (b : Bool) (t : ℕ) (us : List ℕ) (x : ℕ) → x < length (with_start b t us) →
    ((x < length us) × (get_or (with_start b t us) x 0 ≡ get_or us x 0)) ⊎ ((b ≡ true) × (x ≡ length us) × (get_or (with_start b t us) x 0 ≡ t))
with_start_at true t us x l =
    ⊎_elim
    (λ (old : x < length us). inl (old, get_or_append_left us (t ∷ []) 0 x old))
    (λ (past : length us ≤ x). let is : length us ≡ x = omega (arith, length_push us t) in inr (refl, sym is, get_or_push us t 0 x is))
    (cases_lt x (length us))
with_start_at false t us x l = inl (l, refl)

-- what starts is of one flow
one_named : (o : Option ℕ) (k m : ℕ) → names o k ≡ true → names o m ≡ true → k ≡ m
one_named None k m e f = absurd (both_ways false refl e)
one_named (Some c) k m e f = sym (eqb-true c k e) ∙ eqb-true c m f

-- a tick at which flow o starts its next packet, or none does
pub carried_ticks : (n : ℕ) (packets : ℕ → List Accepted) (starts : ℕ → List ℕ) (until until' t : ℕ) (o : Option ℕ) → until ≤ until' →
    ((k : ℕ) → k < n → names o k ≡ true → (until ≤ t) × (until' ≡ t + (get_or (packets k) (length (starts k)) no_packet).bytes)) → Carried n packets starts until →
    Carried n packets (λ k. with_start (names o k) t (starts k)) until'
carried_ticks n packets starts until until' t o later free c =
    record {
      one = record {
        in_turn = λ k x y hk l ly. turn k x y hk l (with_start_at (names o k) t (starts k) x (omega (arith, ly))) (with_start_at (names o k) t (starts k) y ly);
        apart = λ k m x y hk hm ne lx ly. beside k m x y hk hm ne (with_start_at (names o k) t (starts k) x lx) (with_start_at (names o m) t (starts m) y ly);
      };
      ends = λ k x hk l. passes k x hk (with_start_at (names o k) t (starts k) x l);
    }
  where
    Old : ℕ → ℕ → Type 0
    Old k x = (x < length (starts k)) × (get_or (with_start (names o k) t (starts k)) x 0 ≡ get_or (starts k) x 0)

    New : ℕ → ℕ → Type 0
    New k x = (names o k ≡ true) × (x ≡ length (starts k)) × (get_or (with_start (names o k) t (starts k)) x 0 ≡ t)

    turn : (k x y : ℕ) → k < n → x < y → Old k x ⊎ New k x → Old k y ⊎ New k y → end_of (packets k) (with_start (names o k) t (starts k)) x ≤ get_or (with_start (names o k) t (starts k)) y 0
    turn k x y hk l (inl a) (inl b) = omega (arith, a.1, b.1, c.one.in_turn k x y hk l b.0)
    turn k x y hk l (inl a) (inr b) = omega (arith, a.1, b.2, c.ends k x hk a.0, (free k hk b.0).0)
    turn k x y hk l (inr a) (inl b) = absurd (omega (arith, a.1, b.0))
    turn k x y hk l (inr a) (inr b) = absurd (omega (arith, a.1, b.1))

    beside : (k m x y : ℕ) → k < n → m < n → (k ≡ m → ⊥) → Old k x ⊎ New k x → Old m y ⊎ New m y →
        (end_of (packets k) (with_start (names o k) t (starts k)) x ≤ get_or (with_start (names o m) t (starts m)) y 0) ⊎ (end_of (packets m) (with_start (names o m) t (starts m)) y ≤ get_or (with_start (names o k) t (starts k)) x 0)
    beside k m x y hk hm ne (inl a) (inl b) =
        ⊎_elim
        (λ (h : end_of (packets k) (starts k) x ≤ get_or (starts m) y 0). inl (omega (arith, h, a.1, b.1)))
        (λ (h : end_of (packets m) (starts m) y ≤ get_or (starts k) x 0). inr (omega (arith, h, a.1, b.1)))
        (c.one.apart k m x y hk hm ne a.0 b.0)
    beside k m x y hk hm ne (inl a) (inr b) = inl (omega (arith, a.1, b.2, c.ends k x hk a.0, (free m hm b.0).0))
    beside k m x y hk hm ne (inr a) (inl b) = inr (omega (arith, a.2, b.1, c.ends m y hm b.0, (free k hk a.0).0))
    beside k m x y hk hm ne (inr a) (inr b) = absurd (ne (one_named o k m a.0 b.0))

    passes : (k x : ℕ) → k < n → Old k x ⊎ New k x → end_of (packets k) (with_start (names o k) t (starts k)) x ≤ until'
    passes k x hk (inl a) = omega (arith, a.1, c.ends k x hk a.0, later)
    passes k x hk (inr a) = omega (arith, a.2, (free k hk a.0).1, ap (λ (y : ℕ). (get_or (packets k) y no_packet).bytes) a.1)

-- of a busy line nothing starts; a line that starts something was free, and is busy then until that has passed
pub line_until : (t until : ℕ) (heads : ℕ → List Queued) (row : List (Option VirtualFinish)) (o : Option ℕ) → LineStarts (ltb t until) row o →
    (until ≤ busy_until t until heads o) × ((k : ℕ) → names o k ≡ true → (until ≤ t) × (busy_until t until heads o ≡ t + head_bytes (heads k)))
line_until t until heads row o h = go (ltb t until) refl o h
  where
    go : (b : Bool) → ltb t until ≡ b → (q : Option ℕ) → LineStarts b row q →
        (until ≤ busy_until t until heads q) × ((k : ℕ) → names q k ≡ true → (until ≤ t) × (busy_until t until heads q ≡ t + head_bytes (heads k)))
    go b e None h = (omega arith, λ k n. absurd (both_ways false refl n))
    go true e (Some m) h = absurd (let z : ◌≡◌ {A = ℕ} 0 1 = cc in omega arith)
    go false e (Some m) h =
        let free = ltb-false t until e in
        (omega arith, λ k n. (free, ap (λ (x : ℕ). t + head_bytes (heads x)) (eqb-true m k n)))

pub head_at : (qs : List Queued) (k : ℕ) → head_bytes (drop k qs) ≡ (get_or qs k no_stamp).bytes
head_at [] zero = refl
head_at [] (suc k) = refl
head_at (q ∷ qs) zero = refl
head_at (q ∷ qs) (suc k) = head_at qs k

module _ (plan : Plan) where
  -- what every moment of a run keeps of its lines
  pub record LinesCarry (s : Switch) : Type 0 where
    pub inputs : (i : ℕ) → i < plan.ports → Carried plan.ports (λ j. (s.flow i j).accepted) (λ j. (s.flow i j).crossings) (s.crossing_until i)
    pub outputs : (j : ℕ) → j < plan.ports → Carried plan.ports (λ i. (s.flow i j).accepted) (λ i. (s.flow i j).sendings) (s.sending_until j)

  pub lines_seal : LinesCarry sealed
  lines_seal = record { inputs = λ i h. carried_none plan.ports (λ _. []) 0; outputs = λ j h. carried_none plan.ports (λ _. []) 0 }

  module _ (log : List (Call × Answer)) (s : Switch) (m : Moment plan log s) (h : LinesCarry s) where
    pub lines_arrive : (i₀ j₀ b : ℕ) → LinesCarry (arrived s i₀ j₀ b)
    lines_arrive i₀ j₀ b =
        record {
          inputs = λ i hi. carried_comes plan.ports (λ j. (s.flow i j).accepted) (λ j. cond (eqb i i₀ && eqb j j₀) (record { arrival = s.clock; bytes = b } ∷ []) []) (λ j. (s.flow i j).crossings) (s.crossing_until i) (λ j hj. (m.told i j hi hj).across_after_in) (h.inputs i hi);
          outputs = λ j hj.
              carried_comes plan.ports (λ i. (s.flow i j).accepted) (λ i. cond (eqb i i₀ && eqb j j₀) (record { arrival = s.clock; bytes = b } ∷ []) []) (λ i. (s.flow i j).sendings) (s.sending_until j)
              (λ i hi. let t = m.told i j hi hj in omega (arith, t.out_after_across, t.across_after_in)) (h.outputs j hj);
        }

    next_bytes : (i j k : ℕ) → head_bytes (drop k (stamps plan.parts (plan.weight i j) 0 (s.flow i j).accepted)) ≡ (get_or (s.flow i j).accepted k no_packet).bytes
    next_bytes i j k = head_at (stamps plan.parts (plan.weight i j) 0 (s.flow i j).accepted) k ∙ stamp_at_bytes plan.parts (plan.weight i j) (s.flow i j).accepted 0 k no_packet refl

    pub lines_tick : (cross send : ℕ → Option ℕ) → Starts plan s cross send → LinesCarry (after_tick plan s cross send)
    lines_tick cross send st =
        record {
          inputs = λ i hi.
              let line = line_until s.clock (s.crossing_until i) (λ j. at_input plan s i j) _ (cross i) (st.inputs i hi) in
              carried_ticks plan.ports (λ j. (s.flow i j).accepted) (λ j. (s.flow i j).crossings) (s.crossing_until i) _ s.clock (cross i) line.0
              (λ j hj e. let on = line.1 j e in (on.0, omega (arith, on.1, next_bytes i j (length (s.flow i j).crossings)))) (h.inputs i hi);
          outputs = λ j hj.
              let line = line_until s.clock (s.sending_until j) (λ i. at_output plan s i j) _ (send j) (st.outputs j hj) in
              carried_ticks plan.ports (λ i. (s.flow i j).accepted) (λ i. (s.flow i j).sendings) (s.sending_until j) _ s.clock (send j) line.0
              (λ i hi e. let on = line.1 i e in (on.0, omega (arith, on.1, next_bytes i j (length (s.flow i j).sendings)))) (h.outputs j hj);
        }
