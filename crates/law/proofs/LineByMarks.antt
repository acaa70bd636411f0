-- What a step chooses by the marks of a line is what the line may start.
use Rattle.std.proofs.lemmas.Option.{none-some}
use Rattle.std.proofs.Common.{◌≡◌, ℕ, ◌+◌, ◌-◌, ◌*◌, ◌<◌, ◌≤◌, Bool, true, false, eqb, ltb, List, [], ◌∷◌, map, length, get_or, Some, None, Option, sym, refl, ap, ◌∙◌, subst, ⊎_elim, arith}
use Rattle.std.proofs.lemmas.List.FromFn.{get_or-map-range_with_len, length-map-range_with_len}
use Rattle.std.proofs.lemmas.List.{get_or_past}
use Rattle.std.proofs.lemmas.Bool.{ltb-true, ltb-false, eq-eqb, ne_eqb, cases_Bool, cases_lt, cond-true, cond-false}
use Rattle.std.specs.List.{range_with_len, AllByRecursion}
use Rattle.law.specs.Queues.{Queued, finish}
use Rattle.law.specs.Port.{Head}
use Rattle.law.proofs.LineSteps as line
use Rattle.law.specs.Step.{VirtualFinish, sooner, mark_of, Chosen, LineStarts, names, with_start, head_bytes, busy_until}

-- a mark stands where the head is ready
pub record Marked (W w : ℕ) (ready : Queued → Bool) (ps : List Queued) (m : VirtualFinish) : Type 0 where
  pub head : Queued
  pub rest : List Queued
  pub is_head : ps ≡ head ∷ rest
  pub is_ready : ready head ≡ true
  pub is_mark : m ≡ record { scaled = finish W head; weight = w }

marked : (W w : ℕ) (ready : Queued → Bool) (ps : List Queued) (m : VirtualFinish) → mark_of W w ready ps ≡ Some m → Marked W w ready ps m
marked W w ready [] m e = absurd (none-some _ e)
marked W w ready (a ∷ more) m e =
    ⊎_elim
    (λ (t : ready a ≡ true).
    let f : ◌≡◌ {A = Option VirtualFinish} (Some record { scaled = finish W a; weight = w }) (Some m) = sym (cond-true _ _ _ t) ∙ e in
    record { head = a; rest = more; is_head = refl; is_ready = t; is_mark = cc })
    (λ (t : ready a ≡ false). absurd (none-some _ (sym (cond-false _ _ _ t) ∙ e)))
    (cases_Bool (ready a))

module _ (W n : ℕ) (weight : ℕ → ℕ) (waiting : ℕ → List Queued) (ready : ℕ → Queued → Bool) where
  abbrev pub mark : ℕ → Option VirtualFinish
  mark k = mark_of W (weight k) (ready k) (waiting k)

  row_at : (k : ℕ) → k < n → get_or (map mark (range_with_len 0 n)) k None ≡ mark k
  row_at k h = get_or-map-range_with_len mark 0 n k k None h (omega arith)

  in_row : (k : ℕ) (m : VirtualFinish) → get_or (map mark (range_with_len 0 n)) k None ≡ Some m → k < n
  in_row k m e =
      ⊎_elim
      (λ (h : k < n). h)
      (λ (h : n ≤ k).
      let long : length (map mark (range_with_len 0 n)) ≤ k = rw length-map-range_with_len h in
      absurd (none-some _ (sym (get_or_past (map mark (range_with_len 0 n)) k None long) ∙ e)))
      (cases_lt k n)

  -- nothing is chosen: no head is ready
  unready : (k : ℕ) → k < n → mark k ≡ None → (ps : List Queued) → waiting k ≡ ps → Head (λ b. ready k b ≡ false) ps
  unready k h e [] is = tt
  unready k h e (a ∷ more) is =
      ⊎_elim
      (λ (t : ready k a ≡ true).
      let f : mark_of W (weight k) (ready k) (a ∷ more) ≡ None = ap (mark_of W (weight k) (ready k)) (sym is) ∙ e in
      absurd (none-some _ (sym f ∙ cond-true _ _ _ t)))
      (λ t. t)
      (cases_Bool (ready k a))

  pub none_ready : Chosen (map mark (range_with_len 0 n)) None → (t : ℕ) → line.NoneReady W n weight waiting ready t
  none_ready c t k h = unready k h (sym (row_at k h) ∙ c k) (waiting k) refl

  -- the head of position k is ready, and no ready head finishes sooner
  module _ (k : ℕ) (c : Chosen (map mark (range_with_len 0 n)) (Some k)) where
    pub chosen_in : k < n
    chosen_in = in_row k c.0 c.1

    pub chosen : Marked W (weight k) (ready k) (waiting k) c.0
    chosen = marked W (weight k) (ready k) (waiting k) c.0 (sym (row_at k chosen_in) ∙ c.1)

    first_of : (m : ℕ) → m < n → (ps : List Queued) → waiting m ≡ ps → Head (λ b. ready m b ≡ true → finish W chosen.head * weight m ≤ finish W b * weight k) ps
    first_of m h [] is = tt
    first_of m h (b ∷ more) is = λ yes-ready.
        let here : VirtualFinish = record { scaled = finish W b; weight = weight m } in
        let stands : mark m ≡ Some here = ap (mark_of W (weight m) (ready m)) is ∙ cond-true _ _ _ yes-ready in
        let late = c.2 m here (row_at m h ∙ stands) in
        let same = ap (λ (d : VirtualFinish). sooner here d) chosen.is_mark in
        ltb-false (finish W b * weight k) (finish W chosen.head * weight m) (sym same ∙ late)

  -- the starts of the line, as the marks decide them
  pub line_starts : (t until : ℕ) (starts : ℕ → List ℕ) (o : Option ℕ) → LineStarts (ltb t until) (map mark (range_with_len 0 n)) o → ((k : ℕ) → k < n → AllByRecursion (λ a. 0 < a.bytes) (waiting k)) →
      line.Starts W n weight waiting ready t starts (λ k. with_start (names o k) t (starts k)) (until - t) (busy_until t until waiting o - (t + 1))
  line_starts t until starts o h some = go (ltb t until) refl o h
    where
      taken : (k : ℕ) → until ≤ t → (c : Chosen (map mark (range_with_len 0 n)) (Some k)) →
          line.Starts W n weight waiting ready t starts (λ m. with_start (eqb k m) t (starts m)) (until - t) (t + head_bytes (waiting k) - (t + 1))
      taken k free c =
          let m = chosen k c in
          let a = m.head in
          let bytes : head_bytes (waiting k) ≡ a.bytes = ap head_bytes m.is_head in
          let pos : AllByRecursion (λ (b : Queued). 0 < b.bytes) (a ∷ m.rest) = subst (AllByRecursion (λ (b : Queued). 0 < b.bytes)) m.is_head (some k (chosen_in k c)) in
          line.Starts.takes k a m.rest (chosen_in k c) (omega arith) m.is_head m.is_ready
          (λ j l. first_of k c j l (waiting j) refl)
          (omega (arith, pos.0))
          (rw (eq-eqb k k refl))
          (λ j l ne. rw (ne_eqb k j (λ e. ne (sym e))))

      go : (b : Bool) → ltb t until ≡ b → (q : Option ℕ) → LineStarts b (map mark (range_with_len 0 n)) q →
          line.Starts W n weight waiting ready t starts (λ k. with_start (names q k) t (starts k)) (until - t) (busy_until t until waiting q - (t + 1))
      go true e q h =
          subst (λ (r : Option ℕ). line.Starts W n weight waiting ready t starts (λ k. with_start (names r k) t (starts k)) (until - t) (busy_until t until waiting r - (t + 1))) (sym h)
          (line.Starts.busy (omega (arith, ltb-true t until e)) (λ m l. refl))
      go false e None h = let free = ltb-false t until e in line.Starts.idle (omega arith) (omega arith) (none_ready h t) (λ m l. refl)
      go false e (Some k) h = taken k (ltb-false t until e) h
