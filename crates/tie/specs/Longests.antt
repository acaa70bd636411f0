-- The lowest of the marks that stand first is the lowest of those that wait with the most bytes.
use Rattle.std.specs.Prelude.{◌≡◌, ℕ, zero, suc, ◌<◌, ◌≤◌, true, false, ◌⊎◌, length, get_or, Some, None, Decides, MatchOption, slice_index, slice_index_or}
use Rattle.std.proofs.Common.{inl, inr, ⊎_elim, sym, ap, ◌∙◌, arith}
use Rattle.std.proofs.lemmas.List.FromFn.{get_or-map-range_with_len, length-map-range_with_len}
use Rattle.std.proofs.lemmas.List.{get_or_past}
use Rattle.std.proofs.lemmas.Option.{none-some}
use Rattle.std.proofs.lemmas.Bool.{both_ways, cases_Bool, cases_lt, le-ltb, ltb-false}
use Rattle.tie.specs.declared.question.Question.{Question}
use Rattle.tie.specs.Rounds.{below_suc, cases_weaker, lowest_law}
use Rattle.tie.specs.Positions.{LongestTied, LowestTied, Untied, larger, longest, mark, marks}
use Rattle.timing.proofs.Firsts.{tied_decides}
use Rattle.std.specs.declared.cmp.Reverse.{Reverse}
use Rattle.timing.specs.Marks.{First, tied}
use Rattle.timing.specs.Order.{nat_less}

module _ (question : Question) where
  -- of the first n positions, k is tied, and no tied one waits with more
  abbrev Most : ℕ → ℕ → Type 0
  Most n k = (k < n) × (slice_index_or question.tied k false ≡ true) × ((j : ℕ) → j < n → slice_index_or question.tied j false ≡ true → slice_index question.waiting j ≤ slice_index question.waiting k)

  abbrev NoneTied : ℕ → Type 0
  NoneTied n = (j : ℕ) → j < n → slice_index_or question.tied j false ≡ false

  none_more : (n k : ℕ) → slice_index_or question.tied n false ≡ false → Most n k → Most (suc n) k
  none_more n k f m =
      (omega arith, m.1, below_suc (λ j. slice_index_or question.tied j false ≡ true → slice_index question.waiting j ≤ slice_index question.waiting k) n m.2 (λ e. absurd (both_ways (slice_index_or question.tied n false) f e)))

  one_alone : (n : ℕ) → slice_index_or question.tied n false ≡ true → NoneTied n → (i : ℕ) × Most (suc n) i
  one_alone n t none =
      (n, (omega arith, t, below_suc (λ j. slice_index_or question.tied j false ≡ true → slice_index question.waiting j ≤ slice_index question.waiting n) n (λ j h e. absurd (both_ways (slice_index_or question.tied j false) (none j h) e)) (λ e. omega arith)))

  one_more : (n k : ℕ) → slice_index_or question.tied n false ≡ true → Most n k → (i : ℕ) × Most (suc n) i
  one_more n k t m =
      ⊎_elim
      (λ l. (n, (omega arith, t, below_suc (λ j. slice_index_or question.tied j false ≡ true → slice_index question.waiting j ≤ slice_index question.waiting n) n (λ j h e. omega (arith, m.2 j h e)) (λ e. omega arith))))
      (λ l. (k, (omega arith, m.1, below_suc (λ j. slice_index_or question.tied j false ≡ true → slice_index question.waiting j ≤ slice_index question.waiting k) n m.2 (λ e. l))))
      (cases_lt (slice_index question.waiting k) (slice_index question.waiting n))

  most : (n : ℕ) → ((k : ℕ) × Most n k) ⊎ NoneTied n
  most zero = inr (λ j h. absurd (omega arith))
  most (suc n) =
      ⊎_elim
      (λ t. inl (⊎_elim (λ m. one_more n m.0 t m.1) (λ none. one_alone n t none) (most n)))
      (λ f. ⊎_elim (λ m. inl (m.0, none_more n m.0 f m.1)) (λ none. inr (below_suc (λ j. slice_index_or question.tied j false ≡ false) n none f)) (most n))
      (cases_Bool (slice_index_or question.tied n false))

  pub marks_at : (k : ℕ) → k < 16 → slice_index_or (marks question) k None ≡ mark (slice_index_or question.tied k false) (slice_index question.waiting k)
  unfolding marks
  marks_at k h = get_or-map-range_with_len (λ i. mark (slice_index_or question.tied i false) (slice_index question.waiting i)) 0 16 k k None h (omega arith)

  marks_length : length (marks question) ≡ 16
  unfolding marks
  marks_length = length-map-range_with_len (λ i. mark (slice_index_or question.tied i false) (slice_index question.waiting i)) 0 16

  marked : (j : ℕ) (x : Reverse ℕ) → slice_index_or (marks question) j None ≡ Some x → (j < 16) × (slice_index_or question.tied j false ≡ true) × (x.0 ≡ slice_index question.waiting j)
  marked j x e =
      let w = get_or question.waiting j 0 in
      ⊎_elim
      (λ h. ⊎_elim
      (λ t. let s : Some (record { 0 = w }) ≡ Some x = sym (marks_at j h ∙ ap (λ b. mark b w) t) ∙ e in let r : record { 0 = w } ≡ x = cc in (h, t, sym (ap (λ b. b.0) r)))
      (λ f. absurd (none-some x (sym (marks_at j h ∙ ap (λ b. mark b w) f) ∙ e)))
      (cases_Bool (slice_index_or question.tied j false)))
      (λ h. absurd (none-some x (sym (get_or_past (marks question) j None (omega (arith, marks_length))) ∙ e)))
      (cases_lt j 16)

  first_from_most : (k : ℕ) → Most 16 k → First larger (marks question) k
  first_from_most k m =
      let w = get_or question.waiting k 0 in
      (record { 0 = w }, marks_at k m.0 ∙ ap (λ b. mark b w) m.1, λ j x e. let p = marked j x e in nat_less w x.0 ∙ le-ltb w x.0 (omega (arith, m.2 j p.0 p.1)))

  most_from_first : (k : ℕ) → First larger (marks question) k → Most 16 k
  most_from_first k f =
      let p = marked k f.0 f.1 in
      (p.0, p.1, λ j h t. let w = get_or question.waiting j 0 in omega (arith, ltb-false f.0.0 w (sym (nat_less f.0.0 w) ∙ f.2 j (record { 0 = w }) (marks_at j h ∙ ap (λ b. mark b w) t))))

  chosen_at : (k : ℕ) → Decides (slice_index_or (tied larger (marks question)) k false) (First larger (marks question) k)
  chosen_at k = tied_decides larger (marks question) k

  none_waits : Untied (tied larger (marks question)) → Untied question.tied
  none_waits u =
      ⊎_elim
      (λ m. absurd (both_ways (slice_index_or (tied larger (marks question)) m.0 false) (u m.0 m.1.0) ((chosen_at m.0).1 (first_from_most m.0 m.1))))
      (λ none. none)
      (most 16)

  lowest_waits : (k : ℕ) → LowestTied (tied larger (marks question)) k → LongestTied question k
  lowest_waits k l =
      let m = most_from_first k ((chosen_at k).0 l.is_tied) in
      record {
        within = m.0;
        is_tied = m.1;
        none_more = m.2;
        none_below = λ j h t. ⊎_elim
            (λ less. less)
            (λ more. absurd (both_ways (slice_index_or (tied larger (marks question)) j false) (l.none_below j h) ((chosen_at j).1 (first_from_most j (omega arith, t, λ i b e. omega (arith, m.2 i b e))))))
            (cases_lt (slice_index question.waiting j) (slice_index question.waiting k));
      }

  pub longest_law : MatchOption (longest question) (Untied question.tied) (LongestTied question)
  longest_law = cases_weaker (longest question) none_waits lowest_waits (lowest_law (tied larger (marks question)))
