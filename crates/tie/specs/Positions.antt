-- Which of the tied positions stands first. In a row of ties, entry k says whether position k is tied; positions go up to 15.
use Rattle.std.specs.Prelude.{◌≡◌, ℕ, zero, suc, ◌+◌, ◌%◌, ◌<◌, ◌≤◌, Bool, true, false, cond, List, map, Some, None, Option, slice_index, slice_index_or}
use Rattle.std.specs.List.{range_with_len}
use Rattle.std.specs.Ordering.{is_lt, nat_cmp}
use Rattle.std.specs.declared.cmp.Reverse.{Reverse}
use Rattle.timing.specs.Marks.{tied}
use Rattle.tie.specs.declared.question.Question.{Question}

-- the first tied of the n positions p, p + 1, .., where 0 follows 15
unfoldable pub first_round : ℕ → ℕ → List Bool → Option ℕ
first_round zero p ties = None
first_round (suc n) p ties = cond (slice_index_or ties (p % 16) false) (Some (p % 16)) (first_round n (p + 1) ties)

-- the first tied position at or after p, going round
abbrev pub first_from : ℕ → List Bool → Option ℕ
first_from p ties = first_round 16 p ties

-- the lowest tied position
abbrev pub lowest : List Bool → Option ℕ
lowest ties = first_from 0 ties

-- the larger count of bytes stands before
abbrev pub larger : Reverse ℕ → Reverse ℕ → Bool
larger a b = is_lt (nat_cmp b.0 a.0)

-- the mark of a tied position is its waiting bytes
abbrev pub mark : Bool → ℕ → Option (Reverse ℕ)
mark true bytes = Some (record { 0 = bytes })
mark false bytes = None

-- the marks of positions 0 to 15
unfoldable pub marks : Question → List (Option (Reverse ℕ))
marks question = map (λ k. mark (slice_index_or question.tied k false) (slice_index question.waiting k)) (range_with_len 0 16)

-- the lowest of those that wait with the most bytes
abbrev pub longest : Question → Option ℕ
longest question = lowest (tied larger (marks question))

-- no position is tied
abbrev pub Untied : List Bool → Type 0
Untied ties = (k : ℕ) → k < 16 → slice_index_or ties k false ≡ false

-- k is tied, and no tied position is below it
pub record LowestTied (ties : List Bool) (k : ℕ) : Type 0 where
  pub within : k < 16
  pub is_tied : slice_index_or ties k false ≡ true
  pub none_below : (j : ℕ) → j < k → slice_index_or ties j false ≡ false

-- k is tied, and stands some steps round from p; no position fewer steps round from p is tied
pub record FirstTied (p : ℕ) (ties : List Bool) (k : ℕ) : Type 0 where
  pub steps : ℕ
  pub within : steps < 16
  pub there : k ≡ (p + steps) % 16
  pub is_tied : slice_index_or ties k false ≡ true
  pub none_before : (n : ℕ) → n < steps → slice_index_or ties ((p + n) % 16) false ≡ false

-- k is tied; no tied position waits with more bytes, and none below k with as many
pub record LongestTied (question : Question) (k : ℕ) : Type 0 where
  pub within : k < 16
  pub is_tied : slice_index_or question.tied k false ≡ true
  pub none_more : (j : ℕ) → j < 16 → slice_index_or question.tied j false ≡ true → slice_index question.waiting j ≤ slice_index question.waiting k
  pub none_below : (j : ℕ) → j < k → slice_index_or question.tied j false ≡ true → slice_index question.waiting j < slice_index question.waiting k
