-- What the answers of every tie rule have in common.
use Rattle.std.specs.Prelude.{◌≡◌, ℕ, ◌<◌, true, false, Some, None, Option, ◌↔◌, slice_index_or}
use Rattle.tie.specs.declared.question.Question.{Question}
use Rattle.tie.specs.Positions.{Untied}

-- by port code and question: an answer is a position below 16 that is tied, and there is none if and only if nothing is tied
pub record PicksTied (answers : ℕ → Question → Option ℕ) : Type 0 where
  pub picks : (code : ℕ) (question : Question) (k : ℕ) → answers code question ≡ Some k → (k < 16) × (slice_index_or question.tied k false ≡ true)
  pub none : (code : ℕ) (question : Question) → (answers code question ≡ None) ↔ Untied question.tied
