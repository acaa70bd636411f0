-- Each rule's answer is a tied position, or none where none is tied.
use Rattle.std.specs.Prelude.{◌≡◌, ℕ, ◌<◌, Bool, true, false, List, Some, None, Option, MatchOption, slice_index_or, refl}
use Rattle.std.proofs.Common.{subst, arith}
use Rattle.std.proofs.lemmas.Bool.{both_ways}
use Rattle.tie.specs.declared.question.Question.{Question}
use Rattle.tie.specs.PicksTied.{PicksTied}
use Rattle.tie.specs.Longests.{longest_law}
use Rattle.tie.specs.Rounds.{cases_weaker, first_law}
use Rattle.tie.specs.Positions.{Untied, first_from, longest}

abbrev Picked : List Bool → Option ℕ → Type 0
Picked ties o = MatchOption o (Untied ties) (λ k. (k < 16) × (slice_index_or ties k false ≡ true))

untied : (ties : List Bool) (o : Option ℕ) → Picked ties o → Untied ties → o ≡ None
untied ties None h u = refl
untied ties (Some k) h u = absurd (both_ways (slice_index_or ties k false) (u k h.0) h.1)

all_picked : (answers : ℕ → Question → Option ℕ) → ((code : ℕ) (question : Question) → Picked question.tied (answers code question)) → PicksTied answers
all_picked answers h =
    record {
      picks = λ code question k e. subst (Picked question.tied) e (h code question);
      none = λ code question. (λ e. subst (Picked question.tied) e (h code question), untied question.tied (answers code question) (h code question));
    }

-- of a rule that begins at this position
pub first_picks_tied : (from : ℕ → ℕ) → PicksTied (λ code question. first_from (from code) question.tied)
first_picks_tied from =
    all_picked _ (λ code question. cases_weaker (first_from (from code) question.tied) (λ u. u) (λ k f. (omega (arith, f.there), f.is_tied)) (first_law question.tied (from code)))

pub longest_picks_tied : PicksTied (λ code question. longest question)
longest_picks_tied = all_picked _ (λ code question. cases_weaker (longest question) (λ u. u) (λ k l. (l.within, l.is_tied)) (longest_law question))
