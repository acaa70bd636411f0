use Rattle.std.proofs.Common.{◌≡◌, ℕ, Bool, true, false, get_or, None, refl, ◌∙◌, rules}
use Rattle.std.specs.Bool.{then_some}
use Rattle.tie.proofs.Made.{made_from_fn}
use Rattle.tie.proofs.positions.marks_of.Goals as goal
use Rattle.tie.specs.Positions.{mark, marks}

marked : (b : Bool) (n : ℕ) → then_some b (record { 0 = n }) ≡ mark b n
marked true n = refl
marked false n = refl

pub returns : goal.returns
unfolding marks
returns c =
    let q = c.args.question.now in
    made_from_fn _ (λ k. mark (get_or q.tied k false) (get_or q.waiting k 0)) _
    (λ i y f e. let value : y ≡ then_some (get_or q.tied i false) (record { 0 = get_or q.waiting i 0 }) = search rules in (search rules, value ∙ marked (get_or q.tied i false) (get_or q.waiting i 0)))
    c.from_fn.result 16 None c.from_fn.ensures.items
