-- What a tie rule answers is a port.
use Rattle.std.proofs.Common.{◌≡◌, ℕ, ◌<◌, Bool, true, false, Some}
use Rattle.tie.specs.PicksTied.{PicksTied}
use Rattle.tie.specs.declared.question.Question.{Question}
use Rattle.law.specs.Rules.{Rule, asked}

pub asked_below : {rule : Rule} → PicksTied rule → (code : ℕ) (busy : Bool) (question : Question) (k : ℕ) → asked rule code busy question ≡ Some k → k < 16
asked_below picks-tied code true question k e = absurd (cc)
asked_below picks-tied code false question k e = (picks-tied.picks code question k e).0
