use Rattle.law.proofs.RuleAnswers.{rules-make-steps}
use Rattle.law.proofs.rules_stand.Goals as goal

pub returns : goal.returns
returns c = rules-make-steps
