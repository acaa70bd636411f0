use Rattle.law.proofs.RuleAnswers.{asking_makes_steps}
use Rattle.law.proofs.rule_stands.Goals as goal

pub returns-clause-steps : goal.returns-clause-steps
returns-clause-steps g c = asking_makes_steps g.R.TieRule.answer g.R.TieRule.told g.met.R.TieRule.picks_tied c.args.rule.now
