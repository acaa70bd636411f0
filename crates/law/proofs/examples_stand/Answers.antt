use Rattle.law.proofs.ExamplesComputed.{examples-hold}
use Rattle.law.proofs.examples_stand.Goals as goal

pub returns : goal.returns
returns c = examples-hold
