use Rattle.law.proofs.PromisesKept.{runs-keep-promises}
use Rattle.law.proofs.promises_stand.Goals as goal

pub returns : goal.returns
returns c = runs-keep-promises
