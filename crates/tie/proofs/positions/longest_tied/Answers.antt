use Rattle.std.proofs.Common.{◌≡◌}
use Rattle.tie.specs.Longests.{longest_law}
use Rattle.tie.specs.Positions.{longest}
use Rattle.tie.proofs.positions.longest_tied.Goals as goal

pub returns-clause-law : goal.returns-clause-law
returns-clause-law c =
    let value : c.lowest_tied.result ≡ longest c.args.question.now = cc in rw value (longest_law c.args.question.now)
