use Rattle.std.proofs.Common.{◌≡◌, rules}
use Rattle.tie.specs.Rounds.{lowest_law}
use Rattle.tie.specs.Positions.{lowest}
use Rattle.tie.proofs.positions.lowest_tied.Goals as goal

pub returns-clause-law : goal.returns-clause-law
returns-clause-law c =
    let value : c.first_tied.result ≡ lowest c.args.tied.now = search rules in rw value (lowest_law c.args.tied.now)
