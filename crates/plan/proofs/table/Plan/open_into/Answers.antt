use Rattle.std.proofs.Common.{rules, arith}
use Rattle.plan.proofs.Sums.{open_counted}
use Rattle.plan.proofs.table.Plan.open_into.Goals as goal

pub returns : goal.returns
returns c =
    let p = c.args.self.now in
    let counted = open_counted p.size.ports p.weights (omega arith) c.args.output (omega arith) in
    search rules
