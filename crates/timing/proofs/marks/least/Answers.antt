use Rattle.std.proofs.Common.{rules, tests}
use Rattle.std.proofs.lemmas.Iterator.{YieldsList-from_slice}
use Rattle.std.proofs.lemmas.Iterator.Consumers.{YieldsList-from_filter_map}
use Rattle.timing.proofs.Reduced.{reduced}
use Rattle.timing.proofs.marks.least.Goals as goal
use Rattle.timing.specs.Marks.{better}

pub returns : goal.returns
returns g c =
    reduced _ (better g.M.Mark.before) _ _ c.reduce.ensures.ran
    (YieldsList-from_filter_map _ (λ m. m) (YieldsList-from_slice c.args.marks.now cc) c.filter_map.ensures.closure (λ x r q k. search rules))
    (λ x y r q k. search (rules, tests))
