use Rattle.std.proofs.Common.{◌^◌, rules, arith}
use Rattle.std.proofs.lemmas.Iterator.{YieldsList-from_range}
use Rattle.std.proofs.lemmas.Iterator.Adapters.{fits_from_length, at_most_from_yields_List}
use Rattle.std.proofs.lemmas.List.FromFn.{length-range_with_len}
use Rattle.plan.proofs.table.book.add_up.Goals as goal

pub sum-requires-clause-fits : goal.sum-requires-clause-fits
sum-requires-clause-fits c =
    fits_from_length _ _ 16 (2 ^ 64)
    (at_most_from_yields_List (YieldsList-from_range 0 c.args.n c.args.n c.map.ensures.source (omega arith)) (omega (arith, length-range_with_len 0 c.args.n)))
    c.map.ensures.closure (omega arith) (λ x r q k. search rules)
