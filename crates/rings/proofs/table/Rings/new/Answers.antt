use Rattle.std.proofs.Common.{rules}
use Rattle.rings.specs.Held.{empty}
use Rattle.rings.proofs.Cells.{no_packets, none_short}
use Rattle.rings.proofs.table.Rings.new.Goals as goal

pub invariant_of-result : goal.invariant_of-result
invariant_of-result c =
    record { short = none_short c.from_fn.result (λ k h. let made = c.from_fn.ensures.items.at k empty h in search rules) c.from_fn.ensures.items.long }

pub returns : goal.returns
returns c =
    no_packets c.from_fn.result (λ k h. let made = c.from_fn.ensures.items.at k empty h in search rules) c.from_fn.ensures.items.long
