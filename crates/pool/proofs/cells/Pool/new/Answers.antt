use Rattle.std.proofs.Common.{replicate, None}
use Rattle.pool.proofs.Pools.{fresh_filled, fresh_lists}
use Rattle.pool.proofs.cells.Pool.new.Goals as goal

pub invariant_of-result : goal.invariant_of-result
invariant_of-result c = record { filled = fresh_filled (replicate 512 None) c.new.result c.new.ensures }

pub returns : goal.returns
returns c = fresh_lists (replicate 512 None) c.new.result c.new.ensures
