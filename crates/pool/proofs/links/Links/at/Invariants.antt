use Rattle.std.proofs.Common.{◌≡◌, ◌<◌}
use Rattle.pool.specs.Queues.{first_cells, cell_in}
use Rattle.pool.proofs.links.Links.at.Given as goal

abbrev pub invariant-loop : goal.invariant-loop
invariant-loop l = (l.cell ≡ cell_in l.self.next (first_cells l.self.queues) l.queue l.counter) × (l.cell < 512)
