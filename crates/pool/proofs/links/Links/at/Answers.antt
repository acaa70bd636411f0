use Rattle.std.proofs.Common.{ℕ, get_or, sym, ap, ◌∙◌, arith}
use Rattle.pool.specs.Queues.{first_cells, walk}
use Rattle.pool.proofs.Parts.{first_at}
use Rattle.pool.proofs.Walks.{walk_more}
use Rattle.pool.proofs.links.Links.at.Goals as goal

pub loop-init : goal.loop-init
unfolding walk
loop-init c =
    let links = c.args.self.now in
    let first = first_at links.queues c.args.queue in (sym first, omega (arith, first, links.firsts c.args.queue))

pub loop-preserved : goal.loop-preserved
loop-preserved c =
    let links = c.args.self.now in (
      ap (λ (k : ℕ). get_or links.next k 0) c.loop.invariant.0
          ∙ sym (walk_more links.next (get_or (first_cells links.queues) c.args.queue 0) c.loop.counter),
      links.nexts c.loop.cell,
    )
