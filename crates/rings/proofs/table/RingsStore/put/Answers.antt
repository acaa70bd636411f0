use Rattle.std.proofs.Common.{rules}
use Rattle.rings.proofs.Cells.{ring_at, ring_set_if}
use Rattle.rings.proofs.table.RingsStore.put.Goals as goal

pub returns-clause-lists : goal.returns-clause-lists
returns-clause-lists c =
    let at = ring_at c.args.self.now.rings c.args.input c.args.output c.cell.result c.in-Some.ensures.0 (search rules) (search rules) c.index-self-cell.result in
    ring_set_if c.args.self.now.rings c.args.input c.args.output c.cell.result c.in-Some.ensures.0 (search rules) (search rules) _ _ _ (search rules)
