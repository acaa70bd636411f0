use Rattle.std.proofs.Common.{rules}
use Rattle.rings.proofs.Cells.{ring_noted}
use Rattle.rings.proofs.table.RingsStore.note.Goals as goal

pub returns-clause-lists : goal.returns-clause-lists
returns-clause-lists c =
    ring_noted c.args.self.now.rings c.args.input c.args.output c.cell.result c.in-Some.ensures.0 (search rules) (search rules)
    c.args.k c.args.tick c.index-rings-cell.result c.in-Some-get_mut.packet.now _ (search rules) (search rules) c.started_across.ensures
