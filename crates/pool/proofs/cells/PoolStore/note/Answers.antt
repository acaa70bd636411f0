use Rattle.std.proofs.Common.{arith, rules}
use Rattle.std.proofs.lemmas.Bool.Decides.{nat_tests}
use Rattle.pool.proofs.Pools.{list_length, note_lists}
use Rattle.pool.proofs.cells.PoolStore.note.Goals as goal

pub returns-in_default-at-clause-granted : goal.returns-in_default-at-clause-granted
returns-in_default-at-clause-granted c =
    let long = list_length c.args.self.now c.args.input c.args.output c.cell.result c.in-Some.ensures.0 (search rules) in
    let few = c.in_default-at.ensures.is in
    grind (arith, nat_tests)

pub returns-clause-granted : goal.returns-clause-granted
returns-clause-granted c =
    let long = list_length c.args.self.now c.args.input c.args.output c.cell.result c.in-Some.ensures.0 (search rules) in
    let has = c.in-Some-at.ensures.is.0 in
    grind (arith, nat_tests)

pub returns-clause-lists : goal.returns-clause-lists
returns-clause-lists c =
    note_lists c.args.self.now c.args.input c.args.output c.cell.result c.in-Some.ensures.0 (search rules) c.args.k c.args.tick
    c.in-Some-at.cell c.in-Some-packets.packet _ _ c.in-Some-at.ensures.is (search rules) c.in-Some-packets.is c.started_across.ensures
