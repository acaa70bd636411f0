use Rattle.std.proofs.Common.{sym, ◌∙◌, arith, rules}
use Rattle.std.proofs.lemmas.Option.{slice_get_past}
use Rattle.pool.specs.Held.{lists_in}
use Rattle.pool.proofs.Pools.{list_length, list_nth}
use Rattle.pool.proofs.cells.PoolStore.look.Goals as goal

pub returns-in_err-cell : goal.returns-in_err-cell
returns-in_err-cell c =
    let pool = c.args.self.now in
    let long = list_length pool c.args.input c.args.output c.cell.result c.in_ok-flow.ensures.0 (search rules) in
    let few = c.in_err-cell.ensures.is in
    c.from_residual-in_err-cell.ensures ∙ sym (slice_get_past (lists_in pool.packets pool.links c.args.input c.args.output) c.args.k (grind (arith)))

pub returns : goal.returns
returns c =
    list_nth c.args.self.now c.args.input c.args.output c.cell.result c.in_ok-flow.ensures.0 (search rules) c.args.k
    c.in_ok-cell.cell _ c.in_ok-cell.ensures.is (search rules)
