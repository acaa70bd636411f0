use Rattle.std.proofs.Common.{nat_eq, sym, ap, ◌∙◌}
use Rattle.std.proofs.lemmas.Option.{MatchOption-at_some}
use Rattle.pool.proofs.Rows.{some_of}
use Rattle.pool.proofs.Pools.{full_is}
use Rattle.pool.proofs.cells.PoolStore.is_full.Goals as goal

pub returns-else-is_none : goal.returns-else-is_none
returns-else-is_none c =
    let flow = some_of c.new.result c.if-is_none.ensures in
    let is = MatchOption-at_some _ _ flow.0 flow.1 c.new.ensures in
    ap (λ n. nat_eq n 0) c.len.ensures ∙ sym (full_is c.args.self.now c.args.input c.args.output is.0)
