use Rattle.std.proofs.Common.{◌≡◌, ℕ, ◌+◌, ◌*◌, true, rules}
use Rattle.grid.specs.Flows.{in_grid}
use Rattle.pool.proofs.Pools.{list_length}
use Rattle.pool.proofs.cells.PoolStore.count.Goals as goal

pub returns : goal.returns
returns c =
    let long = λ (q : ℕ) (inside : in_grid c.args.input c.args.output ≡ true) (at : q ≡ 16 * c.args.input + c.args.output). list_length c.args.self.now c.args.input c.args.output q inside at in
    search rules
