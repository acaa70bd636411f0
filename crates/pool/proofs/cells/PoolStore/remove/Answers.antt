use Rattle.std.proofs.Common.{arith, rules}
use Rattle.std.proofs.lemmas.Bool.Decides.{nat_tests}
use Rattle.pool.proofs.Pools.{list_length, remove_lists, remove_filled, remove_room}
use Rattle.pool.proofs.cells.PoolStore.remove.Goals as goal

pub returns-then-len-eq0-clause-granted : goal.returns-then-len-eq0-clause-granted
returns-then-len-eq0-clause-granted c =
    let long = list_length c.args.self.now c.args.input c.args.output c.cell-queue.result c.in-Some.ensures.0 (search rules) in
    grind (arith, nat_tests)

pub invariant_of-self : goal.invariant_of-self
invariant_of-self c =
    record { filled = remove_filled c.args.self.now c.args.input c.args.output c.cell-queue.result c.in-Some.ensures.0 (search rules) c.shift.new.self (search rules) c.shift.ensures }

pub returns-clause-granted : goal.returns-clause-granted
returns-clause-granted c =
    let long = list_length c.args.self.now c.args.input c.args.output c.cell-queue.result c.in-Some.ensures.0 (search rules) in
    grind (arith, nat_tests)

pub returns-clause-lists : goal.returns-clause-lists
returns-clause-lists c =
    remove_lists c.args.self.now c.args.input c.args.output c.cell-queue.result c.in-Some.ensures.0 (search rules) c.shift.new.self (search rules) c.shift.ensures

pub returns-clause-sign : goal.returns-clause-sign
returns-clause-sign c =
    λ _. remove_room c.args.self.now c.args.input c.args.output c.cell-queue.result c.in-Some.ensures.0 (search rules) c.shift.new.self (search rules) c.shift.ensures
