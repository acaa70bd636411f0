use Rattle.std.proofs.Common.{arith, rules}
use Rattle.std.proofs.lemmas.Bool.Decides.{nat_tests}
use Rattle.pool.proofs.Pools.{full_is, put_lists, put_filled}
use Rattle.pool.proofs.cells.PoolStore.put.Goals as goal

pub returns-in_default-at-clause-granted : goal.returns-in_default-at-clause-granted
returns-in_default-at-clause-granted c =
    let full = full_is c.args.self.now c.args.input c.args.output c.in-Some.ensures.0 in
    let none = c.in_default-at.ensures.is in
    grind (arith, nat_tests)

pub returns-clause-granted : goal.returns-clause-granted
returns-clause-granted c =
    let full = full_is c.args.self.now c.args.input c.args.output c.in-Some.ensures.0 in
    let some = c.in-Some-at.ensures.is.0 in
    grind (arith, nat_tests)

pub invariant_of-self : goal.invariant_of-self
invariant_of-self c =
    record {
      filled = put_filled c.args.self.now c.args.input c.args.output c.cell.result c.in-Some.ensures.0 (search rules) c.shift.new.self
          c.in-Some-at.cell c.args.packet c.in-Some-at.ensures.is c.shift.ensures (search rules);
    }

pub returns-clause-lists : goal.returns-clause-lists
returns-clause-lists c =
    put_lists c.args.self.now c.args.input c.args.output c.cell.result c.in-Some.ensures.0 (search rules) c.shift.new.self
    c.in-Some-at.cell c.args.packet c.in-Some-at.ensures.is c.shift.ensures (search rules)
