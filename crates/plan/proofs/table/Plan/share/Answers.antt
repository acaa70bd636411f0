use Rattle.std.proofs.Common.{refl, arith, rules}
use Rattle.plan.proofs.Shares.{booked_weights, row_full, column_full, rows_kept, no_refusal, columns_kept}
use Rattle.plan.proofs.table.Plan.share.Goals as goal

pub returns-then-add_up-from : goal.returns-then-add_up-from
returns-then-add_up-from c = (
  row_full c.args.self.now c.args.input c.args.output c.args.weight c.in_ok-place.place (search rules) (search rules) (omega arith) (omega arith),
  refl,
)

pub returns-then-add_up-from-2 : goal.returns-then-add_up-from-2
returns-then-add_up-from-2 c = (
  column_full c.args.self.now c.args.input c.args.output c.args.weight c.in_ok-place.place (search rules) (search rules) (omega arith) (omega arith) (omega arith),
  refl,
)

pub invariant_of-self : goal.invariant_of-self
invariant_of-self c =
    let plan = c.args.self.now in record {
      rows = rows_kept plan c.args.input c.args.output c.args.weight c.in_ok-place.place (search rules) (search rules) (omega arith) (omega arith);
      columns = columns_kept plan c.args.input c.args.output c.args.weight c.in_ok-place.place (search rules) (search rules) (omega arith) (omega arith) (omega arith);
    }

pub returns : goal.returns
returns c =
    let plan = c.args.self.now in (
      no_refusal plan c.args.input c.args.output c.args.weight c.in_ok-place.place (search rules) (search rules) (omega arith) (omega arith) (omega arith),
      refl,
      booked_weights plan c.args.input c.args.output c.args.weight c.in_ok-place.place (search rules) (search rules) (omega arith),
    )
