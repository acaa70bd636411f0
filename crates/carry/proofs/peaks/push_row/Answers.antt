use Rattle.std.proofs.Common.{◌≡◌, ℕ, vec_items, vec_capacity, true, ap, subst, arith}
use Rattle.std.proofs.lemmas.Result.{err_from_is_err_and}
use Rattle.plan.specs.declared.table.Plan.{Plan}
use Rattle.law.specs.Plans.{plan_of}
use Rattle.carry.specs.Lines.{join_below, peak_of}
use Rattle.carry.specs.Lists.{Appends}
use Rattle.carry.proofs.Grows.{pieces_none, pieces_more, pieces_fail}
use Rattle.carry.proofs.peaks.push_row.Goals as goal

pub loop-j-init : goal.loop-j-init
loop-j-init g c s settles = pieces_none _ _ _

pub returns-in_err-push_flow : goal.returns-in_err-push_flow
returns-in_err-push_flow g c s settles =
    let p = err_from_is_err_and c.from_residual.result c.from_residual.ensures.1 in
    let ports = ap (λ (plan : Plan). plan.size.ports) c.plan.ensures in
    rw p.1 (pieces_fail _ _ _ _ _ _ _ _ (c.loop-j.invariant s settles) _ (omega (arith, ports, c.loop-j-test.true)) (c.in_err-push_flow.ensures s settles))

pub loop-j-preserved : goal.loop-j-preserved
loop-j-preserved g c s settles = pieces_more _ _ _ _ _ _ _ _ (c.loop-j.invariant s settles) (c.in_ok-push_flow.ensures s settles)

pub returns : goal.returns
returns g c s settles =
    let ports = ap (λ (plan : Plan). plan.size.ports) c.plan.ensures in
    let all : c.loop-j.j ≡ c.args.settled.now.running.plan.size.ports = omega (arith, ports, c.loop-j-test.false) in
    subst (λ (n : ℕ). Appends (join_below n (λ j. peak_of (plan_of c.args.settled.now.running.plan) s c.args.i j)) (vec_items c.args.out.now) (vec_items c.loop-j.out) (vec_capacity c.args.out.now) (vec_capacity c.loop-j.out) true) all
    (c.loop-j.invariant s settles)
