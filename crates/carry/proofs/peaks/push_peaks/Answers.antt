use Rattle.std.proofs.Common.{◌≡◌, ℕ, vec_items, vec_capacity, true, ap, subst, arith}
use Rattle.std.proofs.lemmas.Result.{err_from_is_err_and}
use Rattle.plan.specs.declared.table.Plan.{Plan}
use Rattle.law.specs.Plans.{plan_of}
use Rattle.carry.specs.Lines.{join_below, peak_of}
use Rattle.carry.specs.Lists.{Appends}
use Rattle.carry.proofs.Grows.{pieces_none, pieces_more, pieces_fail}
use Rattle.carry.proofs.peaks.push_peaks.Goals as goal

pub loop-i-init : goal.loop-i-init
loop-i-init g c s settles = pieces_none _ _ _

pub returns-in_err-push_row : goal.returns-in_err-push_row
returns-in_err-push_row g c s settles =
    let p = err_from_is_err_and c.from_residual.result c.from_residual.ensures.1 in
    let ports = ap (λ (plan : Plan). plan.size.ports) c.plan.ensures in
    rw p.1 (pieces_fail _ _ _ _ _ _ _ _ (c.loop-i.invariant s settles) _ (omega (arith, ports, c.loop-i-test.true)) (c.in_err-push_row.ensures s settles))

pub loop-i-preserved : goal.loop-i-preserved
loop-i-preserved g c s settles = pieces_more _ _ _ _ _ _ _ _ (c.loop-i.invariant s settles) (c.in_ok-push_row.ensures s settles)

pub returns : goal.returns
returns g c s settles =
    let ports = ap (λ (plan : Plan). plan.size.ports) c.plan.ensures in
    let all : c.loop-i.i ≡ c.args.settled.now.running.plan.size.ports = omega (arith, ports, c.loop-i-test.false) in
    subst (λ (n : ℕ). Appends (join_below n (λ i. join_below c.args.settled.now.running.plan.size.ports (λ j. peak_of (plan_of c.args.settled.now.running.plan) s i j))) (vec_items c.args.out.now) (vec_items c.loop-i.out) (vec_capacity c.args.out.now) (vec_capacity c.loop-i.out) true) all
    (c.loop-i.invariant s settles)
