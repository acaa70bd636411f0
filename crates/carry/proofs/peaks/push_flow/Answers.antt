use Rattle.std.proofs.Common.{ltb, [], Result, ◌∙◌, sym, subst}
use Rattle.std.proofs.lemmas.Bool.{cond-true, cond-false}
use Rattle.listing.specs.Line.{peak_text}
use Rattle.plan.specs.Weights.{weight_of}
use Rattle.state.specs.Reports.{Right}
use Rattle.state.specs.declared.numbers.Report.{Report}
use Rattle.state.specs.declared.fault.ReportFault.{ReportFault}
use Rattle.carry.proofs.Grows.{append_none, told_open}
use Rattle.carry.proofs.peaks.push_flow.Goals as goal

pub returns-then-not-unwrap : goal.returns-then-not-unwrap
returns-then-not-unwrap g c s settles =
    let plan = c.args.settled.now.running.plan in
    let i = c.args.i in
    let j = c.args.j in
    let opens = told_open c.plan.result.now plan c.plan.ensures i j c.requires.ports.0 c.requires.ports.1 c.unwrap.result (sym c.unwrap.ensures ∙ c.is_open.ensures) ∙ c.if-not-unwrap.true in
    rw (cond-false (ltb 0 (weight_of plan i j)) (peak_text i j (s.peak i j)) [] opens) (append_none _ _)

pub returns : goal.returns
returns g c s settles =
    let plan = c.args.settled.now.running.plan in
    let i = c.args.i in
    let j = c.args.j in
    let opens = told_open c.plan.result.now plan c.plan.ensures i j c.requires.ports.0 c.requires.ports.1 c.unwrap.result (sym c.unwrap.ensures ∙ c.is_open.ensures) ∙ c.if-not-unwrap.false in
    let right : Right s i j c.report.result = c.report.ensures.law settles.0 settles.1 s settles.2.run settles.2.shows in
    let peak = (subst (λ (r : Result Report ReportFault). Right s i j r) c.unwrap-report.ensures right).0 in
    rw (cond-true (ltb 0 (weight_of plan i j)) (peak_text i j (s.peak i j)) [] opens, ← peak) c.push.ensures
