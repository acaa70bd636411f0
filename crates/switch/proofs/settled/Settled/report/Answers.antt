use Rattle.std.proofs.Common.{◌≡◌, Ok, Err, arith}
use Rattle.std.proofs.lemmas.Grind.{common_steps}
use Rattle.state.specs.declared.fault.ReportFault.TheVariants as fault
use Rattle.switch.specs.Calls.{state_of}
use Rattle.state.specs.Reports.{report_answer}
use Rattle.state.proofs.ReportRight.{report_right}
use Rattle.switch.proofs.settled.Settled.report.Goals as goal

pub returns-then-from-inside-clause-law : goal.returns-then-from-inside-clause-law
returns-then-from-inside-clause-law g c =
    let st = state_of g.S.Store.lists c.args.self.now.running in
    let answer : Err fault.Unbalanced ≡ report_answer st c.args.input c.args.output = grind (arith, common_steps) in
    report_right st c.args.input c.args.output (Err fault.Unbalanced) answer

pub returns-clause-law : goal.returns-clause-law
returns-clause-law g c =
    let st = state_of g.S.Store.lists c.args.self.now.running in
    let l = c.ledger_at-ledger.result.now in
    let answer : Ok record { peak = l.peak; accepted = l.accepted; departed = l.departed } ≡ report_answer st c.args.input c.args.output = grind (arith, common_steps) in
    report_right st c.args.input c.args.output (Ok record { peak = l.peak; accepted = l.accepted; departed = l.departed }) answer
