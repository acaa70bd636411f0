use Rattle.std.proofs.Common.{◌≡◌, Ok, arith}
use Rattle.std.proofs.lemmas.Grind.{common_steps}
use Rattle.state.specs.Asks.{ask_answer}
use Rattle.state.proofs.AskCarries.{ask_carries}
use Rattle.switch.specs.Calls.{state_of}
use Rattle.switch.proofs.running.Running.ask.Goals as goal

pub returns-in_err-weight : goal.returns-in_err-weight
returns-in_err-weight g c =
    let s = c.args.self.now in
    let st = state_of g.S.Store.lists s in
    let answer : c.from_residual.result ≡ ask_answer st c.args.input c.args.output = grind (arith, common_steps) in
    record { answer = answer; law = ask_carries (g.S.Store.size s.store.store) st c.args.input c.args.output c.from_residual.result answer }

pub returns : goal.returns
returns g c =
    let s = c.args.self.now in
    let st = state_of g.S.Store.lists s in
    let answer : Ok c.numbers.result ≡ ask_answer st c.args.input c.args.output = grind (arith, common_steps) in
    record { answer = answer; law = ask_carries (g.S.Store.size s.store.store) st c.args.input c.args.output (Ok c.numbers.result) answer }
