use Rattle.std.proofs.Common.{◌≡◌, ℕ, ◌+◌, ◌*◌, ◌%◌, length, sym, ap, ◌∙◌, rules}
use Rattle.grid.specs.Flows.{with_flow}
use Rattle.grid.proofs.Flows.{ports_inside, flow_read, flows_set}
use Rattle.store.specs.Counts.{counts}
use Rattle.store.proofs.numbered.Numbered.put.Goals as goal

pub returns-then-granted-clause-counts : goal.returns-then-granted-clause-counts
returns-then-granted-clause-counts g c =
    let taken = c.args.self.now.taken in
    let i = c.args.input in
    let j = c.args.output in
    let ports = ports_inside i j c.in-Some.ensures.0 in
    let long : length taken ≡ 256 = search rules in
    let cell : c.cell-cell.result ≡ 16 * i + j = search rules in
    let granted = c.if-granted.true in
    rw (cell, granted)
    (flows_set 0 taken i j _ ports.0 ports.1 long
    ∙ ap (λ (n : ℕ). with_flow (counts c.args.self.now) i j ((n + 1) % 18446744073709551616)) (sym (flow_read 0 taken i j 0 ports.0 ports.1 long)))
