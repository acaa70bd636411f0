use Rattle.std.proofs.Common.{◌≡◌, ℕ, ◌+◌, ◌-◌, ◌%◌, ◌^◌, ◌≤◌, length, take, drop, ap, ◌∙◌, arith}
use Rattle.std.proofs.lemmas.List.{length-take-le, take-append-le}
use Rattle.plan.specs.declared.table.Plan.{Plan}
use Rattle.player.proofs.Ticked.{plays_on}
use Rattle.replay.specs.Events.{bytes_in}
use Rattle.player.specs.Plays.{kind_with}
use Rattle.player.proofs.player.Player.tick.Goals as goal

pub returns : goal.returns
returns g c plan first x plays early =
    let kind = kind_with g.S.NamedStore.sign g.R.TieRule.answer g.R.NamedRule.next first in
    let p = c.args.self.now in
    let n = c.plan.result.now.size.ports in
    let new = c.step.new.out in
    let count = c.in-Ok.count in
    let done = c.in-Ok.ensures in
    let ports : n ≡ p.running.plan.size.ports = ap (λ (q : Plan). q.size.ports) c.plan.ensures in
    let few : n ≤ 16 = c.plan.result.now.size.few_ports in
    let room : n - 0 ≤ length p.list = omega arith in
    let rest = drop (n - 0) p.list in
    let long = length-take-le (n - 0) p.list room in
    let left = take-append-le count new rest (omega (arith, done.few, done.entries)) in
    plays_on g.S.Store.lists g.S.Store.size kind g.R.TieRule.told g.met.R.NamedRule.keeps_next p _ (take (n - 0) p.list) new (long ∙ omega (arith, ports)) count done
    left c.saturating_sub-self.ensures (ap (λ (b : ℕ). (p.bytes + b) % 2 ^ 64) (c.bytes_in.ensures ∙ ap bytes_in left)) plan x plays
