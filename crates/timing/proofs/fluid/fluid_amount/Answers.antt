use Rattle.std.proofs.Common.{◌≡◌, ◌-◌, ◌*◌, ◌^◌, min, ap, arith, rules}
use Rattle.timing.proofs.Served.{closed, fluid_le}
use Rattle.timing.proofs.fluid.fluid_amount.Goals as goal
use Rattle.timing.specs.Stamps.{last_scaled}

pub returns-clause-exact : goal.returns-clause-exact
returns-clause-exact c =
    let W = c.args.parts in
    let w = c.args.weight in
    let t = c.args.tick in
    let value : c.unwrap_or.result ≡ min (2 ^ 64 - 1) (W * c.args.accepted - (last_scaled c.args.last - w * t)) = search rules in
    λ ps bytes last arrived small. omega (arith, closed W w t ps 0 arrived, fluid_le W w t ps 0, ap (λ n. W * n) bytes)
