use Rattle.std.proofs.Common.{◌≡◌}
use Rattle.timing.proofs.Scaled.{starts_later}
use Rattle.timing.proofs.stamps.virtual_start.Goals as goal

pub returns-in-Some-2 : goal.returns-in-Some-2
returns-in-Some-2 c =
    let f = c.in-Some-2.finish in
    let same : f.weight ≡ c.args.weight = cc in
    starts_later c.args.weight _ f c.in_ok-arrived.arrived same c.in_ok-arrived.ensures.1 c.args.last c.max.result c.in-Some-2.is c.max.ensures
