use Rattle.carry.proofs.WithoutArrivals.{plans_are_listed}
use Rattle.carry.proofs.plan_listings_stand.Goals as goal

pub returns : goal.returns
returns c = plans_are_listed
