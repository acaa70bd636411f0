use Rattle.carry.proofs.Behind.{listings_follow_law}
use Rattle.carry.proofs.listings_stand.Goals as goal

pub returns : goal.returns
returns c = listings_follow_law
