use Rattle.carry.proofs.Computed.{whole_is_listed, refused_is_listed}
use Rattle.carry.proofs.examples_stand.Goals as goal

pub returns : goal.returns
returns c = record { whole = whole_is_listed; refused = refused_is_listed }
