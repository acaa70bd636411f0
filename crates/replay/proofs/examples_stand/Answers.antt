use Rattle.replay.proofs.Computed.{third_is_turned_away, uneven_run}
use Rattle.replay.proofs.examples_stand.Goals as goal

pub returns : goal.returns
returns c = record { third = third_is_turned_away; uneven = uneven_run }
