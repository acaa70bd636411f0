use Rattle.replay.proofs.Ending.{replays_end}
use Rattle.replay.proofs.ends_stand.Goals as goal

pub returns : goal.returns
returns g c = replays_end g.row.K.Denot
