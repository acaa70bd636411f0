use Rattle.replay.proofs.Following.{replays_follow_law}
use Rattle.replay.proofs.replays_stand.Goals as goal

pub returns : goal.returns
returns g c = replays_follow_law g.row.K.Denot
