use Rattle.replay.proofs.Asked.{asking_is_replay}
use Rattle.replay.proofs.asking_stands.Goals as goal

pub returns : goal.returns
returns g c = asking_is_replay (λ kept code winner after. g.R.TieRule.told kept code winner after)
