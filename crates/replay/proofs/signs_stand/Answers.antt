use Rattle.replay.proofs.Signs.{signs_fit}
use Rattle.replay.proofs.signs_stand.Goals as goal

pub returns : goal.returns
returns c = signs_fit
