-- The worked examples, by computing. Assumes nothing.
use Rattle.std.proofs.Common.{refl}
use Rattle.tie.specs.Positions.{first_round}
use Rattle.law.specs.Journeys.{ended}
use Rattle.replay.specs.Replay.{kept_at, run_ticks, run_out}
use Rattle.replay.specs.Examples.{ThirdIsTurnedAway, UnevenRun}

pub third_is_turned_away : ThirdIsTurnedAway
unfolding first_round ended kept_at run_ticks run_out
third_is_turned_away = refl

pub uneven_run : UnevenRun
unfolding first_round ended kept_at run_ticks run_out
uneven_run = refl
