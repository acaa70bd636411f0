use Rattle.std.proofs.Common.{refl}
use Rattle.tie.specs.Pointers.{pointer_of}
use Rattle.tie.specs.Picked.{first_picks_tied, longest_picks_tied}
use Rattle.replay.proofs.kinds_stand.Goals as goal

pub returns : goal.returns
returns c =
    record {
      lowest = λ sign. record { answers = refl; keeps = λ kept code winner after e. e; picks = λ _. first_picks_tied (λ _. 0) };
      turn = λ sign. record { answers = refl; keeps = λ kept code winner after e. e; picks = λ turn. first_picks_tied (pointer_of turn) };
      longest = λ sign. record { answers = refl; keeps = λ kept code winner after e. e; picks = λ _. longest_picks_tied };
    }
