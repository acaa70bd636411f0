-- The tie rules that a run file can name, each with the sign of a store.
use Rattle.std.specs.Prelude.{replicate}
use Rattle.tie.specs.Pointers.{advanced, pointer_of}
use Rattle.tie.specs.Positions.{first_from, longest, lowest}
use Rattle.tie.specs.declared.rules.Longest.{Longest}
use Rattle.tie.specs.declared.rules.Lowest.{Lowest}
use Rattle.tie.specs.declared.rules.Turn.{Turn}
use Rattle.replay.specs.Kinds.{Sign, Kind, unchanged}

abbrev pub lowest_kind : Sign → Kind Lowest
lowest_kind sign = record { sign = sign; first = record {}; answer = λ _ _ question. lowest question.tied; next = unchanged }

abbrev pub turn_kind : Sign → Kind Turn
turn_kind sign = record { sign = sign; first = record { pointers = replicate 32 0 }; answer = λ turn code question. first_from (pointer_of turn code) question.tied; next = advanced }

abbrev pub longest_kind : Sign → Kind Longest
longest_kind sign = record { sign = sign; first = record {}; answer = λ _ _ question. longest question; next = unchanged }
