-- Worked examples, computed by the definitions.
use Rattle.std.specs.Prelude.{◌≡◌, [], ◌∷◌, slice_index, slice_index_or}
use Rattle.law.specs.Step.{Plan}
use Rattle.replay.specs.Kinds.{rings_sign, pool_sign}
use Rattle.replay.specs.Named.{lowest_kind, turn_kind}
use Rattle.replay.specs.Replay.{Arrival, replay}
use Rattle.replay.specs.Events.{left, turned_away, events_of}

-- one port, packets of at most 2 bytes, the whole line for its flow
abbrev pub one_port : Plan
one_port = record { ports = 1; longest = 2; parts = 1; weight = λ _ _. 1 }

abbrev pub byte_at_0 : Arrival
byte_at_0 = record { tick = 0; input = 0; output = 0; bytes = 1 }

-- Three packets of one byte at tick 0, of which rings take two. The first crosses from 0 to 1 and, 2 ticks after its virtual
-- start, is sent from 2 to 3; the second starts virtually at 1, crosses from 1 to 2, and is sent from 3 to 4.
abbrev pub ThirdIsTurnedAway : Type 0
ThirdIsTurnedAway =
    events_of (replay one_port (lowest_kind rings_sign) (byte_at_0 ∷ byte_at_0 ∷ byte_at_0 ∷ [])).log
    ≡ turned_away byte_at_0
    ∷ left record { tick = 3; input = 0; output = 0; serial = 0; arrival = 0; crossing = 0; sending = 2; whole = 1; numerator = 0; bytes = 1 }
    ∷ left record { tick = 4; input = 0; output = 0; serial = 1; arrival = 0; crossing = 1; sending = 3; whole = 2; numerator = 0; bytes = 1 }
    ∷ []

-- two ports, packets of at most 6 bytes, lines of 4 parts, flow (1, 1) closed
abbrev pub two_ports : Plan
two_ports = record { ports = 2; longest = 6; parts = 4; weight = λ i j. slice_index (slice_index_or ((2 ∷ 2 ∷ []) ∷ (1 ∷ 0 ∷ []) ∷ []) i []) j }

-- the run that docs/SWITCH.md works out: 4 bytes to output 1 and 6 to output 0 from input 0 at tick 0, 3 to output 0 from input 1
-- at tick 1
abbrev pub UnevenRun : Type 0
UnevenRun =
    events_of
    (replay two_ports (turn_kind pool_sign)
    (record { tick = 1; input = 1; output = 0; bytes = 3 }
    ∷ record { tick = 0; input = 0; output = 0; bytes = 6 }
    ∷ record { tick = 0; input = 0; output = 1; bytes = 4 }
    ∷ [])).log
    ≡ left record { tick = 10; input = 1; output = 0; serial = 0; arrival = 1; crossing = 1; sending = 7; whole = 13; numerator = 0; bytes = 3 }
    ∷ left record { tick = 10; input = 0; output = 1; serial = 0; arrival = 0; crossing = 0; sending = 6; whole = 8; numerator = 0; bytes = 4 }
    ∷ left record { tick = 16; input = 0; output = 0; serial = 0; arrival = 0; crossing = 4; sending = 10; whole = 12; numerator = 0; bytes = 6 }
    ∷ []
