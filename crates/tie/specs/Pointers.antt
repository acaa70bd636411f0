-- The pointers of the rule that takes turns: one for each port code below 32.
use Rattle.std.specs.Prelude.{ℕ, ◌+◌, ◌%◌, slice_index, slice_set}
use Rattle.tie.specs.declared.rules.Turn.{Turn}

-- the pointer of a code; 0 from 32 on
abbrev pub pointer_of : Turn → ℕ → ℕ
pointer_of turn code = slice_index turn.pointers code

-- after a winner is told: its code's pointer stands one past it, going round
abbrev pub advanced : Turn → ℕ → ℕ → Turn
advanced turn code winner = record { pointers = slice_set turn.pointers code ((winner + 1) % 16) }
