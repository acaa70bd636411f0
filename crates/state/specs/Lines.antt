-- What a line is doing at a tick.
use Rattle.std.specs.Prelude.{ℕ, Bool, false, cond, ◌&&◌, Some, None, Option, ◌==◌, nat_lt}
use Rattle.state.specs.declared.line.Busy.{Busy}
use Rattle.departure.specs.declared.Departure.{Departure}

-- a line: none while it is idle, or what it is busy with
abbrev pub Line : Type 0 → Type 0
Line X = Option (Busy X)

-- a line that is busy with this load until this tick
abbrev pub busy : {X : Type 0} → X → ℕ → Line X
busy load until = Some record { load = load; until = until }

-- the tick at which a line falls free
abbrev pub until_of : {X : Type 0} → Line X → ℕ
until_of None = 0
until_of (Some b) = b.until

-- it is busy before that tick
abbrev pub busy_at : {X : Type 0} → ℕ → Line X → Bool
busy_at t None = false
busy_at t (Some b) = nat_lt t b.until

-- the other port of what a line carries: of an input's line the output, of an output's line the input
abbrev pub to_output : ℕ → ℕ
to_output load = load

abbrev pub from_input : Departure → ℕ
from_input load = load.input

-- whether k is the other port (as `port` reads it off a load) of what a line carries, or carried last
abbrev pub loaded_with : {X : Type 0} → (X → ℕ) → ℕ → Line X → Bool
loaded_with port k None = false
loaded_with port k (Some b) = port b.load == k

-- whether a line carries something with the other port k at tick t
abbrev pub carries : {X : Type 0} → (X → ℕ) → ℕ → ℕ → Line X → Bool
carries port t k line = loaded_with port k line && nat_lt t (until_of line)

-- the lines of all ports, with that of port i replaced
abbrev pub with_line : {X : Type 0} → (ℕ → X) → ℕ → X → ℕ → X
with_line lines i line a = cond (a == i) line (lines a)
