-- The virtual times of a packet that comes in. `last` is the virtual finish of the packet before it in its flow, if there is one.
use Rattle.std.specs.Prelude.{ℕ, ◌*◌, ◌^◌, Bool, ◌&&◌, Option, ◌==◌, nat_lt}
use Rattle.timing.specs.declared.Stamp.{Stamp}
use Rattle.store.specs.declared.packet.Incoming.{Incoming}
use Rattle.timing.specs.Stamps.{last_scaled, last_weight, scaled_start, scaled_finish, stamp_at}

-- the scaled virtual start of a packet that arrives at tick a in a flow of weight w, and the finish if it has b bytes, on lines of W parts
abbrev pub start_of : Option Stamp → ℕ → ℕ → ℕ
start_of last w a = scaled_start w a (last_scaled last)

abbrev pub finish_of : Option Stamp → ℕ → ℕ → ℕ → ℕ → ℕ
finish_of last w a b W = scaled_finish W (start_of last w a) b

-- whether both fit a stamp: the flow is open, its last stamp is of the same weight, and the finish is below 2 ^ 64 ticks
abbrev pub stampable : Option Stamp → ℕ → ℕ → ℕ → ℕ → Bool
stampable last w a b W = nat_lt 0 w && (last_weight w last == w && nat_lt (finish_of last w a b W) (w * 2 ^ 64))

-- the packet with these times
abbrev pub incoming : Option Stamp → ℕ → ℕ → ℕ → ℕ → Incoming
incoming last w a b W = record { arrival = a; bytes = b; start = stamp_at w (start_of last w a); finish = stamp_at w (finish_of last w a b W) }
