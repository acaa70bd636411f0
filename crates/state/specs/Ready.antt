-- From when on a packet may start: the first tick at which it is ready.
use Rattle.std.specs.Prelude.{ℕ, ◌+◌, max, cond, Some, None, Option, nat_le, nat_lt}
use Rattle.timing.specs.declared.Stamp.{Stamp}
use Rattle.store.specs.declared.packet.Packet.{Packet}

-- the first whole tick at or after a virtual time
abbrev pub tick_from : Stamp → ℕ
tick_from s = s.tick + cond (nat_lt 0 s.numerator) 1 0

-- a packet may start across from its virtual start on
abbrev pub across_from : Option Packet → Option ℕ
across_from None = None
across_from (Some p) = Some (tick_from p.start)

-- once its crossing has started at tick u: from when on it has wholly crossed and L ticks have passed since its virtual start
abbrev pub out_after : ℕ → Packet → Option ℕ → Option ℕ
out_after L p None = None
out_after L p (Some u) = Some (max (u + p.bytes) (tick_from p.start + L))

-- a packet may start out from that tick on
abbrev pub out_from : ℕ → Option Packet → Option ℕ
out_from L None = None
out_from L (Some p) = out_after L p p.crossing

-- the mark at tick t of a packet that may start from a tick on: its virtual finish, once that tick has come
abbrev pub mark_from : ℕ → Option Packet → Option ℕ → Option Stamp
mark_from t None from = None
mark_from t (Some p) None = None
mark_from t (Some p) (Some from) = cond (nat_le from t) (Some p.finish) None
