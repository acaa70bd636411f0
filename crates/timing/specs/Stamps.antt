-- Stamps as scaled numbers: a flow's weight times a virtual time, which is always whole.
use Rattle.std.specs.Prelude.{◌≡◌, ℕ, suc, pred, ◌+◌, ◌*◌, ◌/◌, ◌%◌, max, Bool, Some, None, Option, nat_lt}
use Rattle.std.specs.declared.cmp.Ordering.{Ordering}
use Rattle.std.specs.Ordering.{nat_cmp}
use Rattle.std.proofs.Common.{mod-lt, zero-lt-suc}
use Rattle.timing.specs.Marks.{less}
use Rattle.timing.specs.declared.Stamp.{Stamp}

-- the weight times the stamp
abbrev pub scaled : Stamp → ℕ
scaled s = s.weight * s.tick + s.numerator

-- the scaled virtual finish of the packet accepted last: 0 where there is none
abbrev pub last_scaled : Option Stamp → ℕ
last_scaled None = 0
last_scaled (Some s) = scaled s

-- the scaled virtual start of a packet that arrives at tick a, where the packet before it finishes at f
abbrev pub scaled_start : ℕ → ℕ → ℕ → ℕ
scaled_start w a f = max (w * a) f

-- the scaled virtual finish of a packet of b bytes with start s, on a line of W parts
abbrev pub scaled_finish : ℕ → ℕ → ℕ → ℕ
scaled_finish W s b = s + W * b

-- the weight of the last stamp: w where there is none
abbrev pub last_weight : ℕ → Option Stamp → ℕ
last_weight w None = w
last_weight w (Some s) = s.weight

-- the last stamp, if any, is of a flow of weight w
abbrev pub SameFlow : ℕ → Option Stamp → Type 0
SameFlow w last = last_weight w last ≡ w

-- the stamp of weight w, which is not 0, whose scaled value is v
abbrev pub stamp_at : ℕ → ℕ → Stamp
stamp_at w v = record { tick = v / suc (pred w); numerator = v % suc (pred w); weight = suc (pred w); below = mod-lt v (zero-lt-suc (pred w)) }

-- s is the one stamp of weight w whose scaled value is v
pub record IsStampOf (w v : ℕ) (s : Stamp) : Type 0 where
  pub same_weight : s.weight ≡ w
  pub same_scaled : scaled s ≡ v
  pub same_tick : s.tick ≡ v / w
  pub same_numerator : s.numerator ≡ v % w

-- that stamp, given just where P holds
abbrev pub Given : Option Stamp → Type 0 → ℕ → ℕ → Type 0
Given None P w v = P → ⊥
Given (Some s) P w v = P × IsStampOf w v s

-- the fraction v / w against x / y
abbrev pub fraction_cmp : (v w x y : ℕ) → Ordering
fraction_cmp v w x y = nat_cmp (v * y) (x * w)

-- the fraction v / w is less than x / y
abbrev pub fraction_before : (v w x y : ℕ) → Bool
fraction_before v w x y = nat_lt (v * y) (x * w)

-- a against b, as exact fractions
abbrev pub stamp_cmp : Stamp → Stamp → Ordering
stamp_cmp a b = fraction_cmp (scaled a) a.weight (scaled b) b.weight

-- a stands before b, as exact fractions
abbrev pub earlier : Stamp → Stamp → Bool
earlier = less stamp_cmp
