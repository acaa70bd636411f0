-- The layer and the number of each refusal of a run file.
use Rattle.std.specs.Prelude.{ℕ}
use Rattle.plan.specs.Numbers.{size_number, share_number, arrive_number}
use Rattle.runfile.specs.declared.fault.Cause.{Cause}
use Rattle.runfile.specs.declared.fault.Cause.TheVariants.{Read, Size, Share, Arrive}
use Rattle.runfile.specs.declared.fault.ReadFault.{ReadFault}
use Rattle.runfile.specs.declared.fault.ReadFault.TheVariants.{TooLong, UnknownKind, CutShort, OutOfOrder, EarlyTick, UnknownChoice, AfterEnd}

-- what the reader refuses, in the order of the numbers
abbrev pub read_number : ReadFault → ℕ
read_number TooLong = 14
read_number UnknownKind = 15
read_number CutShort = 16
read_number OutOfOrder = 17
read_number EarlyTick = 18
read_number UnknownChoice = 19
read_number AfterEnd = 20

-- layer 1 is the reader, layer 2 the plan, layer 3 the switch
abbrev pub code : Cause → ℕ × ℕ
code (Read f) = (1, read_number f)
code (Size f) = (2, size_number f)
code (Share f) = (2, share_number f)
code (Arrive f) = (3, arrive_number f)
