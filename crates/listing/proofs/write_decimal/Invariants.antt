use Rattle.std.proofs.Common.{◌≡◌, ◌+◌, ◌≤◌, ◌++◌, length, drop}
use Rattle.std.specs.Fmt.{decimal}
use Rattle.listing.proofs.write_decimal.Given as goal

-- the digits that are left, before those that are written
abbrev pub invariant-loop-left : goal.invariant-loop-left
invariant-loop-left l =
    record {
      room : (length (decimal l.left) ≤ l.at) × (l.at ≤ l.end) × (length l.bytes ≡ length l.fn.bytes);
      start : l.at + length (decimal l.n) ≡ l.end + length (decimal l.left);
      text : decimal l.left ++ drop l.at l.bytes ≡ decimal l.n ++ drop l.end l.fn.bytes;
    }

abbrev pub decreases-loop-left : goal.decreases-loop-left
decreases-loop-left l = l.left
