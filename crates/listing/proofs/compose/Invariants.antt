use Rattle.std.proofs.Common.{◌≡◌, ◌+◌, ◌*◌, ◌<◌, ◌≤◌, [], ◌∷◌, ◌++◌, length, drop}
use Rattle.std.specs.List.{flat_map}
use Rattle.listing.specs.Line.{field}
use Rattle.listing.proofs.compose.Given as goal

-- the fields that are left, before those that are written and the line feed
abbrev pub invariant-loop-n : goal.invariant-loop-n
invariant-loop-n l =
    record {
      room : (1 + 21 * length l.left ≤ l.at) × (l.at < length l.bytes) × (length l.bytes ≡ length l.fn.bytes);
      text : flat_map field l.left ++ drop l.at l.bytes ≡ flat_map field l.fn.fields ++ 10 ∷ [];
    }

abbrev pub decreases-loop-n : goal.decreases-loop-n
decreases-loop-n l = length l.left
