-- The fields that are left to write stand before what is written.
use Rattle.std.proofs.Common.{◌≡◌, ℕ, ◌+◌, List, [], ◌∷◌, ◌++◌, length, drop, set, refl, ap, ◌∙◌, append_assoc, arith}
use Rattle.std.proofs.lemmas.List.{drop-set, drop_all}
use Rattle.std.proofs.lemmas.Grind.{flat_map-append}
use Rattle.std.specs.Fmt.{decimal}
use Rattle.std.specs.List.{flat_map}
use Rattle.listing.specs.Line.{field}

-- the line feed, at the end of the bytes
pub feed_last : (bytes : List ℕ) (k : ℕ) → length bytes ≡ k + 1 → drop k (set bytes k 10) ≡ 10 ∷ []
feed_last bytes k h = drop-set bytes k 10 (omega arith) ∙ ap (λ (xs : List ℕ). 10 ∷ xs) (drop_all (k + 1) bytes (omega arith))

pub none_left : (left written : List ℕ) → length left ≡ 0 → flat_map field left ++ written ≡ written
none_left [] written h = refl
none_left (n ∷ left) written h = absurd (omega (arith, h))

pub last_left : (before written : List ℕ) (n : ℕ) → flat_map field (before ++ n ∷ []) ++ written ≡ flat_map field before ++ (32 ∷ (decimal n ++ written))
last_left before written n = rw (flat_map-append field before (n ∷ []), append_assoc, append_assoc) refl
