-- Marks that stand before one another, and those of a row that stand first.
use Rattle.std.specs.Prelude.{◌≡◌, ℕ, Bool, true, false, cond, not, ◌&&◌, List, [], ◌∷◌, map, Some, None, Option, slice_index_or}
use Rattle.std.specs.declared.cmp.Ordering.{Ordering}
use Rattle.std.specs.Ordering.{is_lt}

-- x stands before y: it is less
abbrev pub less : {M : Type 0} → (M → M → Ordering) → M → M → Bool
less cmp x y = is_lt (cmp x y)

-- of two marks, y where it stands before x, and else x
abbrev pub better : {M : Type 0} → (M → M → Bool) → M → M → M
better before x y = cond (before y x) y x

-- no mark of the row stands before m
abbrev pub none_before : {M : Type 0} → (M → M → Bool) → List (Option M) → M → Bool
none_before before [] m = true
none_before before (None ∷ row) m = none_before before row m
none_before before (Some x ∷ row) m = not (before x m) && none_before before row m

-- there is a mark, and none of the row stands before it
abbrev pub stands_first : {M : Type 0} → (M → M → Bool) → List (Option M) → Option M → Bool
stands_first before row None = false
stands_first before row (Some m) = none_before before row m

-- at each position, whether its mark stands first in the row
abbrev pub tied : {M : Type 0} → (M → M → Bool) → List (Option M) → List Bool
tied before row = map (stands_first before row) row

-- a mark m stands at position k, and no mark anywhere stands before it
abbrev pub First : {M : Type 0} → (M → M → Bool) → List (Option M) → ℕ → Type 0
First {M} before row k =
    (m : M) × (slice_index_or row k None ≡ Some m) × ((j : ℕ) (x : M) → slice_index_or row j None ≡ Some x → before x m ≡ false)
