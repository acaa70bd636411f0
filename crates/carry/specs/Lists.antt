-- What appending a text leaves.
use Rattle.std.specs.Prelude.{◌≡◌, ℕ, ◌+◌, ◌<◌, ◌≤◌, Bool, true, false, List, ◌++◌, length, take, vec_items, vec_capacity}
use Rattle.std.specs.declared.vec.Vec.{Vec}

-- A call that is to append `text` to a vector of `before`, with room for `room` bytes in all, leaves it holding `after`, with
-- room for `more`. Only where the text does not fit into the room that there was may it fail, for want of memory.
pub record Appends (text before after : List ℕ) (room more : ℕ) (ok : Bool) : Type 0 where
  pub done : ok ≡ true → after ≡ before ++ text
  pub short : ok ≡ false → room < length before + length text
  pub keeps : take (length before) after ≡ before
  pub grows : room ≤ more

-- the same of the vector itself
abbrev pub Adds : {Z : Type 0} → List ℕ → (before after : Vec ℕ Z) → Bool → Type 0
Adds text before after ok = Appends text (vec_items before) (vec_items after) (vec_capacity before) (vec_capacity after) ok
