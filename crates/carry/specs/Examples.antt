-- Worked examples: two run files, byte by byte, and their listings, computed by the definitions.
use Rattle.std.specs.Prelude.{◌≡◌, ℕ, List, [], ◌∷◌, ◌++◌}
use Rattle.listing.specs.Line.{line_of}
use Rattle.runfile.specs.File.{Outcome, Comes}
use Rattle.carry.specs.Items.{refuses}
use Rattle.carry.specs.Listing.{listing}

-- Two ports, packets of at most 6 bytes, lines of 4 parts, a pool, taking turns; flows (0, 0) and (0, 1) get 2 parts, flow (1, 0)
-- gets 1. At tick 0 come 4 bytes to output 1 and 6 to output 0 from input 0; at tick 1 come 3 to output 0 from input 1.
abbrev pub three_arrivals : List ℕ
three_arrivals =
    1 ∷ 2 ∷ 0 ∷ 6 ∷ 0 ∷ 4 ∷ 2 ∷ 2
    ∷ 2 ∷ 0 ∷ 0 ∷ 0 ∷ 2
    ∷ 2 ∷ 0 ∷ 1 ∷ 0 ∷ 2
    ∷ 2 ∷ 1 ∷ 0 ∷ 0 ∷ 1
    ∷ 3
    ∷ 4 ∷ 0 ∷ 0 ∷ 0 ∷ 0 ∷ 1 ∷ 0 ∷ 4
    ∷ 4 ∷ 0 ∷ 0 ∷ 0 ∷ 0 ∷ 0 ∷ 0 ∷ 6
    ∷ 4 ∷ 0 ∷ 0 ∷ 1 ∷ 1 ∷ 0 ∷ 0 ∷ 3
    ∷ []

-- what departs at tick 10
abbrev pub two_departures : List ℕ
two_departures = line_of 68 (10 ∷ 1 ∷ 0 ∷ 0 ∷ 1 ∷ 1 ∷ 7 ∷ 13 ∷ 0 ∷ []) ++ line_of 68 (10 ∷ 0 ∷ 1 ∷ 0 ∷ 0 ∷ 0 ∷ 6 ∷ 8 ∷ 0 ∷ [])

-- the lines of a file's outcome
abbrev pub IsListed : List ℕ → List ℕ → Type 0
IsListed file text = (o : Outcome) × Comes refuses file o × (listing o ≡ text)

-- the file ends there: the third packet departs at 16, and `X` and `E` lines follow
abbrev pub WholeIsListed : Type 0
WholeIsListed =
    IsListed (three_arrivals ++ 5 ∷ [])
    (two_departures ++ line_of 68 (16 ∷ 0 ∷ 0 ∷ 0 ∷ 0 ∷ 4 ∷ 10 ∷ 12 ∷ 0 ∷ [])
    ++ line_of 88 (0 ∷ 0 ∷ 6 ∷ []) ++ line_of 88 (0 ∷ 1 ∷ 4 ∷ []) ++ line_of 88 (1 ∷ 0 ∷ 3 ∷ []) ++ line_of 69 (16 ∷ 13 ∷ []))

-- a byte comes to the closed flow (1, 1) at tick 12: the `R` line follows what departs until then
abbrev pub RefusedIsListed : Type 0
RefusedIsListed = IsListed (three_arrivals ++ 4 ∷ 0 ∷ 0 ∷ 12 ∷ 1 ∷ 1 ∷ 0 ∷ 1 ∷ 5 ∷ []) (two_departures ++ line_of 82 (3 ∷ 9 ∷ 48 ∷ []))
