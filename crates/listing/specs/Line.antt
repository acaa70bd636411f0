-- What each line of the listing says, byte by byte, and what a call that writes one leaves in the caller's buffer.
use Rattle.std.specs.Prelude.{◌≡◌, ℕ, ◌<◌, ◌≤◌, List, [], ◌∷◌, ◌++◌, length, drop, Ok, Err, decimal, Result}
use Rattle.std.specs.List.{flat_map}
use Rattle.departure.specs.declared.Departure.{Departure}
use Rattle.listing.specs.declared.LineFault.{LineFault}
use Rattle.listing.specs.declared.LineFault.TheVariants.{ShortBuffer}

-- a field: a space, then the number in decimal
abbrev pub field : ℕ → List ℕ
field n = 32 ∷ decimal n

-- a line: its letter, its fields in order, a line feed
unfoldable pub line_of : ℕ → List ℕ → List ℕ
line_of letter fields = letter ∷ (flat_map field fields ++ 10 ∷ [])

abbrev pub departure_text : Departure → List ℕ
departure_text d =
    line_of 68 (d.tick ∷ d.input ∷ d.output ∷ d.serial ∷ d.arrival ∷ d.crossing ∷ d.sending ∷ d.whole ∷ d.numerator ∷ [])

abbrev pub full_text : ℕ → ℕ → ℕ → ℕ → List ℕ
full_text tick input output len = line_of 78 (tick ∷ input ∷ output ∷ len ∷ [])

abbrev pub peak_text : ℕ → ℕ → ℕ → List ℕ
peak_text input output peak = line_of 88 (input ∷ output ∷ peak ∷ [])

abbrev pub end_text : ℕ → ℕ → List ℕ
end_text tick bytes = line_of 69 (tick ∷ bytes ∷ [])

abbrev pub refusal_text : ℕ → ℕ → ℕ → List ℕ
refusal_text layer number place = line_of 82 (layer ∷ number ∷ place ∷ [])

-- A call that is to write `line` finds `before` in the buffer, leaves `after` and answers r: a line that fits is written to
-- the front, its length is the answer and the rest stays; one that does not fit is refused, and every byte stays.
pub record Writes (line before after : List ℕ) (r : Result ℕ LineFault) : Type 0 where
  pub fits : length line ≤ length before → (r ≡ Ok (length line)) × (after ≡ line ++ drop (length line) before)
  pub short : length before < length line → (r ≡ Err ShortBuffer) × (after ≡ before)

-- the number by which a fault is told
abbrev pub fault_number : LineFault → ℕ
fault_number ShortBuffer = 21
