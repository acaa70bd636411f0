-- What the reader's calls hand out, as items and the bytes left.
use Rattle.std.specs.Prelude.{◌≡◌, ℕ, List, [], Some, None, Ok, Err, Option, Result, MatchResult}
use Rattle.runfile.specs.Order.{Item, share, seal, arrival, end, Phase, next_item}
use Rattle.runfile.specs.declared.body.Share.{Share}
use Rattle.runfile.specs.declared.body.Arrival.{Arrival}
use Rattle.runfile.specs.declared.fault.Fault.{Fault}
use Rattle.runfile.specs.declared.record.Rest.{Rest}

-- after the head: one more share, or the seal
abbrev pub booking_item : Option Share → Item
booking_item (Some s) = share s
booking_item None = seal

-- after the seal: one more arrival, or the end with nothing behind it
abbrev pub traffic_item : Option (Arrival × Rest) → Item × List ℕ
traffic_item (Some t) = (arrival t.0, t.1.bytes.now)
traffic_item None = (end, [])

-- the length of the file, as the rest that is handed on has it
abbrev pub traffic_length : Option (Arrival × Rest) → ℕ → ℕ
traffic_length (Some t) n = t.1.length
traffic_length None n = n

-- in a phase, a call on the rest of a file answers what comes next there, seen as an item and the bytes left, and keeps the file's
-- length; or it refuses as the file does
abbrev pub ReadsNext : {V : Type 0} → Phase → Rest → (V → Item × List ℕ) → (V → ℕ) → Result V Fault → Type 0
ReadsNext phase rest seen size r =
    MatchResult r
    (λ v. (next_item rest.length phase rest.bytes.now ≡ Ok (seen v)) × (size v ≡ rest.length))
    (λ f. next_item rest.length phase rest.bytes.now ≡ Err f)
