-- What the bodies of records say. Numbers are unsigned, higher byte first.
use Rattle.std.specs.Prelude.{◌≡◌, ℕ, ◌+◌, ◌*◌, cond, List, Some, None, Option, Result, MatchResult, ◌==◌, slice_index}
use Rattle.runfile.specs.declared.body.StoreKind.{StoreKind}
use Rattle.runfile.specs.declared.body.StoreKind.TheVariants.{Rings, Pool}
use Rattle.runfile.specs.declared.body.RuleKind.{RuleKind}
use Rattle.runfile.specs.declared.body.RuleKind.TheVariants.{Lowest, Turn, Longest}
use Rattle.runfile.specs.declared.body.Head.{Head}
use Rattle.runfile.specs.declared.body.Share.{Share}
use Rattle.runfile.specs.declared.body.Arrival.{Arrival}
use Rattle.runfile.specs.declared.fault.ReadFault.{ReadFault}
use Rattle.runfile.specs.declared.fault.ReadFault.TheVariants.{UnknownChoice}

-- the byte at k, and the numbers of two and of three bytes from k on
abbrev pub one : List ℕ → ℕ → ℕ
one bytes k = slice_index bytes k

abbrev pub two : List ℕ → ℕ → ℕ
two bytes k = one bytes k * 256 + one bytes (k + 1)

abbrev pub three : List ℕ → ℕ → ℕ
three bytes k = one bytes k * 65536 + two bytes (k + 1)

-- the values of stores and of rules
abbrev pub store_of : ℕ → Option StoreKind
store_of k = cond (k == 1) (Some Rings) (cond (k == 2) (Some Pool) None)

abbrev pub rule_of : ℕ → Option RuleKind
rule_of k = cond (k == 1) (Some Lowest) (cond (k == 2) (Some Turn) (cond (k == 3) (Some Longest) None))

-- the value is found, or none is and the choice is unknown
abbrev pub Finds : {T : Type 0} → Option T → Result T ReadFault → Type 0
Finds o r = MatchResult r (λ x. o ≡ Some x) (λ f. (o ≡ None) × (f ≡ UnknownChoice))

-- head: N (1 byte), L (2), W (2), store (1), rule (1)
abbrev pub head_with : List ℕ → Option StoreKind → Option RuleKind → Option Head
head_with body None rule = None
head_with body (Some s) None = None
head_with body (Some s) (Some r) =
    Some record { ports = one body 0; longest = two body 1; parts = two body 3; store = s; rule = r }

abbrev pub head_of : List ℕ → Option Head
head_of body = head_with body (store_of (one body 5)) (rule_of (one body 6))

-- share: input (1), output (1), weight (2)
abbrev pub share_of : List ℕ → Share
share_of body = record { input = one body 0; output = one body 1; weight = two body 2 }

-- arrival: tick (3), input (1), output (1), length (2)
abbrev pub arrival_of : List ℕ → Arrival
arrival_of body = record { tick = three body 0; input = one body 3; output = one body 4; length = two body 5 }
