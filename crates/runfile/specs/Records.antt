-- A record at the front of the unread bytes of a file.
use Rattle.std.specs.Prelude.{ℕ, ◌-◌, cond, List, [], ◌∷◌, length, take, drop, Some, None, Ok, Err, Option, Result, ◌==◌, nat_le, nat_lt}
use Rattle.runfile.specs.declared.fault.Cause.{Cause}
use Rattle.runfile.specs.declared.fault.Cause.TheVariants.{Read}
use Rattle.runfile.specs.declared.fault.ReadFault.TheVariants.{TooLong, UnknownKind, CutShort}
use Rattle.runfile.specs.declared.fault.Fault.{Fault}
use Rattle.runfile.specs.declared.record.Record.{Record}
use Rattle.runfile.specs.declared.record.Kind.{Kind}
use Rattle.runfile.specs.declared.record.Kind.TheVariants as kinds
use Rattle.runfile.specs.declared.record.Rest.{Rest}

-- a record, and the unread bytes behind it
pub record Part : Type 0 where
  pub kind : ℕ
  pub place : ℕ
  pub body : List ℕ
  pub rest : List ℕ

-- how long the body of each kind is: 1 head, 2 share, 3 seal, 4 arrival, 5 end
abbrev pub body_length : ℕ → Option ℕ
body_length kind =
    cond (kind == 1) (Some 7)
    (cond (kind == 2) (Some 4)
    (cond (kind == 3) (Some 0)
    (cond (kind == 4) (Some 7)
    (cond (kind == 5) (Some 0) None))))

abbrev pub fault_at : ℕ → Cause → Fault
fault_at p c = record { place = p; cause = c }

-- a file has at most 65,536 bytes
abbrev pub too_long : List ℕ → Option Fault
too_long file = cond (nat_lt 65536 (length file)) (Some (fault_at 65536 (Read TooLong))) None

-- in a file of n bytes: a record of this kind at p, with a body of this length at the front of what follows
abbrev pub part_of : ℕ → ℕ → ℕ → List ℕ → Option ℕ → Result Part Fault
part_of n p k more None = Err (fault_at p (Read UnknownKind))
part_of n p k more (Some size) =
    cond (nat_le size (length more))
    (Ok record { kind = k; place = p; body = take size more; rest = drop size more })
    (Err (fault_at n (Read CutShort)))

-- in a file of n bytes: the record at the front of its unread bytes
abbrev pub first_record : ℕ → List ℕ → Result Part Fault
first_record n [] = Err (fault_at n (Read CutShort))
first_record n (kind ∷ more) = part_of n (n - length (kind ∷ more)) kind more (body_length kind)

-- the number and the body of a kind
abbrev pub kind_number : Kind → ℕ
kind_number (kinds.Head b) = 1
kind_number (kinds.Share b) = 2
kind_number kinds.Seal = 3
kind_number (kinds.Arrival b) = 4
kind_number kinds.End = 5

abbrev pub body_in : Kind → List ℕ
body_in (kinds.Head b) = b.now
body_in (kinds.Share b) = b.now
body_in kinds.Seal = []
body_in (kinds.Arrival b) = b.now
body_in kinds.End = []

-- what the reader hands out, as such a part
abbrev pub part_seen : Record → Rest → Part
part_seen r left = record { kind = kind_number r.kind; place = r.place; body = body_in r.kind; rest = left.bytes.now }
