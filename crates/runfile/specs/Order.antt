-- The order of a file's records, and what the reader makes of the next one: head, shares, seal, arrivals, end.
use Rattle.std.specs.Prelude.{ℕ, ◌-◌, cond, List, [], ◌∷◌, length, Some, None, Ok, Err, Option, Result, ◌==◌, nat_lt}
use Rattle.runfile.specs.Bodies.{head_of, share_of, arrival_of}
use Rattle.runfile.specs.Records.{Part, first_record, fault_at}
use Rattle.runfile.specs.declared.body.Head.{Head}
use Rattle.runfile.specs.declared.body.Share.{Share}
use Rattle.runfile.specs.declared.body.Arrival.{Arrival}
use Rattle.runfile.specs.declared.fault.Cause.{Cause}
use Rattle.runfile.specs.declared.fault.Cause.TheVariants.{Read}
use Rattle.runfile.specs.declared.fault.ReadFault.TheVariants.{OutOfOrder, EarlyTick, UnknownChoice, AfterEnd}
use Rattle.runfile.specs.declared.fault.Fault.{Fault}

-- a record, as the file means it
pub data Item : Type 0 where
  head : Head → Item
  share : Share → Item
  seal : Item
  arrival : Arrival → Item
  end : Item

-- how far the reading is: nothing read, the plan open, the run open with its clock at a tick, the end read
pub data Phase : Type 0 where
  Opening : Phase
  Booking : Phase
  Running : ℕ → Phase
  Ended : Phase

abbrev pub phase_after : Item → Phase
phase_after (head h) = Booking
phase_after (share s) = Booking
phase_after seal = Running 0
phase_after (arrival a) = Running a.tick
phase_after end = Ended

abbrev pub head_item : Option Head → Result Item Cause
head_item None = Err (Read UnknownChoice)
head_item (Some h) = Ok (head h)

-- what a record of this kind and body means in a phase, or why it may not stand there
abbrev pub item_of : Phase → ℕ → List ℕ → Result Item Cause
item_of Opening kind body = cond (kind == 1) (head_item (head_of body)) (Err (Read OutOfOrder))
item_of Booking kind body =
    cond (kind == 2) (Ok (share (share_of body)))
    (cond (kind == 3) (Ok seal) (Err (Read OutOfOrder)))
item_of (Running clock) kind body =
    cond (kind == 4) (cond (nat_lt (arrival_of body).tick clock) (Err (Read EarlyTick)) (Ok (arrival (arrival_of body))))
    (cond (kind == 5) (Ok end) (Err (Read OutOfOrder)))
item_of Ended kind body = Err (Read OutOfOrder)

-- in a file of n bytes: nothing may follow the end
abbrev pub with_rest : ℕ → Item → List ℕ → Result (Item × List ℕ) Fault
with_rest n (head h) rest = Ok (head h, rest)
with_rest n (share s) rest = Ok (share s, rest)
with_rest n seal rest = Ok (seal, rest)
with_rest n (arrival a) rest = Ok (arrival a, rest)
with_rest n end [] = Ok (end, [])
with_rest n end (b ∷ bs) = Err (fault_at (n - length (b ∷ bs)) (Read AfterEnd))

abbrev pub placed : ℕ → Part → Result Item Cause → Result (Item × List ℕ) Fault
placed n part (Err c) = Err (fault_at part.place c)
placed n part (Ok i) = with_rest n i part.rest

abbrev pub item_in : ℕ → Phase → Result Part Fault → Result (Item × List ℕ) Fault
item_in n phase (Err f) = Err f
item_in n phase (Ok part) = placed n part (item_of phase part.kind part.body)

-- in a file of n bytes: the next item of the unread bytes and what is left behind it, or the reader's refusal
abbrev pub next_item : ℕ → Phase → List ℕ → Result (Item × List ℕ) Fault
next_item n phase bytes = item_in n phase (first_record n bytes)
