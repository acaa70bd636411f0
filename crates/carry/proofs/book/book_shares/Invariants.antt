use Rattle.std.proofs.Common.{ℕ, List, length}
use Rattle.runfile.specs.Order.{Booking}
use Rattle.runfile.specs.declared.body.Head.{Head}
use Rattle.carry.specs.Booked.{BooksAt}
use Rattle.carry.proofs.book.book_shares.Given as goal

abbrev pub invariant-loop-share : goal.invariant-loop-share
invariant-loop-share l =
    (file : List ℕ) (h : Head) → BooksAt Booking file h l.initial.plan l.initial.rest → BooksAt Booking file h l.plan l.rest

abbrev pub decreases-loop-share : goal.decreases-loop-share
decreases-loop-share l = length l.rest.bytes.now
