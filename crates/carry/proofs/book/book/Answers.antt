use Rattle.std.proofs.Common.{[], ◌∷◌, refl}
use Rattle.std.proofs.lemmas.Result.{err_from_is_err_and}
use Rattle.runfile.specs.Order.{head, Booking}
use Rattle.carry.specs.Booked.{BooksAt}
use Rattle.carry.proofs.Steps.{too_long_refuses, head_refuses, size_refuses, head_stands}
use Rattle.carry.proofs.book.book.Goals as goal
use Rattle.carry.proofs.book.book.Goals.{In_ok-plan}

pub returns-in_err-open : goal.returns-in_err-open
returns-in_err-open c =
    let p = err_from_is_err_and c.from_residual.result c.from_residual.ensures.1 in
    rw (p.1, p.2) (too_long_refuses c.args.file.now _ c.in_err-open.ensures.answers)

pub returns-in_err-head : goal.returns-in_err-head
returns-in_err-head c =
    let p = err_from_is_err_and c.from_residual-in_err-head.result c.from_residual-in_err-head.ensures.1 in
    rw (p.1, p.2) (head_refuses c.args.file.now c.in_ok-open.field-0 c.in_ok-open.ensures.answers _ c.in_err-head.ensures)

pub returns-in_err-plan : goal.returns-in_err-plan
returns-in_err-plan c =
    let p = err_from_is_err_and c.from_residual-in_err-plan.result c.from_residual-in_err-plan.ensures.1 in
    rw (p.1, p.2)
    (size_refuses c.args.file.now c.in_ok-open.field-0 c.in_ok-open.ensures.answers c.in_ok-head.rest
    c.in_ok-head.head c.in_ok-head.ensures _ c.in_err-plan.ensures)

-- behind the head
after_head : (c : goal.In_ok-plan) → BooksAt Booking c.args.file.now c.in_ok-head.head c.in_ok-plan.plan c.in_ok-head.rest
after_head c =
    record {
      items = head c.in_ok-head.head ∷ [];
      phase_is = refl;
      head_is = refl;
      no_arrivals = refl;
      stands =
          head_stands c.args.file.now c.in_ok-open.field-0 c.in_ok-open.ensures.answers c.in_ok-head.rest
          c.in_ok-head.head c.in_ok-head.ensures c.in_ok-plan.ensures.0;
      books = c.in_ok-plan.ensures.1;
    }

pub returns-in_err-left : goal.returns-in_err-left
returns-in_err-left c =
    let p = err_from_is_err_and c.from_residual-in_err-left.result c.from_residual-in_err-left.ensures.1 in
    rw (p.1, p.2) (c.in_err-left.ensures c.args.file.now c.in_ok-head.head (after_head (goal.at.returns-in_err-left c).In_ok-plan))

pub returns : goal.returns
returns c = c.in_ok-left.ensures c.args.file.now c.in_ok-head.head (after_head (goal.at.returns c).In_ok-plan)
