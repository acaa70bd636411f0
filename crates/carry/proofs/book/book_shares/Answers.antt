use Rattle.std.proofs.Common.{◌≡◌, ℕ, ◌∷◌, Ok, Option, refl, ap, ◌∙◌, arith}
use Rattle.std.proofs.lemmas.Result.{err_from_is_err_and}
use Rattle.runfile.specs.Order.{share, seal, Booking, Ended}
use Rattle.runfile.specs.Seen.{booking_item}
use Rattle.runfile.specs.declared.body.Share.{Share}
use Rattle.carry.proofs.Steps.{reader_refuses, plan_denies, reads_on}
use Rattle.carry.proofs.book.book_shares.Goals as goal

goes : Booking ≡ Ended → ⊥
goes e = let z : ◌≡◌ {A = ℕ} 0 1 = cc in omega arith

-- the reader refuses
pub returns-in_err-share : goal.returns-in_err-share
returns-in_err-share c file h b =
    let at = c.loop-share.invariant file h b in
    let p = err_from_is_err_and c.from_residual.result c.from_residual.ensures.1 in
    rw (p.1, p.2) (reader_refuses file at.items c.loop-share.rest Booking at.phase_is at.stands goes at.no_arrivals _ c.in_err-share.ensures)

-- the plan refuses
pub returns-in_err-book_share : goal.returns-in_err-book_share
returns-in_err-book_share c file h b =
    let at = c.loop-share.invariant file h b in
    let left = c.in_ok-share.left in
    let p = err_from_is_err_and c.from_residual-in_err-book_share.result c.from_residual-in_err-book_share.ensures.1 in
    let next = c.in_ok-share.ensures.0 ∙ ap (λ (o : Option Share). Ok (booking_item o, left.bytes.now)) c.in-Some.is in
    rw (p.1, p.2)
    (plan_denies file at.items c.loop-share.rest Booking at.phase_is at.stands goes at.no_arrivals (share c.in-Some.share) refl left.bytes.now
    c.place-place.result _ next c.place-place.ensures (c.in_err-book_share.ensures.booked at.items at.books))

pub loop-share-preserved : goal.loop-share-preserved
loop-share-preserved c file h b =
    let at = c.loop-share.invariant file h b in
    let left = c.in_ok-share.left in
    let next = c.in_ok-share.ensures.0 ∙ ap (λ (o : Option Share). Ok (booking_item o, left.bytes.now)) c.in-Some.is in
    let booked = c.in_ok-book_share.ensures.booked at.items at.books in
    record {
      items = share c.in-Some.share ∷ at.items;
      phase_is = refl;
      head_is = at.head_is;
      no_arrivals = at.no_arrivals;
      stands = reads_on file at.items c.loop-share.rest Booking at.phase_is at.stands (share c.in-Some.share) left next c.in_ok-share.ensures.1 booked.0;
      books = booked.1;
    }

pub returns-in_default : goal.returns-in_default
returns-in_default c file h b =
    let at = c.loop-share.invariant file h b in
    let left = c.in_ok-share.left in
    let next = c.in_ok-share.ensures.0 ∙ ap (λ (o : Option Share). Ok (booking_item o, left.bytes.now)) c.in_default.is in
    record {
      items = seal ∷ at.items;
      phase_is = refl;
      head_is = at.head_is;
      no_arrivals = at.no_arrivals;
      stands = reads_on file at.items c.loop-share.rest Booking at.phase_is at.stands seal left next c.in_ok-share.ensures.1 refl;
      books = at.books;
    }
