use Rattle.std.proofs.Common.{◌≡◌, ◌+◌, ◌-◌, ◌∙◌, arith, append_assoc, length-set}
use Rattle.std.proofs.lemmas.Fmt.{decimal_step, decimal_digit}
use Rattle.std.proofs.lemmas.List.{drop-set}
use Rattle.listing.proofs.Digits.{length_digit, length_step}
use Rattle.listing.proofs.write_decimal.Goals as goal

pub overflow_sub-at : goal.overflow_sub-at
overflow_sub-at c = omega (arith, length_step c.loop-left.left (omega arith) c.loop-left.auto.left-fits.fits)

pub loop-left-preserved : goal.loop-left-preserved
loop-left-preserved c =
    let l = c.loop-left in
    let long = length_step l.left (omega arith) l.auto.left-fits.fits in
    let e : l.at - 1 + 1 ≡ l.at = omega arith in
    record {
      room = (omega arith, omega arith, length-set l.bytes (l.at - 1) _ ∙ l.invariant.room.2);
      start = omega arith;
      text = rw (drop-set l.bytes (l.at - 1) _ (omega arith), e) (rw (decimal_step l.left (omega arith) l.auto.left-fits.fits, append_assoc) at l.invariant.text);
    }

pub overflow_sub-at-2 : goal.overflow_sub-at-2
overflow_sub-at-2 c = omega (arith, length_digit c.loop-left.left (omega arith))

pub returns-clause-start : goal.returns-clause-start
returns-clause-start c = omega (arith, length_digit c.loop-left.left (omega arith))

pub returns-clause-written : goal.returns-clause-written
returns-clause-written c =
    let l = c.loop-left in
    let long = length_digit l.left (omega arith) in
    let e : l.at - 1 + 1 ≡ l.at = omega arith in
    rw (drop-set l.bytes (l.at - 1) _ (omega arith), e) (rw (decimal_digit l.left (omega arith)) at l.invariant.text)
