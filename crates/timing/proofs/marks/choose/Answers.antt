use Rattle.std.proofs.Common.{◌≡◌, ◌≤◌, false, length, get_or, None, refl, ap, arith}
use Rattle.timing.proofs.Chosen.{chosen_first, level, mapped_from_get_or}
use Rattle.timing.proofs.Firsts.{tied_decides}
use Rattle.timing.proofs.marks.choose.Goals as goal
use Rattle.timing.specs.Marks.{stands_first, tied}

pub returns : goal.returns
returns g c =
    let before = g.M.Mark.before in
    let row = c.args.marks.now in
    let n : length row ≤ c.loop-k.k = omega arith in
    let value : c.loop-k.chosen ≡ tied before row =
    mapped_from_get_or (stands_first before row) row c.loop-k.chosen None false c.loop-k.invariant.0
    (λ k h.
    let o = get_or row k None in
    let here = c.loop-k.invariant.1 k (omega arith) in
    let best = ap (level before o) c.least-first.ensures in
    let first = chosen_first before g.met.M.Mark.asymmetric g.met.M.Mark.negatively_transitive row k o refl in
    cc) in
    record { value = value; each = λ k. rw value (tied_decides before row k) }
