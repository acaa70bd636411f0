use Rattle.std.proofs.Common.{arith, length-take-le}
use borrow.Rule.Slice.PartMut.{take_put}
use Rattle.gaps.proofs.Filled.{behind_front}
use Rattle.gaps.proofs.read_at.Goals as goal

pub returns-clause-front : goal.returns-clause-front
returns-clause-front g c = take_put _ _ c.args.buf.now _ (omega (arith, c.requires))

pub returns-clause-ok : goal.returns-clause-ok
returns-clause-ok g c =
    behind_front _ _ c.read.result _ c.read.new.buf _ c.args.at (length-take-le _ c.args.buf.now (omega (arith, c.requires)))
    c.read.ensures.bound c.read.ensures.bytes
