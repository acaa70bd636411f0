use Rattle.std.proofs.Common.{Equal, sym, ◌∙◌}
use Rattle.std.proofs.lemmas.Cmp.{ranked}
use Rattle.timing.proofs.WholeTicksFirst.{by_numerator, by_tick}
use Rattle.timing.proofs.stamps.StampOrd.cmp.Goals as goal

pub returns-in-Equal : goal.returns-in-Equal
returns-in-Equal c =
    let a = c.args.self.now in
    let b = c.args.other.now in
    let e = by_numerator a b (ranked a.tick b.tick Equal (sym c.in-Equal.is ∙ c.cmp.ensures)) in
    cc

pub returns-in_default : goal.returns-in_default
returns-in_default c = by_tick c.args.self.now c.args.other.now c.cmp.result c.cmp.ensures c.in_default.not-Equal
