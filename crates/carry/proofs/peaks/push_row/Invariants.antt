use Rattle.std.proofs.Common.{true, vec_items, vec_capacity}
use Rattle.law.specs.Plans.{plan_of}
use Rattle.law.specs.Step.{Switch}
use Rattle.carry.specs.Lines.{join_below, peak_of}
use Rattle.carry.specs.Lists.{Appends}
use Rattle.carry.specs.Settles.{Settles}
use Rattle.carry.proofs.peaks.push_row.Given as goal

abbrev pub invariant-loop-j : goal.invariant-loop-j
invariant-loop-j g l =
    (s : Switch) → Settles g.S.Store.lists l.settled s →
    Appends (join_below l.j (λ j. peak_of (plan_of l.settled.running.plan) s l.i j))
    (vec_items l.initial.out) (vec_items l.out) (vec_capacity l.initial.out) (vec_capacity l.out) true
