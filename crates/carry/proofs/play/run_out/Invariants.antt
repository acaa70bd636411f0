use Rattle.std.proofs.Common.{◌≡◌, ℕ, ◌-◌, ◌≤◌, List, vec_items, vec_capacity}
use Rattle.plan.specs.declared.fault.TheConstants.{LAST_TICK}
use Rattle.law.specs.Step.{Plan}
use Rattle.replay.specs.Replay.{Replayed, run_ticks, run_out}
use Rattle.player.specs.Plays.{kind_with}
use Rattle.carry.specs.Playing.{IsUpTo}
use Rattle.carry.proofs.play.run_out.Given as goal

-- the ticks that the clock tells are played, no fewer than there were turns, and the rest of the run is what is left of it
abbrev pub invariant-loop : goal.invariant-loop
invariant-loop g l =
    (plan : Plan) (first : g.row.R.Denot) (x : Replayed g.row.R.Denot) (before : List ℕ) (room : ℕ) →
    IsUpTo g.S.Store.lists g.S.Store.size plan x l.initial.player before (vec_items l.initial.out) room (vec_capacity l.initial.out) →
    IsUpTo g.S.Store.lists g.S.Store.size plan (run_ticks plan (kind_with g.S.NamedStore.sign g.R.TieRule.answer g.R.NamedRule.next first) (l.player.running.clock - x.switch.clock) x) l.player before (vec_items l.out) room (vec_capacity l.out)
    × (l.counter ≤ l.player.running.clock - x.switch.clock)
    × (run_out plan (kind_with g.S.NamedStore.sign g.R.TieRule.answer g.R.NamedRule.next first) (LAST_TICK - x.switch.clock) x
    ≡ run_out plan (kind_with g.S.NamedStore.sign g.R.TieRule.answer g.R.NamedRule.next first) (LAST_TICK - l.player.running.clock)
    (run_ticks plan (kind_with g.S.NamedStore.sign g.R.TieRule.answer g.R.NamedRule.next first) (l.player.running.clock - x.switch.clock) x))
