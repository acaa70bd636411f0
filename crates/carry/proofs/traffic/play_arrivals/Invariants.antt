use Rattle.std.proofs.Common.{◌≡◌, ℕ, ◌≤◌, List, length, vec_items, vec_capacity}
use Rattle.law.specs.Step.{Plan}
use Rattle.replay.specs.Replay.{Replayed}
use Rattle.player.specs.Plays.{kind_with}
use Rattle.runfile.specs.Order.{Item}
use Rattle.carry.specs.Items.{head_in}
use Rattle.carry.specs.Playing.{IsUpTo}
use Rattle.carry.specs.Traffic.{IsRead}
use Rattle.carry.proofs.traffic.play_arrivals.Given as goal

-- the player is at some moment of the run, and whatever file is read, its reading has come there
abbrev pub invariant-loop-packet : goal.invariant-loop-packet
invariant-loop-packet g l =
    (plan : Plan) (first : g.row.R.Denot) (x : Replayed g.row.R.Denot) (before : List ℕ) (room : ℕ) →
    IsUpTo g.S.Store.lists g.S.Store.size plan x l.initial.player before (vec_items l.initial.out) room (vec_capacity l.initial.out) → x.switch.clock ≡ 0 →
    (y : Replayed g.row.R.Denot) × IsUpTo g.S.Store.lists g.S.Store.size plan y l.player before (vec_items l.out) room (vec_capacity l.out) × (y.switch.clock ≤ l.clock)
    × ((file : List ℕ) (is : List Item) → IsRead (kind_with g.S.NamedStore.sign g.R.TieRule.answer g.R.NamedRule.next first) file is l.initial.rest 0 plan x →
    (js : List Item) × IsRead (kind_with g.S.NamedStore.sign g.R.TieRule.answer g.R.NamedRule.next first) file js l.rest l.clock plan y × (head_in js ≡ head_in is))

abbrev pub decreases-loop-packet : goal.decreases-loop-packet
decreases-loop-packet g l = length l.rest.bytes.now
