use Rattle.std.proofs.Common.{ℕ, List, get_or, ap, inl, inr, arith, MutBor, rules}
use Rattle.grid.proofs.Sums.{sum_at_least}
use Rattle.pool.specs.Queues.{lengths}
use Rattle.pool.specs.declared.links.Links.{Links}
use Rattle.pool.specs.declared.links.Queue.{Queue}
use Rattle.pool.proofs.Parts.{first_at, target_count, target_last, joined, LinksAfter, Links_wrote, joined_long, joined_total, joined_after}
use Rattle.pool.proofs.links.Links.shift.Goals as goal
use Rattle.pool.proofs.links.Links.shift.Goals.{then-target-eq0, else-target-eq0, Joined-target-eq0}

-- the links with their lists, where the two ways meet
abbrev Parts : Type 0
Parts = MutBor Links × (List ℕ × (List Queue × Unit {0}))

wrote : (c : goal.Joined-target-eq0) → Links_wrote c.args.self.now c.args.from c.args.to c.if-target-eq0.self.1.0 c.if-target-eq0.first
wrote c =
    elim c.if-target-eq0.branch [
      | then-target-eq0 w ↦ inl (w.if-target-eq0.true, ap (λ (t : Parts). t.1.0) w.self-is, w.first-is)
      | else-target-eq0 w ↦ inr (omega (arith, w.if-target-eq0.false), ap (λ (t : Parts). t.1.0) w.self-is, w.first-is)
    ]

pub bounds-self-cell : goal.bounds-self-cell
bounds-self-cell c = omega (arith, first_at c.args.self.now.queues c.args.from, c.args.self.now.firsts c.args.from)

pub offset_bounds-self-cell : goal.offset_bounds-self-cell
offset_bounds-self-cell c = let inside = bounds-self-cell c in search rules

pub bounds-self-target : goal.bounds-self-target
bounds-self-target c =
    omega (arith, target_last c.args.self.now c.args.from c.args.to c.requires.other, c.args.self.now.lasts c.args.to)

pub offset_bounds-self-target : goal.offset_bounds-self-target
offset_bounds-self-target c = let inside = bounds-self-target c in search rules

pub overflow_add-self : goal.overflow_add-self
overflow_add-self c =
    let links = c.args.self.now in
    let most = sum_at_least 257 c.args.to (λ q. get_or (lengths links.queues) q 0) c.requires.target in
    let same = target_count links c.args.from c.args.to c.requires.other in
    let total = links.total in
    search rules

after : (c : goal.Joined-target-eq0) → LinksAfter c.args.self.now c.if-target-eq0.self.1.0 (joined c.args.self.now c.args.from c.args.to c.if-target-eq0.first) c.args.from c.args.to
after c =
    joined_after c.args.self.now c.args.from c.args.to c.requires.other c.requires.source c.requires.target c.requires.some
    c.if-target-eq0.self.1.0 c.if-target-eq0.first (search rules) (wrote c)

pub invariant_of-self : goal.invariant_of-self
invariant_of-self c =
    let j = (goal.at.invariant_of-self c).Joined-target-eq0 in
    let f = j.if-target-eq0.first in
    let a = after j in
    record {
      long = joined_long c.args.self.now c.args.from c.args.to c.requires.other c.requires.source c.requires.target c.requires.some f;
      nexts = a.nexts;
      firsts = a.firsts;
      lasts = a.lasts;
      queued = a.queues;
      places = a.places;
      ended = a.ended;
      total = joined_total c.args.self.now c.args.from c.args.to c.requires.other c.requires.source c.requires.target c.requires.some f;
    }

pub returns : goal.returns
returns c = (after (goal.at.returns c).Joined-target-eq0).shifted
