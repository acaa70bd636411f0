use Rattle.std.proofs.Common.{◌≡◌, ℕ, ◌+◌, ◌-◌, ◌<◌, ◌≤◌, false, vec_items, vec_capacity, sym, subst, arith}
use Rattle.std.proofs.lemmas.Result.{err_from_is_err_and}
use Rattle.switch.specs.Calls.{state_of}
use Rattle.replay.specs.Replay.{Replayed, run_ticks, run_to}
use Rattle.player.specs.Plays.{kind_with}
use Rattle.carry.specs.Playing.{IsUpTo, Tells, ticks_with_next}
use Rattle.carry.proofs.Advanced.{since, since_itself, no_earlier, ticks_in_all, clock_later, since_later}
use Rattle.carry.proofs.Extends.{ticks_extend_on, tells_none}
use Rattle.carry.proofs.play.run_to.Goals as goal

pub loop-init : goal.loop-init
loop-init g c plan first x before room at small =
    let kind = kind_with g.S.NamedStore.sign g.R.TieRule.answer g.R.NamedRule.next first in
    let out = c.args.out.now in
    let p = c.args.player.now in (
      subst (λ (y : Replayed g.row.R.Denot). IsUpTo g.S.Store.lists g.S.Store.size plan y p before (vec_items out) room (vec_capacity out)) (sym (since_itself g.S.Store.lists g.S.Store.size plan kind x p at.plays)) at,
      omega arith,
      omega (arith, at.plays.switch.moment.shows.clock_is),
    )

pub loop-preserved : goal.loop-preserved
loop-preserved g c plan first x before room at small =
    let kind = kind_with g.S.NamedStore.sign g.R.TieRule.answer g.R.NamedRule.next first in
    let lists = g.S.Store.lists in
    let size = g.S.Store.size in
    let p = c.loop.player in
    let q = c.to_next_event.new.player in
    let out = c.to_next_event.new.out in
    let k = ticks_with_next (state_of lists p.running) c.args.until in
    let here = c.loop.invariant plan first x before room at small in
    let on = c.in_ok-to_next_event.ensures plan first (since lists size plan kind x p) before room here.0 small in
    let clock = clock_later lists size plan kind x p here.0.plays k q on.1.plays in
    let early : p.running.clock < c.args.until = omega (arith, c.if-clock-until.false, c.clock-in-loop.ensures) in (
      subst (λ (y : Replayed g.row.R.Denot). IsUpTo lists size plan y q before (vec_items out) room (vec_capacity out)) (since_later lists size plan kind x p here.0.plays k q on.1.plays) on.1,
      omega (arith, here.1, clock, early, no_earlier lists size plan kind x p here.0.plays),
      omega (arith, clock, early),
    )

pub returns-then-clock-until : goal.returns-then-clock-until
returns-then-clock-until g c plan first x before room at small =
    let kind = kind_with g.S.NamedStore.sign g.R.TieRule.answer g.R.NamedRule.next first in
    let here = c.loop.invariant plan first x before room at small in
    let all : c.loop.player.running.clock - x.switch.clock ≡ c.args.until - x.switch.clock =
    omega (arith, here.2, c.if-clock-until.true, c.clock-in-loop.ensures, c.loop-test.true, c.clock.ensures, at.plays.switch.moment.shows.clock_is) in
    let out = c.loop.out in
    subst (λ (n : ℕ). IsUpTo g.S.Store.lists g.S.Store.size plan (run_ticks plan kind n x) c.loop.player before (vec_items out) room (vec_capacity out)) all here.0

pub returns : goal.returns
returns g c plan first x before room at small =
    let kind = kind_with g.S.NamedStore.sign g.R.TieRule.answer g.R.NamedRule.next first in
    let here = c.loop.invariant plan first x before room at small in
    let all : c.loop.player.running.clock - x.switch.clock ≡ c.args.until - x.switch.clock =
    omega (arith, here.1, here.2, c.clock.ensures, at.plays.switch.moment.shows.clock_is) in
    let out = c.loop.out in
    subst (λ (n : ℕ). IsUpTo g.S.Store.lists g.S.Store.size plan (run_ticks plan kind n x) c.loop.player before (vec_items out) room (vec_capacity out)) all here.0

pub returns-in_err-to_next_event : goal.returns-in_err-to_next_event
returns-in_err-to_next_event g c plan first x before room at small =
    let e = err_from_is_err_and c.from_residual.result c.from_residual.ensures.1 in
    let kind = kind_with g.S.NamedStore.sign g.R.TieRule.answer g.R.NamedRule.next first in
    let lists = g.S.Store.lists in
    let size = g.S.Store.size in
    let p = c.loop.player in
    let out = c.to_next_event.new.out in
    let k = ticks_with_next (state_of lists p.running) c.args.until in
    let m = p.running.clock - x.switch.clock in
    let here = c.loop.invariant plan first x before room at small in
    let on = c.in_err-to_next_event.ensures plan first (since lists size plan kind x p) before room here.0 small in
    let none : Tells (run_ticks plan kind (m + k) x) before (vec_items out) room (vec_capacity out) false =
    subst (λ (y : Replayed g.row.R.Denot). Tells y before (vec_items out) room (vec_capacity out) false) (ticks_in_all lists size plan kind x p here.0.plays k) on.1 in
    let few : m + k ≤ c.args.until - x.switch.clock = omega (arith, c.if-clock-until.false, c.clock-in-loop.ensures, no_earlier lists size plan kind x p here.0.plays) in
    rw e.1 (tells_none (run_ticks plan kind (m + k) x) (run_to plan kind c.args.until x) before (vec_items out) room (vec_capacity out) (ticks_extend_on plan kind (m + k) (c.args.until - x.switch.clock) x few) none)
