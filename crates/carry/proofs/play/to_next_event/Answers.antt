use Rattle.std.proofs.Common.{◌≡◌, ℕ, ◌+◌, ◌<◌, vec_items, vec_capacity, sym, ap, ◌∙◌, subst, arith}
use Rattle.plan.specs.declared.fault.TheConstants.{LAST_TICK}
use Rattle.switch.specs.Calls.{state_of}
use Rattle.replay.specs.Replay.{Replayed, run_tick, run_ticks}
use Rattle.replay.proofs.Steps.{ticks_last, ticks_clock}
use Rattle.player.specs.Plays.{kind_with}
use Rattle.carry.specs.Playing.{IsUpTo, Reaches, ticks_with_next}
use Rattle.carry.proofs.Extends.{tells_same}
use Rattle.carry.proofs.play.to_next_event.Goals as goal

-- the limit is reached by quiet ticks
pub returns-then-clock-limit : goal.returns-then-clock-limit
returns-then-clock-limit g c plan first x before room at small =
    let kind = kind_with g.S.NamedStore.sign g.R.TieRule.answer g.R.NamedRule.next first in
    let k = c.pass_quiet.result in
    let y = run_ticks plan kind k x in
    let passed = c.pass_quiet.ensures.2 plan first x at.plays in
    let out = c.args.out.now in
    let q = c.pass_quiet.new.self in
    let clock = at.plays.switch.moment.shows.clock_is in
    let later = passed.0.switch.moment.shows.clock_is in
    let all : k ≡ ticks_with_next (state_of g.S.Store.lists c.args.player.now.running) c.args.limit =
    omega (arith, c.pass_quiet.ensures.0, clock, later, ticks_clock plan kind k x, passed.2, c.if-clock-limit.true, c.clock.ensures) in
    let up_to : IsUpTo g.S.Store.lists g.S.Store.size plan y q before (vec_items out) room (vec_capacity out) =
    record { plays = passed.0; tells = tells_same x y (passed.1.events k (omega arith)) before (vec_items out) room (vec_capacity out) _ at.tells } in (
      λ m l. passed.1.inside m (omega (arith, l, all)),
      subst (λ (n : ℕ). IsUpTo g.S.Store.lists g.S.Store.size plan (run_ticks plan kind n x) q before (vec_items out) room (vec_capacity out)) all up_to,
    )

-- a tick follows them
pub returns : goal.returns
returns g c plan first x before room at small =
    let kind = kind_with g.S.NamedStore.sign g.R.TieRule.answer g.R.NamedRule.next first in
    let k = c.pass_quiet.result in
    let y = run_ticks plan kind k x in
    let passed = c.pass_quiet.ensures.2 plan first x at.plays in
    let out = c.args.out.now in
    let new = c.tick.new.out in
    let clock = at.plays.switch.moment.shows.clock_is in
    let later = passed.0.switch.moment.shows.clock_is in
    let ticks = ticks_clock plan kind k x in
    let all : k + 1 ≡ ticks_with_next (state_of g.S.Store.lists c.args.player.now.running) c.args.limit =
    omega (arith, c.pass_quiet.ensures.0, clock, later, ticks, passed.2, c.if-clock-limit.false, c.clock.ensures) in
    let soon : y.switch.clock < LAST_TICK = omega (arith, later, c.if-clock-limit.false, c.clock.ensures, small) in
    let up_to : IsUpTo g.S.Store.lists g.S.Store.size plan y c.pass_quiet.new.self before (vec_items out) room (vec_capacity out) =
    record { plays = passed.0; tells = tells_same x y (passed.1.events k (omega arith)) before (vec_items out) room (vec_capacity out) _ at.tells } in
    let on : run_tick plan kind y ≡ run_ticks plan kind (ticks_with_next (state_of g.S.Store.lists c.args.player.now.running) c.args.limit) x =
    sym (ticks_last plan kind k x) ∙ ap (λ n. run_ticks plan kind n x) all in (
      λ m l. passed.1.inside m (omega (arith, l, all)),
      subst (λ (z : Replayed g.row.R.Denot). Reaches g.S.Store.lists g.S.Store.size plan z c.tick.new.player before (vec_items new) room (vec_capacity new) c.tick.result) on
          (c.tick.ensures plan first y before room up_to soon),
    )
