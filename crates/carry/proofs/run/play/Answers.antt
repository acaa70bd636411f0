use Rattle.std.proofs.Common.{vec_items, vec_capacity, refl, ◌∙◌}
use Rattle.std.proofs.lemmas.Result.{err_from_is_err_and}
use Rattle.law.specs.Plans.{plan_of}
use Rattle.state.proofs.ShownFlows.{plan_bookable}
use Rattle.replay.specs.Replay.{at_start}
use Rattle.player.specs.Plays.{kind_with}
use Rattle.carry.proofs.Sealed.{starts, start_read, stops, ended_lists, ended_few}
use Rattle.carry.proofs.run.play.Goals as goal

pub returns-in_err-play_arrivals : goal.returns-in_err-play_arrivals
returns-in_err-play_arrivals g c file h booked =
    let draft = c.args.draft in
    let plan = plan_of draft.plan in
    let kind = kind_with g.S.NamedStore.sign g.R.TieRule.answer g.R.NamedRule.next draft.rule in
    let out = c.args.out.now in
    let after = c.play_arrivals.new.out in
    let p = err_from_is_err_and c.from_residual.result c.from_residual.ensures.1 in
    let begun = starts g.S.Store.lists g.S.Store.size kind plan c.new-player.result c.new-player.ensures (vec_items out) (vec_capacity out) in
    let stopped = c.in_err-play_arrivals.ensures plan draft.rule (at_start plan kind) (vec_items out) (vec_capacity out) begun refl in
    rw (p.1, p.2)
    (stops g.S.Store.lists g.S.Store.size kind file h draft.plan c.args.rest booked c.play_arrivals.new.player out after c.in_err-play_arrivals.field-0.0 stopped)

pub finish-requires : goal.finish-requires
finish-requires g c =
    let draft = c.args.draft in
    let plan = plan_of draft.plan in
    let kind = kind_with g.S.NamedStore.sign g.R.TieRule.answer g.R.NamedRule.next draft.rule in
    let out = c.args.out.now in
    let begun = starts g.S.Store.lists g.S.Store.size kind plan c.new-player.result c.new-player.ensures (vec_items out) (vec_capacity out) in
    let there = c.in_ok-play_arrivals.ensures plan draft.rule (at_start plan kind) (vec_items out) (vec_capacity out) begun refl in
    (plan, there.0, vec_items out, vec_capacity out, there.1)

pub returns-in_err-finish : goal.returns-in_err-finish
returns-in_err-finish g c file h booked =
    let draft = c.args.draft in
    let plan = plan_of draft.plan in
    let kind = kind_with g.S.NamedStore.sign g.R.TieRule.answer g.R.NamedRule.next draft.rule in
    let out = c.args.out.now in
    let p = err_from_is_err_and c.from_residual-in_err-finish.result c.from_residual-in_err-finish.ensures.1 in
    let begun = starts g.S.Store.lists g.S.Store.size kind plan c.new-player.result c.new-player.ensures (vec_items out) (vec_capacity out) in
    let there = c.in_ok-play_arrivals.ensures plan draft.rule (at_start plan kind) (vec_items out) (vec_capacity out) begun refl in
    let y = there.0 in
    let read = there.2 file booked.items (start_read g.S.Store.lists g.S.Store.size kind file h draft.plan c.args.rest booked) in
    let few =
    ended_few kind file read.0 read.1 plan read.2 y read.3 (g.S.Store.size draft.store.store) g.S.NamedStore.flow_most (plan_bookable draft.plan) (g.met.S.NamedStore.fits draft.store.store plan (plan_bookable draft.plan)) g.met.R.TieRule.picks_tied
    there.1.plays.switch.moment.shows.early in
    rw (p.1, p.2) (
      _,
      ended_lists kind file read.0 read.1 plan read.2 y read.3 h (read.4 ∙ booked.head_is),
      c.in_err-finish.ensures plan draft.rule y (vec_items out) (vec_capacity out) there.1 few,
    )

pub returns : goal.returns
returns g c file h booked =
    let draft = c.args.draft in
    let plan = plan_of draft.plan in
    let kind = kind_with g.S.NamedStore.sign g.R.TieRule.answer g.R.NamedRule.next draft.rule in
    let out = c.args.out.now in
    let begun = starts g.S.Store.lists g.S.Store.size kind plan c.new-player.result c.new-player.ensures (vec_items out) (vec_capacity out) in
    let there = c.in_ok-play_arrivals.ensures plan draft.rule (at_start plan kind) (vec_items out) (vec_capacity out) begun refl in
    let y = there.0 in
    let read = there.2 file booked.items (start_read g.S.Store.lists g.S.Store.size kind file h draft.plan c.args.rest booked) in
    let few =
    ended_few kind file read.0 read.1 plan read.2 y read.3 (g.S.Store.size draft.store.store) g.S.NamedStore.flow_most (plan_bookable draft.plan) (g.met.S.NamedStore.fits draft.store.store plan (plan_bookable draft.plan)) g.met.R.TieRule.picks_tied
    there.1.plays.switch.moment.shows.early in (
      _,
      ended_lists kind file read.0 read.1 plan read.2 y read.3 h (read.4 ∙ booked.head_is),
      c.in_ok-finish.ensures plan draft.rule y (vec_items out) (vec_capacity out) there.1 few,
    )
