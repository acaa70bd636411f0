use Rattle.std.proofs.Common.{◌≡◌, ◌+◌, ◌-◌, ◌<◌, ◌≤◌, vec_items, vec_capacity, sym, ◌∙◌, subst, arith}
use Rattle.std.proofs.lemmas.Result.{err_from_is_err_and}
use Rattle.plan.specs.declared.fault.TheConstants.{LAST_TICK}
use Rattle.switch.specs.Calls.{state_of}
use Rattle.law.specs.Runs.{all_inside}
use Rattle.replay.specs.Replay.{Replayed, run_ticks, run_out}
use Rattle.player.specs.Plays.{kind_with}
use Rattle.carry.specs.Playing.{IsUpTo, ticks_with_next}
use Rattle.carry.proofs.Advanced.{since, since_itself, no_earlier, clock_later, since_later, out_at_first, out_ends, out_at_last, out_later, out_on_later}
use Rattle.carry.proofs.Extends.{Extends, out_extends, tells_none}
use Rattle.carry.proofs.play.run_out.Goals.{then-inside-eq0-via-then-inside-eq0, then-inside-eq0-via-else-inside-eq0+then-clock-ge-LAST_TICK}
use Rattle.carry.proofs.play.run_out.Goals as goal

pub loop-init : goal.loop-init
loop-init g c plan first x before room at =
    let kind = kind_with g.S.NamedStore.sign g.R.TieRule.answer g.R.NamedRule.next first in
    let lists = g.S.Store.lists in
    let size = g.S.Store.size in
    let out = c.args.out.now in
    let p = c.args.player.now in (
      subst (λ (y : Replayed g.row.R.Denot). IsUpTo lists size plan y p before (vec_items out) room (vec_capacity out)) (sym (since_itself lists size plan kind x p at.plays)) at,
      omega arith,
      out_at_first lists size plan kind x p at.plays,
    )

pub loop-preserved : goal.loop-preserved
loop-preserved g c plan first x before room at =
    let kind = kind_with g.S.NamedStore.sign g.R.TieRule.answer g.R.NamedRule.next first in
    let lists = g.S.Store.lists in
    let size = g.S.Store.size in
    let p = c.loop.player in
    let q = c.to_next_event.new.player in
    let out = c.to_next_event.new.out in
    let k = ticks_with_next (state_of lists p.running) LAST_TICK in
    let here = c.loop.invariant plan first x before room at in
    let on = c.in_ok-to_next_event.ensures plan first (since lists size plan kind x p) before room here.0 (omega arith) in
    let clock = clock_later lists size plan kind x p here.0.plays k q on.1.plays in
    let early : p.running.clock < LAST_TICK = omega (arith, c.if-clock-ge-LAST_TICK.false, c.clock-else-inside-eq0.ensures) in
    let some : all_inside plan (since lists size plan kind x p).switch ≡ 0 → ⊥ = λ none. c.if-inside-eq0.false (c.inside.ensures ∙ here.0.plays.inside ∙ none) in (
      subst (λ (y : Replayed g.row.R.Denot). IsUpTo lists size plan y q before (vec_items out) room (vec_capacity out)) (since_later lists size plan kind x p here.0.plays k q on.1.plays) on.1,
      omega (arith, here.1, clock, early, no_earlier lists size plan kind x p here.0.plays),
      out_on_later lists size plan kind x p here.0.plays k q on.1.plays (out_later lists size plan kind x p here.0.plays k here.2 (omega (arith, early)) some on.0),
    )

pub returns-then-inside-eq0 : goal.returns-then-inside-eq0
returns-then-inside-eq0 g c plan first x before room at soon =
    let kind = kind_with g.S.NamedStore.sign g.R.TieRule.answer g.R.NamedRule.next first in
    let lists = g.S.Store.lists in
    let size = g.S.Store.size in
    let p = c.loop.player in
    let out = c.loop.out in
    let here = c.loop.invariant plan first x before room at in
    let ends : run_out plan kind (LAST_TICK - x.switch.clock) x ≡ since lists size plan kind x p =
    elim c.then-inside-eq0.branch [
      | then-inside-eq0-via-then-inside-eq0 w ↦ out_ends lists size plan kind x p here.0.plays here.2 (sym here.0.plays.inside ∙ sym c.inside.ensures ∙ w.if-inside-eq0.true)
      | then-inside-eq0-via-else-inside-eq0+then-clock-ge-LAST_TICK w ↦ out_at_last lists size plan kind x p here.0.plays here.2 (omega (arith, w.if-clock-ge-LAST_TICK.true, w.clock-else-inside-eq0.ensures))
    ] in
    subst (λ (y : Replayed g.row.R.Denot). IsUpTo lists size plan y p before (vec_items out) room (vec_capacity out)) (sym ends) here.0

pub returns : goal.returns
returns g c plan first x before room at soon =
    let kind = kind_with g.S.NamedStore.sign g.R.TieRule.answer g.R.NamedRule.next first in
    let lists = g.S.Store.lists in
    let size = g.S.Store.size in
    let p = c.loop.player in
    let out = c.loop.out in
    let here = c.loop.invariant plan first x before room at in
    let late : LAST_TICK ≤ p.running.clock = omega (arith, here.1, at.plays.switch.moment.shows.clock_is, c.clock.ensures, no_earlier lists size plan kind x p here.0.plays) in
    subst (λ (y : Replayed g.row.R.Denot). IsUpTo lists size plan y p before (vec_items out) room (vec_capacity out)) (sym (out_at_last lists size plan kind x p here.0.plays here.2 late)) here.0

pub returns-in_err-to_next_event : goal.returns-in_err-to_next_event
returns-in_err-to_next_event g c plan first x before room at soon =
    let e = err_from_is_err_and c.from_residual.result c.from_residual.ensures.1 in
    let kind = kind_with g.S.NamedStore.sign g.R.TieRule.answer g.R.NamedRule.next first in
    let lists = g.S.Store.lists in
    let size = g.S.Store.size in
    let p = c.loop.player in
    let out = c.to_next_event.new.out in
    let k = ticks_with_next (state_of lists p.running) LAST_TICK in
    let here = c.loop.invariant plan first x before room at in
    let on = c.in_err-to_next_event.ensures plan first (since lists size plan kind x p) before room here.0 (omega arith) in
    let y = run_ticks plan kind k (since lists size plan kind x p) in
    let early : p.running.clock < LAST_TICK = omega (arith, c.if-clock-ge-LAST_TICK.false, c.clock-else-inside-eq0.ensures) in
    let some : all_inside plan (since lists size plan kind x p).switch ≡ 0 → ⊥ = λ none. c.if-inside-eq0.false (c.inside.ensures ∙ here.0.plays.inside ∙ none) in
    let rest = out_later lists size plan kind x p here.0.plays k here.2 (omega (arith, early)) some on.0 in
    let whole = subst (Extends y) (sym rest) (out_extends plan kind (LAST_TICK - (p.running.clock + k)) y) in
    rw e.1 (tells_none y (run_out plan kind (LAST_TICK - x.switch.clock) x) before (vec_items out) room (vec_capacity out) whole on.1)
