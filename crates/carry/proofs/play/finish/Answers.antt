use Rattle.std.proofs.Common.{ℕ, ◌-◌, true, false, List, ◌++◌, vec_items, vec_capacity, subst}
use Rattle.std.specs.Result.{is_ok}
use Rattle.std.proofs.lemmas.Result.{err_from_is_err_and}
use Rattle.plan.specs.declared.fault.TheConstants.{LAST_TICK}
use Rattle.replay.specs.Replay.{run_out}
use Rattle.replay.specs.Events.{events_of}
use Rattle.player.specs.Plays.{kind_with}
use Rattle.carry.specs.Lines.{event_lines, peak_lines, last_line}
use Rattle.carry.specs.Lists.{Appends}
use Rattle.carry.proofs.Grows.{append_fails, append_then}
use Rattle.carry.proofs.Finished.{end_of, settles, same_peaks}
use Rattle.carry.proofs.play.finish.Goals as goal

pub push_peaks-requires : goal.push_peaks-requires
push_peaks-requires g c =
    let at = c.requires in
    let x = at.1 in
    let kind = kind_with g.S.NamedStore.sign g.R.TieRule.answer g.R.NamedRule.next c.args.player.running.rule in
    let y = run_out at.0 kind (LAST_TICK - x.switch.clock) x in
    let ended = c.in_ok-run_out.ensures at.0 c.args.player.running.rule x at.2 at.3 at.4 tt in
    record { settled = (y.switch, settles g.S.Store.lists g.S.Store.size at.0 y c.run_out.new.player ended.plays c.settle.result c.settle.ensures) }

pub returns-in_err-run_out : goal.returns-in_err-run_out
returns-in_err-run_out g c plan first x before room at few =
    let kind = kind_with g.S.NamedStore.sign g.R.TieRule.answer g.R.NamedRule.next first in
    let p = err_from_is_err_and c.from_residual.result c.from_residual.ensures.1 in
    let y = run_out plan kind (LAST_TICK - x.switch.clock) x in
    let out = c.run_out.new.out in
    rw p.1 (append_fails (event_lines (events_of y.log)) (peak_lines plan y.switch ++ last_line y) before (vec_items out) room (vec_capacity out) (c.in_err-run_out.ensures plan first x before room at tt))

pub returns-in_err-push_peaks : goal.returns-in_err-push_peaks
returns-in_err-push_peaks g c plan first x before room at few =
    let kind = kind_with g.S.NamedStore.sign g.R.TieRule.answer g.R.NamedRule.next first in
    let p = err_from_is_err_and c.from_residual-in_err-push_peaks.result c.from_residual-in_err-push_peaks.ensures.1 in
    let y = run_out plan kind (LAST_TICK - x.switch.clock) x in
    let out = c.run_out.new.out in
    let after = c.push_peaks.new.out in
    let ended = c.in_ok-run_out.ensures plan first x before room at tt in
    let settled = settles g.S.Store.lists g.S.Store.size plan y c.run_out.new.player ended.plays c.settle.result c.settle.ensures in
    let none : Appends (peak_lines plan y.switch) (vec_items out) (vec_items after) (vec_capacity out) (vec_capacity after) false =
    subst (λ (text : List ℕ). Appends text (vec_items out) (vec_items after) (vec_capacity out) (vec_capacity after) false) (same_peaks g.S.Store.lists g.S.Store.size plan y c.run_out.new.player ended.plays c.settle.result c.settle.ensures)
    (c.in_err-push_peaks.ensures y.switch settled) in
    rw p.1
    (append_then (event_lines (events_of y.log)) (peak_lines plan y.switch ++ last_line y) before (vec_items out) (vec_items after) room (vec_capacity out) (vec_capacity after) false ended.tells
    (append_fails (peak_lines plan y.switch) (last_line y) (vec_items out) (vec_items after) (vec_capacity out) (vec_capacity after) none))

pub returns : goal.returns
returns g c plan first x before room at few =
    let kind = kind_with g.S.NamedStore.sign g.R.TieRule.answer g.R.NamedRule.next first in
    let y = run_out plan kind (LAST_TICK - x.switch.clock) x in
    let out = c.run_out.new.out in
    let mid = c.push_peaks.new.out in
    let after = c.push.new.out in
    let ok = is_ok c.push.result in
    let ended = c.in_ok-run_out.ensures plan first x before room at tt in
    let settled = settles g.S.Store.lists g.S.Store.size plan y c.run_out.new.player ended.plays c.settle.result c.settle.ensures in
    let peaks : Appends (peak_lines plan y.switch) (vec_items out) (vec_items mid) (vec_capacity out) (vec_capacity mid) true =
    subst (λ (text : List ℕ). Appends text (vec_items out) (vec_items mid) (vec_capacity out) (vec_capacity mid) true) (same_peaks g.S.Store.lists g.S.Store.size plan y c.run_out.new.player ended.plays c.settle.result c.settle.ensures)
    (c.in_ok-push_peaks.ensures y.switch settled) in
    let last : Appends (last_line y) (vec_items mid) (vec_items after) (vec_capacity mid) (vec_capacity after) ok =
    subst (λ (text : List ℕ). Appends text (vec_items mid) (vec_items after) (vec_capacity mid) (vec_capacity after) ok)
    (end_of g.S.Store.lists g.S.Store.size plan y c.run_out.new.player ended.plays c.clock.result c.bytes.result c.clock.ensures c.bytes.ensures few) c.push.ensures in
    append_then (event_lines (events_of y.log)) (peak_lines plan y.switch ++ last_line y) before (vec_items out) (vec_items after) room (vec_capacity out) (vec_capacity after) ok ended.tells
    (append_then (peak_lines plan y.switch) (last_line y) (vec_items out) (vec_items mid) (vec_items after) (vec_capacity out) (vec_capacity mid) (vec_capacity after) ok peaks last)
