use Rattle.std.proofs.Common.{arith}
use Rattle.std.proofs.lemmas.List.{take_all}
use Rattle.std.proofs.lemmas.List.Folds.{flat_map-map}
use Rattle.std.proofs.lemmas.Result.{err_from_is_err_and}
use Rattle.listing.specs.Line.{departure_text}
use Rattle.replay.specs.Events.{left}
use Rattle.carry.specs.Lines.{event_line}
use Rattle.carry.proofs.Grows.{each_fails}
use Rattle.carry.proofs.lines.push_departures.Goals as goal

pub returns-in_err-push : goal.returns-in_err-push
returns-in_err-push c =
    let p = err_from_is_err_and c.from_residual.result c.from_residual.ensures.1 in
    rw (p.1, flat_map-map event_line left c.args.departures.now)
    (each_fails departure_text _ _ _ _ _ _ _ _ _ c.loop-departure-test.true c.loop-departure.invariant c.in_err-push.ensures)

pub returns : goal.returns
returns c =
    let ds = c.args.departures.now in
    let all = take_all c.loop-departure.departure-index ds (omega (arith, c.loop-departure-test.false)) in
    rw (flat_map-map event_line left ds) (rw all at c.loop-departure.invariant)
