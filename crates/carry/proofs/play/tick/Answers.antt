use Rattle.std.proofs.Common.{◌+◌, List, map, refl, ◌∙◌, subst}
use Rattle.std.specs.Result.{is_ok}
use Rattle.std.specs.Vec.{vec_items, vec_capacity}
use Rattle.departure.specs.declared.Departure.{Departure}
use Rattle.law.specs.Runs.{leaves}
use Rattle.replay.specs.Events.{left}
use Rattle.replay.specs.Replay.{run_tick}
use Rattle.player.specs.Plays.{kind_with}
use Rattle.carry.specs.Lines.{event_lines}
use Rattle.carry.specs.Lists.{Appends}
use Rattle.carry.proofs.Played.{reaches}
use Rattle.carry.proofs.play.tick.Goals as goal

pub returns : goal.returns
returns g c plan first x before room at soon =
    let kind = kind_with g.S.NamedStore.sign g.R.TieRule.answer g.R.NamedRule.next first in
    let y = run_tick plan kind x in
    let ticked = c.tick.ensures plan first x at.plays soon in
    let out = c.args.out.now in
    let new = c.push_departures.new.out in
    reaches g.S.Store.lists g.S.Store.size plan c.push_departures.result x y c.tick.new.self (map left (leaves plan y.switch x.switch.clock (x.switch.clock + 1))) refl before _ _ room _ _ ticked.0 at.tells
    (subst (λ (ds : List Departure). Appends (event_lines (map left ds)) (vec_items out) (vec_items new) (vec_capacity out) (vec_capacity new) (is_ok c.push_departures.result)) (c.departures.ensures ∙ ticked.1) c.push_departures.ensures)
