use Rattle.std.proofs.Common.{true, take, vec_items, vec_capacity}
use Rattle.std.specs.List.{flat_map}
use Rattle.listing.specs.Line.{departure_text}
use Rattle.carry.specs.Lists.{Appends}
use Rattle.carry.proofs.lines.push_departures.Given as goal

abbrev pub invariant-loop-departure : goal.invariant-loop-departure
invariant-loop-departure l =
    Appends (flat_map departure_text (take l.departure-index l.departures))
    (vec_items l.initial.out) (vec_items l.out) (vec_capacity l.initial.out) (vec_capacity l.out) true
