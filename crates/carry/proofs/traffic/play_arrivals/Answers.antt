use Rattle.std.proofs.Common.{◌≡◌, ◌≤◌, ◌∷◌, Option, Ok, vec_items, vec_capacity, sym, refl, ap, ◌∙◌, arith}
use Rattle.std.proofs.lemmas.Result.{err_from_is_err_and}
use Rattle.replay.specs.Replay.{run_to, offered}
use Rattle.replay.proofs.Steps.{to_clock}
use Rattle.player.specs.Plays.{kind_with}
use Rattle.runfile.specs.Order.{arrival}
use Rattle.runfile.specs.Seen.{traffic_item, traffic_length}
use Rattle.runfile.specs.declared.body.Arrival.{Arrival}
use Rattle.runfile.specs.declared.record.Rest.{Rest}
use Rattle.runfile.proofs.Parts.{arrival_after}
use Rattle.carry.specs.Items.{arriving}
use Rattle.carry.proofs.Reading.{offered_clock, reader_lists, arrival_read_on, arrival_stops, end_read}
use Rattle.carry.proofs.traffic.play_arrivals.Goals as goal

pub loop-packet-init : goal.loop-packet-init
loop-packet-init g c plan first x before room at start = (x, at, omega (arith, start), λ file is read. (is, read, refl))

pub loop-packet-preserved : goal.loop-packet-preserved
loop-packet-preserved g c plan first x before room at start =
    let kind = kind_with g.S.NamedStore.sign g.R.TieRule.answer g.R.NamedRule.next first in
    let here = c.loop-packet.invariant plan first x before room at start in
    let y = here.0 in
    let rest = c.loop-packet.rest in
    let packet = c.in-Some.packet in
    let left = c.in-Some.left in
    let next = c.in_ok-packet.ensures.0 ∙ ap (λ (t : Option (Arrival × Rest)). Ok (traffic_item t)) c.in-Some.is in
    let size : left.length ≡ rest.length = ap (λ (t : Option (Arrival × Rest)). traffic_length t rest.length) (sym c.in-Some.is) ∙ c.in_ok-packet.ensures.1 in
    let late = arrival_after rest.length c.loop-packet.clock rest.bytes.now packet left.bytes.now next in
    let soon : y.switch.clock ≤ packet.tick = omega (arith, here.2, late) in
    let brought = c.in_ok-bring.ensures plan first y before room here.1 soon in
    let z = run_to plan kind packet.tick y in (
      offered plan kind (arriving packet) z,
      brought.1,
      omega (arith, offered_clock plan kind (arriving packet) z, to_clock plan kind packet.tick y soon),
      λ file is read.
          let was = here.3 file is read in
          (arrival packet ∷ was.0, arrival_read_on kind file was.0 rest c.loop-packet.clock plan y was.1 packet left next size brought.0, was.2),
    )

-- the reader refuses
pub returns-in_err-packet : goal.returns-in_err-packet
returns-in_err-packet g c plan first x before room at start =
    let kind = kind_with g.S.NamedStore.sign g.R.TieRule.answer g.R.NamedRule.next first in
    let p = err_from_is_err_and c.from_residual.result c.from_residual.ensures.1 in
    let here = c.loop-packet.invariant plan first x before room at start in
    let rest = c.loop-packet.rest in
    rw (p.1, p.2) (
      here.0,
      here.1.tells,
      λ file is read.
          let was = here.3 file is read in
          let lists = reader_lists kind file was.0 rest c.loop-packet.clock plan here.0 was.1 _ c.in_err-packet.ensures in
          (lists.0, lists.1, lists.2 ∙ was.2, lists.3),
    )

-- the end record
pub returns : goal.returns
returns g c plan first x before room at start =
    let kind = kind_with g.S.NamedStore.sign g.R.TieRule.answer g.R.NamedRule.next first in
    let here = c.loop-packet.invariant plan first x before room at start in
    let rest = c.loop-packet.rest in
    let next = c.in_ok-packet.ensures.0 ∙ ap (λ (t : Option (Arrival × Rest)). Ok (traffic_item t)) c.in_default.is in (
      here.0,
      here.1,
      λ file is read.
          let was = here.3 file is read in
          (was.0, end_read kind file was.0 rest c.loop-packet.clock plan here.0 was.1 next, was.1.plan_is, was.1.moment, was.2),
    )

-- an arrival stops the run
pub returns-in_err-bring : goal.returns-in_err-bring
returns-in_err-bring g c plan first x before room at start =
    let kind = kind_with g.S.NamedStore.sign g.R.TieRule.answer g.R.NamedRule.next first in
    let p = err_from_is_err_and c.from_residual-in_err-bring.result c.from_residual-in_err-bring.ensures.1 in
    let here = c.loop-packet.invariant plan first x before room at start in
    let y = here.0 in
    let rest = c.loop-packet.rest in
    let packet = c.in-Some.packet in
    let left = c.in-Some.left in
    let next = c.in_ok-packet.ensures.0 ∙ ap (λ (t : Option (Arrival × Rest)). Ok (traffic_item t)) c.in-Some.is in
    let late = arrival_after rest.length c.loop-packet.clock rest.bytes.now packet left.bytes.now next in
    let soon : y.switch.clock ≤ packet.tick = omega (arith, here.2, late) in
    let brought = c.in_err-bring.ensures plan first y before room here.1 soon in
    rw (p.1, p.2)
    (arrival_stops g.S.Store.lists g.S.Store.size kind plan x y c.args.rest rest c.loop-packet.clock here.3 packet left.bytes.now next c.place.result c.place.ensures
    c.bring.new.player before (vec_items c.bring.new.out) room (vec_capacity c.bring.new.out) c.in_err-bring.field-0.0 brought)
