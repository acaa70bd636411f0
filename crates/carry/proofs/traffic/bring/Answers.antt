use Rattle.std.proofs.Common.{◌⊎◌, None, ◌≡◌, ◌≤◌, ℕ, true, false, vec_items, vec_capacity, Option, Some, Ok, Err, inl, inr, sym, ap, ◌∙◌, subst, arith}
use Rattle.std.proofs.lemmas.Result.{err_from_is_err_and}
use Rattle.std.specs.Option.{option_map}
use Rattle.plan.specs.declared.fault.ArriveFault.{ArriveFault}
use Rattle.plan.specs.declared.fault.TheConstants.{LAST_TICK}
use Rattle.replay.specs.Events.{turned_away}
use Rattle.replay.specs.Replay.{Arrival, offered, run_to}
use Rattle.replay.proofs.Steps.{to_clock}
use Rattle.player.specs.Plays.{Answers, kind_with}
use Rattle.runfile.specs.Records.{fault_at}
use Rattle.runfile.specs.declared.fault.Cause.TheVariants as cause
use Rattle.runfile.specs.declared.fault.Fault.{Fault}
use Rattle.carry.specs.Items.{arriving}
use Rattle.carry.specs.Lines.{event_line}
use Rattle.carry.specs.Lists.{Appends}
use Rattle.carry.specs.Playing.{Tells}
use Rattle.carry.specs.Traffic.{refused_by, Brought}
use Rattle.carry.specs.declared.stop.Stop.TheVariants.{Refused}
use Rattle.carry.proofs.Brought.{clock_as_told, accepted, turned, unlawful}
use Rattle.carry.proofs.traffic.bring.Goals as goal

pub returns-in_default : goal.returns-in_default
returns-in_default g c plan first x before room at soon =
    let kind = kind_with g.S.NamedStore.sign g.R.TieRule.answer g.R.NamedRule.next first in
    let packet = c.args.packet in
    let t = c.from.result in
    let same : c.from.result ≡ packet.tick = c.from.ensures in
    let early : t ≤ LAST_TICK = omega (arith, same) in
    let y = run_to plan kind t x in
    let here = c.in_ok-run_to.ensures plan first x before room at early in
    let out = c.run_to.new.out in
    let told : Arrival = record { tick = t; input = c.from-2.result; output = c.from-3.result; bytes = c.from-4.result } in
    let is : told ≡ arriving packet = (let i = c.from-2.ensures in let j = c.from-3.ensures in let b = c.from-4.ensures in cc) in
    subst (λ (a : Arrival). Brought g.S.Store.lists g.S.Store.size plan kind (run_to plan kind a.tick x) a c.arrive.new.self c.args.place before (vec_items out) room (vec_capacity out) (Ok c.in_default.field-0)) is
    (accepted g.S.Store.lists g.S.Store.size g.S.NamedStore.sign g.R.TieRule.answer g.R.NamedRule.next first plan y c.arrive.new.self told c.in_default.field-0 (c.in_default.ensures plan first y here.plays t) before (vec_items out) room (vec_capacity out) here.tells)

pub returns-in_err-run_to : goal.returns-in_err-run_to
returns-in_err-run_to g c plan first x before room at soon =
    let p = err_from_is_err_and c.from_residual.result c.from_residual.ensures.1 in
    let kind = kind_with g.S.NamedStore.sign g.R.TieRule.answer g.R.NamedRule.next first in
    let same : c.from.result ≡ c.args.packet.tick = c.from.ensures in
    let early : c.from.result ≤ LAST_TICK = omega (arith, same) in
    let out = c.run_to.new.out in
    rw (p.1, p.2)
    (inl (subst (λ (t : ℕ). Tells (run_to plan kind t x) before (vec_items out) room (vec_capacity out) false) same (c.in_err-run_to.ensures plan first x before room at early)))

pub returns-in_ok-push_turned_away-in-Full : goal.returns-in_ok-push_turned_away-in-Full
returns-in_ok-push_turned_away-in-Full g c plan first x before room at soon =
    let kind = kind_with g.S.NamedStore.sign g.R.TieRule.answer g.R.NamedRule.next first in
    let packet = c.args.packet in
    let t = c.from.result in
    let same : c.from.result ≡ packet.tick = c.from.ensures in
    let early : t ≤ LAST_TICK = omega (arith, same) in
    let y = run_to plan kind t x in
    let here = c.in_ok-run_to.ensures plan first x before room at early in
    let out = c.run_to.new.out in
    let told : Arrival = record { tick = t; input = c.from-2.result; output = c.from-3.result; bytes = c.from-4.result } in
    let is : told ≡ arriving packet = (let i = c.from-2.ensures in let j = c.from-3.ensures in let b = c.from-4.ensures in cc) in
    let after = c.push_turned_away.new.out in
    let clock = clock_as_told g.S.Store.lists g.S.Store.size plan y c.run_to.new.player here.plays ∙ to_clock plan kind t x (omega (arith, soon, same)) in
    let full = subst (λ (f : ArriveFault). Answers g.S.Store.lists g.S.Store.size g.S.NamedStore.sign g.R.TieRule.answer g.R.NamedRule.next plan first y c.arrive.new.self told (Err f)) c.in-Full.is (c.in-Err.ensures plan first y here.plays t) in
    let line = subst (λ (a : Arrival). Appends (event_line (turned_away a)) (vec_items out) (vec_items after) (vec_capacity out) (vec_capacity after) true) (sym is) c.in_ok-push_turned_away-in-Full.ensures in
    let away =
    turned g.S.Store.lists g.S.Store.size g.S.NamedStore.sign g.R.TieRule.answer g.R.NamedRule.next first plan y c.arrive.new.self told full clock
    before (vec_items out) (vec_items after) room (vec_capacity out) (vec_capacity after) true here.tells line in
    subst (λ (a : Arrival). Brought g.S.Store.lists g.S.Store.size plan kind (run_to plan kind a.tick x) a c.arrive.new.self c.args.place before (vec_items after) room (vec_capacity after) (Ok c.in_ok-push_turned_away-in-Full.field-0)) is
    (away.0, record { plays = away.2; tells = away.1 })

pub returns-in_err-push_turned_away-in-Full : goal.returns-in_err-push_turned_away-in-Full
returns-in_err-push_turned_away-in-Full g c plan first x before room at soon =
    let p = err_from_is_err_and c.from_residual-in_err-push_turned_away-in-Full.result c.from_residual-in_err-push_turned_away-in-Full.ensures.1 in
    let kind = kind_with g.S.NamedStore.sign g.R.TieRule.answer g.R.NamedRule.next first in
    let packet = c.args.packet in
    let t = c.from.result in
    let same : c.from.result ≡ packet.tick = c.from.ensures in
    let early : t ≤ LAST_TICK = omega (arith, same) in
    let y = run_to plan kind t x in
    let here = c.in_ok-run_to.ensures plan first x before room at early in
    let out = c.run_to.new.out in
    let told : Arrival = record { tick = t; input = c.from-2.result; output = c.from-3.result; bytes = c.from-4.result } in
    let is : told ≡ arriving packet = (let i = c.from-2.ensures in let j = c.from-3.ensures in let b = c.from-4.ensures in cc) in
    let after = c.push_turned_away.new.out in
    let clock = clock_as_told g.S.Store.lists g.S.Store.size plan y c.run_to.new.player here.plays ∙ to_clock plan kind t x (omega (arith, soon, same)) in
    let full = subst (λ (f : ArriveFault). Answers g.S.Store.lists g.S.Store.size g.S.NamedStore.sign g.R.TieRule.answer g.R.NamedRule.next plan first y c.arrive.new.self told (Err f)) c.in-Full.is (c.in-Err.ensures plan first y here.plays t) in
    let line = subst (λ (a : Arrival). Appends (event_line (turned_away a)) (vec_items out) (vec_items after) (vec_capacity out) (vec_capacity after) false) (sym is) c.in_err-push_turned_away-in-Full.ensures in
    let away =
    turned g.S.Store.lists g.S.Store.size g.S.NamedStore.sign g.R.TieRule.answer g.R.NamedRule.next first plan y c.arrive.new.self told full clock
    before (vec_items out) (vec_items after) room (vec_capacity out) (vec_capacity after) false here.tells line in
    rw (p.1, p.2)
    (subst (λ (a : Arrival). Tells (run_to plan kind a.tick x) before (vec_items after) room (vec_capacity after) false
    ⊎ ((refused_by plan a ≡ None) × Tells (offered plan kind a (run_to plan kind a.tick x)) before (vec_items after) room (vec_capacity after) false)) is
    (inr (away.0, away.1)))

pub returns-in_default-fault : goal.returns-in_default-fault
returns-in_default-fault g c plan first x before room at soon =
    let kind = kind_with g.S.NamedStore.sign g.R.TieRule.answer g.R.NamedRule.next first in
    let packet = c.args.packet in
    let t = c.from.result in
    let same : c.from.result ≡ packet.tick = c.from.ensures in
    let early : t ≤ LAST_TICK = omega (arith, same) in
    let y = run_to plan kind t x in
    let here = c.in_ok-run_to.ensures plan first x before room at early in
    let out = c.run_to.new.out in
    let told : Arrival = record { tick = t; input = c.from-2.result; output = c.from-3.result; bytes = c.from-4.result } in
    let is : told ≡ arriving packet = (let i = c.from-2.ensures in let j = c.from-3.ensures in let b = c.from-4.ensures in cc) in
    let un =
    unlawful g.S.Store.lists g.S.Store.size g.S.NamedStore.sign g.R.TieRule.answer g.R.NamedRule.next first plan y c.arrive.new.self told c.in-Err.fault c.in_default-fault.not-Full
    (c.in-Err.ensures plan first y here.plays t) in
    let made = ap (fault_at c.args.place) (sym c.at.ensures.1) ∙ sym c.at.ensures.2 in
    subst (λ (a : Arrival). Brought g.S.Store.lists g.S.Store.size plan kind (run_to plan kind a.tick x) a c.arrive.new.self c.args.place before (vec_items out) room (vec_capacity out) (Err (Refused c.at.result))) is (
      ap (λ (o : Option ArriveFault). option_map (fault_at c.args.place) (option_map (λ (f : ArriveFault). cause.Arrive f) o)) un ∙ ap (λ (f : Fault). Some f) made,
      here.tells,
    )
