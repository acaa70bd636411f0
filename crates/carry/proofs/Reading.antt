-- A step of the reading of arrivals, at a moment of the run. Assumes nothing.
use Rattle.std.proofs.Common.{◌≡◌, ℕ, ◌-◌, List, [], ◌∷◌, ◌++◌, length, Some, None, Ok, Err, Option, inl, inr, sym, refl, ap, ◌∙◌, subst, arith}
use Rattle.std.specs.Option.{option_map}
use Rattle.std.proofs.lemmas.Bool.{cond_both}
use Rattle.plan.specs.declared.fault.ArriveFault.{ArriveFault}
use Rattle.store.specs.declared.packet.Packet.{Packet}
use Rattle.law.specs.Step.{Plan}
use Rattle.replay.specs.Kinds.{Kind}
use Rattle.replay.specs.Replay.{Arrival, Replayed, run_ticks, run_to, offered, run_arrivals}
use Rattle.replay.specs.Events.{events_of}
use Rattle.replay.proofs.Steps.{ticks_none}
use Rattle.player.specs.declared.player.Player.{Player}
use Rattle.runfile.specs.File.{Reads, more, refused}
use Rattle.runfile.specs.Order.{Item, arrival, end, Running, next_item}
use Rattle.runfile.specs.Records.{fault_at}
use Rattle.runfile.specs.declared.body.Arrival as body
use Rattle.runfile.specs.declared.body.Head.{Head}
use Rattle.runfile.specs.declared.record.Rest.{Rest}
use Rattle.carry.specs.declared.stop.Stop.{Stop}
use Rattle.carry.specs.declared.stop.Stop.TheVariants.{Refused, Memory}
use Rattle.runfile.specs.declared.fault.Cause.TheVariants as cause
use Rattle.runfile.specs.declared.fault.Fault.{Fault}
use Rattle.carry.specs.Items.{head_in, plan_in, arriving, arrivals_in, refuses}
use Rattle.carry.specs.Lines.{event_lines, refused_line}
use Rattle.carry.specs.Traffic.{refused_by, Brought, IsRead, ListsAs, ReadsOn}
use Rattle.carry.proofs.Steps.{reader_stops, library_stops, answers, reads_on}
use Rattle.carry.proofs.Extends.{offered_extends}
use Rattle.carry.proofs.Onward.{Goes, goes_from, goes_none, goes_on, so_far, not_ended}

-- an arrival does not move the clock
pub offered_clock : {K : Type 0} (plan : Plan) (kind : Kind K) (a : Arrival) (x : Replayed K) → (offered plan kind a x).switch.clock ≡ x.switch.clock
offered_clock {K} plan kind a x = cond_both (kind.sign plan x.switch a.input a.output) _ _ (λ (y : Replayed K). y.switch.clock ≡ x.switch.clock) (λ _. refl) (λ _. refl)

module _ {K : Type 0} (kind : Kind K) (file : List ℕ) (is : List Item) (rest : Rest) (clock : ℕ) (plan : Plan) (x : Replayed K) (read : IsRead kind file is rest clock plan x) where
  abbrev next : Item → List ℕ → Type 0
  next i left = next_item rest.length (Running clock) rest.bytes.now ≡ Ok (i, left)

  -- the run so far is that of the items
  same_run : so_far kind file is ≡ x
  same_run = ap (λ (v : Plan). run_arrivals v kind (arrivals_in is)) read.plan_is ∙ sym read.moment

  up_to : (t : ℕ) → run_to (plan_in is) kind t (so_far kind file is) ≡ run_to plan kind t x
  up_to t = (λ k. run_to (read.plan_is k) kind t (run_arrivals (read.plan_is k) kind (arrivals_in is))) ∙ ap (run_to plan kind t) (sym read.moment)

  -- the reader refuses
  pub reader_lists : (f : Fault) → next_item rest.length (Running clock) rest.bytes.now ≡ Err f → ListsAs kind (head_in is) file (event_lines (events_of x.log) ++ refused_line f)
  reader_lists f e =
      let now : 0 - x.switch.clock ≡ 0 = omega arith in
      let there = up_to 0 ∙ ap (λ (n : ℕ). run_ticks plan kind n x) now ∙ ticks_none plan kind x in
      (refused is None f, reader_stops file is rest (Running clock) read.running read.stands (not_ended clock) f e, refl, ap (λ (y : Replayed K). event_lines (events_of y.log) ++ refused_line f) there)

  module _ (packet : body.Arrival) (left : List ℕ) (e : next (arrival packet) left) where
    abbrev a : Arrival
    a = arriving packet

    abbrev y : Replayed K
    y = run_to plan kind packet.tick x

    -- the library refuses
    library_lists : (place : ℕ) (f : Fault) → place ≡ rest.length - length rest.bytes.now → option_map (fault_at place) (option_map cause.Arrive (refused_by plan a)) ≡ Some f →
        ListsAs kind (head_in is) file (event_lines (events_of y.log) ++ refused_line f)
    library_lists place f at why = (
      refused is (Some (arrival packet)) f,
      library_stops file is rest (Running clock) read.running read.stands (not_ended clock) (arrival packet) left place f e at
          (ap (λ (v : Plan). option_map (fault_at place) (option_map cause.Arrive (refused_by v a))) read.plan_is ∙ why),
      refl,
      ap (λ (z : Replayed K). event_lines (events_of z.log) ++ refused_line f) (up_to packet.tick),
    )

    -- the library grants
    grants : refused_by plan a ≡ None → refuses is (arrival packet) ≡ None
    grants none = ap (λ (v : Plan). option_map cause.Arrive (refused_by v a)) read.plan_is ∙ ap (option_map cause.Arrive) none

    after_is : run_arrivals (plan_in is) kind (a ∷ arrivals_in is) ≡ offered plan kind a y
    after_is = (λ k. offered (read.plan_is k) kind a (run_to (read.plan_is k) kind packet.tick (run_arrivals (read.plan_is k) kind (arrivals_in is)))) ∙ ap (λ (z : Replayed K). offered plan kind a (run_to plan kind packet.tick z)) (sym read.moment)

    granted_goes : refused_by plan a ≡ None → Goes kind file (head_in is) (offered plan kind a y)
    granted_goes none =
        subst (Goes kind file (head_in is)) after_is
        (goes_on kind file (arrival packet ∷ is) left packet.tick (more read.stands.reads (answers file is rest (Running clock) read.running read.stands (arrival packet) left e (grants none))) refl)

    -- whichever
    up_to_goes : Goes kind file (head_in is) y
    up_to_goes = by (refused_by plan a) refl
      where
        by : (o : Option ArriveFault) → refused_by plan a ≡ o → Goes kind file (head_in is) y
        by None none = goes_from kind file (head_in is) y (offered plan kind a y) (offered_extends plan kind a y) (granted_goes none)
        by (Some f) some =
            let place = rest.length - length rest.bytes.now in
            let l = library_lists place (fault_at place (cause.Arrive f)) refl (ap (λ (o : Option ArriveFault). option_map (fault_at place) (option_map cause.Arrive o)) some) in
            record { outcome = l.0; comes = l.1; same_head = l.2; rest = refused_line (fault_at place (cause.Arrive f)); begins = l.3 }

  pub arrival_read_on : (packet : body.Arrival) (left : Rest) → next (arrival packet) left.bytes.now → left.length ≡ rest.length → refused_by plan (arriving packet) ≡ None →
      IsRead kind file (arrival packet ∷ is) left packet.tick plan (offered plan kind (arriving packet) (run_to plan kind packet.tick x))
  arrival_read_on packet left e same none =
      record {
        stands = reads_on file is rest (Running clock) read.running read.stands (arrival packet) left e same (grants packet left.bytes.now e none);
        running = refl;
        plan_is = read.plan_is;
        moment = ap (λ (z : Replayed K). offered plan kind (arriving packet) (run_to plan kind packet.tick z)) read.moment;
      }

  pub end_read : next end [] → Reads refuses file (end ∷ is) []
  end_read e = more read.stands.reads (answers file is rest (Running clock) read.running read.stands end [] e refl)

-- an arrival that stops the run, whatever file is read
module _ {S R : Type 0} (lists : S → ℕ → ℕ → List Packet) (size : S → ℕ) (kind : Kind R) (plan : Plan) (x y : Replayed R) (start rest : Rest) (clock : ℕ)
    (reads : (file : List ℕ) (is : List Item) → IsRead kind file is start 0 plan x → (js : List Item) × IsRead kind file js rest clock plan y × (head_in js ≡ head_in is))
    (packet : body.Arrival) (left : List ℕ) (e : next_item rest.length (Running clock) rest.bytes.now ≡ Ok (arrival packet, left)) (place : ℕ) (at : place ≡ rest.length - length rest.bytes.now)
    {g : _} (q : Player S R g) (before after : List ℕ) (room most : ℕ) where
  -- of the same head as what is read at the start
  as_begun : {h : Head} (file text : List ℕ) (is : List Item) → h ≡ head_in is → ListsAs kind h file text → ListsAs kind (head_in is) file text
  as_begun file text is same l = (l.0, l.1, l.2 ∙ same, l.3)

  pub arrival_stops : (stop : Stop) → Brought lists size plan kind (run_to plan kind packet.tick y) (arriving packet) q place before after room most (Err stop) → ReadsOn lists size kind plan x start q before after room most (Err stop)
  arrival_stops (Refused f) (why, tells) = (
    run_to plan kind packet.tick y,
    tells,
    λ file is read.
        let was = reads file is read in
        as_begun file _ is was.2 (library_lists kind file was.0 rest clock plan y was.1 packet left e place f at why),
  )
  arrival_stops (Memory error) (inl tells) =
      λ file is read.
      let was = reads file is read in
      let none = goes_none kind file (head_in was.0) (run_to plan kind packet.tick y) (up_to_goes kind file was.0 rest clock plan y was.1 packet left e) before after room most tells in
      (none.0, as_begun file none.0 is was.2 none.1, none.2)
  arrival_stops (Memory error) (inr (grants, tells)) =
      λ file is read.
      let was = reads file is read in
      let z = offered plan kind (arriving packet) (run_to plan kind packet.tick y) in
      let none = goes_none kind file (head_in was.0) z (granted_goes kind file was.0 rest clock plan y was.1 packet left e grants) before after room most tells in
      (none.0, as_begun file none.0 is was.2 none.1, none.2)
