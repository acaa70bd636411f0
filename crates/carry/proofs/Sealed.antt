-- A run from the seal of a file to its end. Assumes nothing.
use Rattle.std.proofs.Common.{◌≡◌, ℕ, ◌-◌, ◌^◌, ◌<◌, ◌≤◌, List, [], ◌∷◌, ◌++◌, vec_items, vec_capacity, Err, sym, ap, ◌∙◌, subst}
use Rattle.std.specs.declared.vec.Vec.{Vec}
use Rattle.plan.specs.declared.fault.TheConstants.{LAST_TICK}
use Rattle.plan.specs.declared.table.Plan as kit
use Rattle.store.specs.declared.packet.Packet.{Packet}
use Rattle.tie.specs.PicksTied.{PicksTied}
use Rattle.law.specs.Plans.{plan_of}
use Rattle.law.specs.Promises.{Bookable}
use Rattle.law.specs.Step.{Plan}
use Rattle.replay.specs.Kinds.{Kind, SignFits}
use Rattle.replay.specs.Replay.{Arrival, Replayed, at_start, run_arrivals, run_out}
use Rattle.replay.specs.Events.{events_of, left_in, bytes_in}
use Rattle.runfile.specs.File.{Reads, complete, completed}
use Rattle.runfile.specs.Order.{Item, end, Running}
use Rattle.runfile.specs.declared.body.Head.{Head}
use Rattle.runfile.specs.declared.record.Rest.{Rest}
use Rattle.player.specs.Plays.{Plays}
use Rattle.player.specs.declared.player.Player.{Player}
use Rattle.carry.specs.declared.stop.Stop.{Stop}
use Rattle.carry.specs.declared.stop.Stop.TheVariants.{Refused, Memory}
use Rattle.carry.specs.Items.{head_in, plan_in, arrivals_in, refuses}
use Rattle.carry.specs.Lines.{event_lines, peak_lines, last_line}
use Rattle.carry.specs.Listing.{listing_with}
use Rattle.carry.specs.Booked.{BooksAt}
use Rattle.carry.specs.Carries.{Leaves}
use Rattle.carry.specs.Playing.{IsUpTo}
use Rattle.carry.specs.Traffic.{IsRead, ListsAs, ReadsOn}
use Rattle.carry.proofs.FewBytes.{few_bytes}
use Rattle.carry.proofs.Grows.{append_none}
use Rattle.carry.proofs.Orderly.{orderly}

module _ {S R : Type 0} (lists : S → ℕ → ℕ → List Packet) (size : S → ℕ) (kind : Kind R) where
  pub starts : (plan : Plan) {g : _} (p : Player S R g) → Plays lists size plan (at_start plan kind) p → (out : List ℕ) (room : ℕ) → IsUpTo lists size plan (at_start plan kind) p out out room room
  starts plan p plays out room = record { plays = plays; tells = append_none out room }

  module _ (file : List ℕ) (h : Head) (plan : kit.Plan) (rest : Rest) (booked : BooksAt (Running 0) file h plan rest) where
    pub start_read : IsRead kind file booked.items rest 0 (plan_of plan) (at_start (plan_of plan) kind)
    start_read =
        record {
          stands = booked.stands;
          running = booked.phase_is;
          plan_is = sym booked.books;
          moment = ap (λ (packets : List Arrival). run_arrivals (plan_of plan) kind packets) (sym booked.no_arrivals);
        }

    of_head : (text : List ℕ) → ListsAs kind (head_in booked.items) file text → ListsAs kind h file text
    of_head text l = (l.0, l.1, l.2 ∙ booked.head_is, l.3)

    -- where the arrivals stop the run
    pub stops : {Z : Type 0} {g : _} (q : Player S R g) (before after : Vec ℕ Z) (stop : Stop) →
        ReadsOn lists size kind (plan_of plan) (at_start (plan_of plan) kind) rest q (vec_items before) (vec_items after) (vec_capacity before) (vec_capacity after) (Err stop) →
        Leaves (ListsAs kind h file) before after (Err stop)
    stops q before after (Refused f) (y, tells, lists-it) = (event_lines (events_of y.log), of_head _ (lists-it file booked.items start_read), tells)
    stops q before after (Memory error) lists-it = let l = lists-it file booked.items start_read in (l.0, of_head l.0 l.1, l.2)

-- the end of the run of a file's items
module _ {K : Type 0} (kind : Kind K) (file : List ℕ) (js : List Item) (reads : Reads refuses file (end ∷ js) []) (plan : Plan) (same : plan_in js ≡ plan) (y : Replayed K) (there : y ≡ run_arrivals plan kind (arrivals_in js)) where
  abbrev ended : Plan → Replayed K → Replayed K
  ended v x = run_out v kind (LAST_TICK - x.switch.clock) x

  -- it is the replay of the items
  whole : ended plan y ≡ ended (plan_in js) (run_arrivals (plan_in js) kind (arrivals_in js))
  whole = ap (ended plan) there ∙ (λ k. ended (sym same k) (run_arrivals (sym same k) kind (arrivals_in js)))

  ended_text : event_lines (events_of (ended plan y).log) ++ (peak_lines plan (ended plan y).switch ++ last_line (ended plan y)) ≡ listing_with kind (complete (end ∷ js))
  ended_text = λ k. event_lines (events_of (whole k).log) ++ (peak_lines (sym same k) (whole k).switch ++ last_line (whole k))

  pub ended_lists : (h : Head) → head_in js ≡ h → ListsAs kind h file (event_lines (events_of (ended plan y).log) ++ (peak_lines plan (ended plan y).switch ++ last_line (ended plan y)))
  ended_lists h head_as_read = (complete (end ∷ js), completed reads, head_as_read, sym ended_text)

  pub ended_few : (M most : ℕ) → Bookable plan → SignFits plan M most kind.sign → ((kept : K) → PicksTied (kind.answer kept)) → y.switch.clock ≤ LAST_TICK → bytes_in (left_in (ended plan y).log) < 2 ^ 64
  ended_few M most bookable fits picks-tied early =
      let d = orderly file reads in
      let own : Bookable (plan_in js) = subst Bookable (sym same) bookable in
      let own-fits = subst (λ (v : Plan). SignFits v M most kind.sign) (sym same) fits in
      let moment : y ≡ run_arrivals (plan_in js) kind (arrivals_in js) = there ∙ ap (λ (v : Plan). run_arrivals v kind (arrivals_in js)) (sym same) in
      let clock : (run_arrivals (plan_in js) kind (arrivals_in js)).switch.clock ≤ LAST_TICK = subst (λ (x : Replayed K). x.switch.clock ≤ LAST_TICK) moment early in
      subst (λ (x : Replayed K). bytes_in (left_in x.log) < 2 ^ 64) (sym whole) (few_bytes (plan_in js) M most kind own own-fits picks-tied (arrivals_in js) d.may_come d.few d.fits.short clock)
