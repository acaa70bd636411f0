-- A file in which nothing arrives comes to the same by what the plan alone refuses, and is listed as its plan. Assumes nothing.
use Rattle.std.proofs.Common.{◌≡◌, ℕ, ◌-◌, List, [], ◌∷◌, ◌++◌, length, Some, None, Ok, Err, Option, Result, sym, refl, ap, ◌∙◌, subst, arith}
use Rattle.plan.specs.declared.fault.TheConstants.{LAST_TICK}
use Rattle.law.proofs.PacketsInside.{none_inside}
use Rattle.replay.specs.Kinds.{Kind}
use Rattle.replay.specs.Named.{lowest_kind, turn_kind, longest_kind}
use Rattle.replay.specs.Replay.{Arrival, Replayed, at_start, replay}
use Rattle.replay.specs.Events.{events_of}
use Rattle.replay.proofs.Steps.{out_stops}
use Rattle.runfile.specs.Records.{too_long}
use Rattle.runfile.specs.Order.{Item, head, share, seal, arrival, end, next_item}
use Rattle.runfile.specs.File.{Library, Refusal, phase_of, granted, judged, unless, answer, Reads, opened, more, Outcome, complete, refused, Comes, completed, stopped}
use Rattle.runfile.specs.declared.body.StoreKind.{StoreKind}
use Rattle.runfile.specs.declared.body.RuleKind.{RuleKind}
use Rattle.runfile.specs.declared.body.RuleKind.TheVariants.{Lowest, Turn, Longest}
use Rattle.runfile.specs.declared.body.Arrival as body
use Rattle.runfile.specs.declared.fault.Cause.{Cause}
use Rattle.runfile.specs.declared.fault.Fault.{Fault}
use Rattle.carry.specs.Items.{head_in, plan_in, arrivals_in, refuses}
use Rattle.carry.specs.Lines.{event_lines, peak_lines, last_line}
use Rattle.carry.specs.Listing.{refused_at, run_of, listing_with, sign_of, of_kind, listing}
use Rattle.carry.specs.WithoutArrivals.{plan_refuses, NothingArrives, plan_listing, PlansAreListed}
use Rattle.carry.proofs.RefusedEarly.{refused_early}

-- an item that is no arrival; an answer that names none
abbrev IsNoArrival : Item → Type 0
IsNoArrival i = (a : body.Arrival) → i ≡ arrival a → ⊥

abbrev NamesNoArrival : Result (Item × List ℕ) Refusal → Type 0
NamesNoArrival (Ok next) = IsNoArrival next.0
NamesNoArrival (Err refusal) = (a : body.Arrival) → refusal.0 ≡ Some (arrival a) → ⊥

-- no arrival is the newest item, or before it
newest_no_arrival : (is : List Item) (i : Item) → arrivals_in (i ∷ is) ≡ [] → IsNoArrival i × (arrivals_in is ≡ [])
newest_no_arrival is (head h) none = (λ a e. let z : ◌≡◌ {A = ℕ} 0 1 = cc in omega arith, none)
newest_no_arrival is (share s) none = (λ a e. let z : ◌≡◌ {A = ℕ} 0 1 = cc in omega arith, none)
newest_no_arrival is seal none = (λ a e. let z : ◌≡◌ {A = ℕ} 0 1 = cc in omega arith, none)
newest_no_arrival is (arrival a) none = absurd (let z : ◌≡◌ {A = ℕ} 0 1 = cc in omega arith)
newest_no_arrival is end none = (λ a e. let z : ◌≡◌ {A = ℕ} 0 1 = cc in omega arith, none)

-- two libraries that refuse the same of each item that is no arrival
module _ (one two : Library) (agree : (is : List Item) (i : Item) → IsNoArrival i → one is i ≡ two is i) (file : List ℕ) where
  granted_no_arrival : (p : ℕ) (c : Option Cause) (next : Item × List ℕ) → NamesNoArrival (granted p c next) → IsNoArrival next.0
  granted_no_arrival p None next h = h
  granted_no_arrival p (Some c) next h = λ a e. h a (ap (λ (i : Item). Some i) e)

  same_judged : (is : List Item) (p : ℕ) (r : Result (Item × List ℕ) Fault) → NamesNoArrival (judged one is p r) → judged one is p r ≡ judged two is p r
  same_judged is p (Err f) h = refl
  same_judged is p (Ok next) h = ap (λ (c : Option Cause). granted p c next) (agree is next.0 (granted_no_arrival p (one is next.0) next h))

  same_unless : (o : Option Fault) (a b : Result (Item × List ℕ) Refusal) → (NamesNoArrival a → a ≡ b) → NamesNoArrival (unless o a) → unless o a ≡ unless o b
  same_unless None a b same h = same h
  same_unless (Some f) a b same h = refl

  same_answer : (is : List Item) (rest : List ℕ) (r : Result (Item × List ℕ) Refusal) → answer one file is rest ≡ r → NamesNoArrival r → answer two file is rest ≡ r
  same_answer is rest r e h =
      let p = length file - length rest in
      let next = next_item (length file) (phase_of is) rest in
      sym (same_unless (too_long file) (judged one is p next) (judged two is p next) (same_judged is p next) (subst NamesNoArrival (sym e) h)) ∙ e

  same_reads : {is : List Item} {rest : List ℕ} → arrivals_in is ≡ [] → Reads one file is rest → Reads two file is rest
  same_reads none opened = opened
  same_reads none (more {is} {i} {rest} {left} r e) =
      let before = newest_no_arrival is i none in
      more (same_reads before.1 r) (same_answer is rest (Ok (i, left)) e before.0)

  same_comes : (o : Outcome) → NothingArrives o → Comes one file o → Comes two file o
  same_comes o none (completed r) = completed (same_reads none r)
  same_comes o none (stopped {is} {rest} {o = item} {f} r goes e) = stopped (same_reads none.0 r) goes (same_answer is rest (Err (item, f)) e none.1)

same_refusals : (is : List Item) (i : Item) → IsNoArrival i → plan_refuses is i ≡ refuses is i
same_refusals is (head h) no_arrival = refl
same_refusals is (share s) no_arrival = refl
same_refusals is seal no_arrival = refl
same_refusals is (arrival a) no_arrival = absurd (no_arrival a refl)
same_refusals is end no_arrival = refl

-- the run of a whole file in which nothing arrives is over as it begins
module _ (is : List Item) (none : arrivals_in is ≡ []) where
  module _ {K : Type 0} (kind : Kind K) where
    ends_at_start : run_of kind (complete is) ≡ at_start (plan_in is) kind
    ends_at_start =
        ap (λ (packets : List Arrival). replay (plan_in is) kind packets) none
        ∙ out_stops (plan_in is) kind LAST_TICK (at_start (plan_in is) kind) (none_inside (plan_in is))

    complete_with : listing_with kind (complete is) ≡ plan_listing (complete is)
    complete_with = ap (λ (x : Replayed K). event_lines (events_of x.log) ++ (peak_lines (plan_in is) x.switch ++ last_line x)) ends_at_start

  complete_listing : listing (complete is) ≡ plan_listing (complete is)
  complete_listing = by (head_in is).store (head_in is).rule
    where
      by : (store : StoreKind) (rule : RuleKind) → of_kind (λ K kind. listing_with kind (complete is)) store rule ≡ plan_listing (complete is)
      by store Lowest = complete_with (lowest_kind (sign_of store))
      by store Turn = complete_with (turn_kind (sign_of store))
      by store Longest = complete_with (longest_kind (sign_of store))

-- what is no arrival is refused at the seal
refused_at_seal : (o : Option Item) → ((a : body.Arrival) → o ≡ Some (arrival a) → ⊥) → refused_at o ≡ 0
refused_at_seal None no_arrival = refl
refused_at_seal (Some (head h)) no_arrival = refl
refused_at_seal (Some (share s)) no_arrival = refl
refused_at_seal (Some seal) no_arrival = refl
refused_at_seal (Some (arrival a)) no_arrival = absurd (no_arrival a refl)
refused_at_seal (Some end) no_arrival = refl

listing_is_plan : (o : Outcome) → NothingArrives o → listing o ≡ plan_listing o
listing_is_plan (complete is) none = complete_listing is none
listing_is_plan (refused is o f) none = refused_early is none.0 o f (refused_at_seal o none.1)

pub plans_are_listed : PlansAreListed
plans_are_listed file o none = (
  (same_comes plan_refuses refuses same_refusals file o none, same_comes refuses plan_refuses (λ is i no_arrival. sym (same_refusals is i no_arrival)) file o none),
  listing_is_plan o none,
)
