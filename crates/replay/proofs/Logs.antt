-- What a log tells of departures, in all and by flow. Assumes nothing.
use Rattle.std.proofs.Common.{◌≡◌, ℕ, ◌+◌, Bool, true, false, cond, eqb, List, [], ◌∷◌, ◌++◌, map, filter, sym, refl, ap, ◌∙◌}
use Rattle.std.proofs.lemmas.List.Elements.{filter-append}
use Rattle.departure.specs.declared.Departure.{Departure}
use Rattle.law.specs.Step.{Plan, Switch, after_tick}
use Rattle.law.specs.Runs.{Call, arrive, step, ask, Answer, granted, refused, listed, answered, Run, ticks, leaves}
use Rattle.law.specs.Promises.{Bookable, clock_of, of_flow, departures_by, departures_of}
use Rattle.law.proofs.PromisesKept.{moment}
use Rattle.replay.specs.Events.{Event, left, turned_away, refusal_by, events_by, events_of, departures_in, left_in}

pub departures_append : (xs ys : List Event) → departures_in (xs ++ ys) ≡ departures_in xs ++ departures_in ys
departures_append [] ys = refl
departures_append (left d ∷ xs) ys = ap (λ (ds : List Departure). d ∷ ds) (departures_append xs ys)
departures_append (turned_away a ∷ xs) ys = departures_append xs ys

pub departures_left : (ds : List Departure) → departures_in (map left ds) ≡ ds
departures_left [] = refl
departures_left (d ∷ ds) = ap (λ (xs : List Departure). d ∷ xs) (departures_left ds)

refusal_none : (t : ℕ) (call : Call) (r : ℕ) → departures_in (refusal_by t call r) ≡ []
refusal_none t (arrive i j b) r = go (eqb r 10)
  where
    go : (test : Bool) → departures_in (cond test (turned_away record { tick = t; input = i; output = j; bytes = b } ∷ []) []) ≡ []
    go true = refl
    go false = refl
refusal_none t (step room) r = refl
refusal_none t (ask i j) r = refl

-- the departures that an answer lists
abbrev pub listed_by : Answer → List Departure
listed_by granted = []
listed_by (refused r) = []
listed_by (listed ds) = ds
listed_by (answered ns) = []

events_left : (t : ℕ) (call : Call) (answer : Answer) → departures_in (events_by t call answer) ≡ listed_by answer
events_left t call granted = refl
events_left t call (refused r) = refusal_none t call r
events_left t call (listed ds) = departures_left ds
events_left t call (answered ns) = refl

pub left_more : (call : Call) (answer : Answer) (log : List (Call × Answer)) → left_in ((call, answer) ∷ log) ≡ left_in log ++ listed_by answer
left_more call answer log =
    departures_append (events_of log) (events_by (clock_of log) call answer) ∙ ap (λ (ds : List Departure). left_in log ++ ds) (events_left (clock_of log) call answer)

-- those of a flow are those that the law tells
kept_by : (i j : ℕ) (answer : Answer) → filter (of_flow i j) (listed_by answer) ≡ departures_by i j answer
kept_by i j granted = refl
kept_by i j (refused r) = refl
kept_by i j (listed ds) = refl
kept_by i j (answered ns) = refl

pub left_of_flow : (i j : ℕ) (log : List (Call × Answer)) → filter (of_flow i j) (left_in log) ≡ departures_of i j log
left_of_flow i j [] = refl
left_of_flow i j ((call, answer) ∷ log) =
    ap (filter (of_flow i j)) (left_more call answer log) ∙ filter-append (of_flow i j) (left_in log) (listed_by answer)
    ∙ (λ k. left_of_flow i j log k ++ kept_by i j answer k)
