-- What has happened so far begins the listing of the file, whatever follows. Assumes nothing.
use Rattle.std.proofs.Common.{◌≡◌, ℕ, zero, suc, ◌+◌, ◌-◌, ◌<◌, false, List, ◌∷◌, ◌++◌, length, Ok, Err, Option, Result, sym, refl, ap, ◌∙◌, subst, arith}
use Rattle.std.proofs.lemmas.List.{append_assoc}
use Rattle.replay.specs.Kinds.{Kind}
use Rattle.replay.specs.Replay.{Replayed, run_to, run_arrivals}
use Rattle.replay.specs.Events.{Event, events_of}
use Rattle.runfile.specs.File.{phase_of, answer, Reads, more, Outcome, complete, refused, Comes, completed, stopped}
use Rattle.runfile.specs.Order.{Item, head, share, seal, arrival, end, Opening, Booking, Running, Ended}
use Rattle.runfile.specs.declared.body.Head.{Head}
use Rattle.runfile.specs.declared.fault.Fault.{Fault}
use Rattle.runfile.proofs.Parts.{end_is_last, shorter}
use Rattle.runfile.proofs.Stand.{MayStand, next_stands}
use Rattle.runfile.proofs.Whole.{answered}
use Rattle.carry.specs.Items.{head_in, plan_in, arriving, arrivals_in, refuses}
use Rattle.carry.specs.Lines.{event_lines}
use Rattle.carry.specs.Listing.{refused_at, run_of, closing, items_in, listing_with}
use Rattle.carry.specs.Lists.{Appends}
use Rattle.carry.specs.Playing.{Tells}
use Rattle.carry.specs.Traffic.{ListsAs}
use Rattle.carry.proofs.Extends.{Extends, lines_append, extends_then, ticks_extend, offered_extends, out_extends}
use Rattle.carry.proofs.Grows.{append_fails}

pub not_ended : (t : ℕ) → Running t ≡ Ended → ⊥
not_ended t e = let z : ◌≡◌ {A = ℕ} 0 1 = cc in omega arith

not_opening : (t : ℕ) → Running t ≡ Opening → ⊥
not_opening t e = let z : ◌≡◌ {A = ℕ} 0 1 = cc in omega arith

not_booking : (t : ℕ) → Running t ≡ Booking → ⊥
not_booking t e = let z : ◌≡◌ {A = ℕ} 0 1 = cc in omega arith

module _ {K : Type 0} (kind : Kind K) (file : List ℕ) where
  -- the file comes to an outcome of this head whose listing begins with the lines of x
  pub record Goes (h : Head) (x : Replayed K) : Type 0 where
    pub outcome : Outcome
    pub comes : Comes refuses file outcome
    pub same_head : head_in (items_in outcome) ≡ h
    pub rest : List ℕ
    pub begins : listing_with kind outcome ≡ event_lines (events_of x.log) ++ rest

  pub goes_from : (h : Head) (x y : Replayed K) → Extends x y → Goes h y → Goes h x
  goes_from h x y e g =
      record {
        outcome = g.outcome;
        comes = g.comes;
        same_head = g.same_head;
        rest = event_lines e.0 ++ g.rest;
        begins =
            g.begins ∙ ap (λ (es : List Event). event_lines es ++ g.rest) e.1 ∙ ap (λ (text : List ℕ). text ++ g.rest) (lines_append (events_of x.log) e.0)
            ∙ append_assoc (event_lines (events_of x.log)) (event_lines e.0) g.rest;
      }

  outcome_goes : (o : Outcome) → Comes refuses file o → Goes (head_in (items_in o)) (run_of kind o)
  outcome_goes o comes = record { outcome = o; comes = comes; same_head = refl; rest = closing kind o; begins = refl }

  -- so the listing does not fit where those lines do not
  pub goes_none : (h : Head) (x : Replayed K) → Goes h x → (before after : List ℕ) (room most : ℕ) → Tells x before after room most false →
      (text : List ℕ) × ListsAs kind h file text × Appends text before after room most false
  goes_none h x g before after room most t = (
    listing_with kind g.outcome,
    (g.outcome, g.comes, g.same_head, refl),
    subst (λ (text : List ℕ). Appends text before after room most false) (sym g.begins) (append_fails (event_lines (events_of x.log)) g.rest before after room most t),
  )

  abbrev pub so_far : List Item → Replayed K
  so_far is = run_arrivals (plan_in is) kind (arrivals_in is)

  arrival_extends : (is : List Item) (o : Option Item) (f : Fault) → Extends (so_far is) (run_of kind (refused is o f))
  arrival_extends is o f = ticks_extend (plan_in is) kind (refused_at o - (so_far is).switch.clock) (so_far is)

  -- a reading behind the seal whose rest is shorter goes on to an outcome
  abbrev Below : ℕ → Type 0
  Below n = (is : List Item) (rest : List ℕ) (t : ℕ) → length rest < n → Reads refuses file is rest → phase_of is ≡ Running t → Goes (head_in is) (so_far is)

  module _ (n : ℕ) (below : Below n) (is : List Item) (rest : List ℕ) (t : ℕ) (short : length rest < suc n) (r : Reads refuses file is rest) (running : phase_of is ≡ Running t) where
    by_item : (i : Item) (left : List ℕ) → answer refuses file is rest ≡ Ok (i, left) → MayStand (phase_of is) i → Goes (head_in is) (so_far is)
    by_item (head h) left e stand = absurd (not_opening t (sym running ∙ stand))
    by_item (share s) left e stand = absurd (not_booking t (sym running ∙ stand))
    by_item seal left e stand = absurd (not_booking t (sym running ∙ stand))
    by_item (arrival a) left e stand =
        let next = answered refuses file is rest (arrival a) left e in
        let x = so_far is in
        let y = run_to (plan_in is) kind a.tick x in
        goes_from (head_in is) x (so_far (arrival a ∷ is))
        (extends_then x y (so_far (arrival a ∷ is)) (ticks_extend (plan_in is) kind (a.tick - x.switch.clock) x) (offered_extends (plan_in is) kind (arriving a) y))
        (below (arrival a ∷ is) left a.tick (omega (arith, shorter (length file) (phase_of is) rest (arrival a) left next)) (more r e) refl)
    by_item end left e stand =
        let next = answered refuses file is rest end left e in
        let none = end_is_last (length file) (phase_of is) rest left next in
        goes_from (head_in is) (so_far is) (run_of kind (complete (end ∷ is))) (out_extends (plan_in is) kind _ (so_far is))
        (outcome_goes (complete (end ∷ is)) (completed (subst (λ (bytes : List ℕ). Reads refuses file (end ∷ is) bytes) none (more r e))))

    by_answer : (q : Result (Item × List ℕ) (Option Item × Fault)) → answer refuses file is rest ≡ q → Goes (head_in is) (so_far is)
    by_answer (Err (o, f)) e =
        goes_from (head_in is) (so_far is) (run_of kind (refused is o f)) (arrival_extends is o f)
        (outcome_goes (refused is o f) (stopped r (λ ended. not_ended t (sym running ∙ ended)) e))
    by_answer (Ok (i, left)) e = by_item i left e (next_stands (length file) (phase_of is) rest i left (answered refuses file is rest i left e))

  from_here : (n : ℕ) → Below n
  from_here zero is rest t short r running = absurd (omega arith)
  from_here (suc n) is rest t short r running = by_answer n (from_here n) is rest t short r running (answer refuses file is rest) refl

  pub goes_on : (is : List Item) (rest : List ℕ) (t : ℕ) → Reads refuses file is rest → phase_of is ≡ Running t → Goes (head_in is) (so_far is)
  goes_on is rest t r running = from_here (length rest + 1) is rest t (omega arith) r running
