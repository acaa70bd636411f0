-- The run behind a listing follows the law. Assumes nothing.
use Rattle.std.proofs.Common.{◌≡◌, ℕ, ◌+◌, ◌-◌, ◌^◌, ◌<◌, ◌≤◌, List, [], ◌∷◌, length, Some, None, Err, Option, refl, ap, subst, sym, ◌∙◌, arith}
use Rattle.plan.specs.declared.fault.TheConstants.{LAST_TICK}
use Rattle.tie.specs.PicksTied.{PicksTied}
use Rattle.tie.specs.Pointers.{pointer_of}
use Rattle.tie.specs.Picked.{first_picks_tied, longest_picks_tied}
use Rattle.law.specs.Step.{Plan}
use Rattle.law.specs.Promises.{Bookable}
use Rattle.replay.specs.Kinds.{Sign, Kind, SignFits}
use Rattle.replay.specs.Named.{lowest_kind, turn_kind, longest_kind}
use Rattle.replay.specs.Replay.{Replayed, last_tick, run_ticks, run_arrivals}
use Rattle.replay.specs.Follows.{FollowsLaw, Accounted}
use Rattle.replay.proofs.Following.{replays_follow_law}
use Rattle.replay.proofs.Ending.{replays_end}
use Rattle.replay.proofs.Signs.{signs_fit}
use Rattle.replay.proofs.Steps.{arrivals_clock}
use Rattle.runfile.specs.File.{phase_of, Reads, answer, Outcome, complete, refused, completed, stopped, AreBytes}
use Rattle.runfile.specs.Order.{Item, head, share, seal, arrival, end, Phase, next_item}
use Rattle.runfile.specs.declared.body.StoreKind.{StoreKind}
use Rattle.runfile.specs.declared.body.StoreKind.TheVariants.{Rings, Pool}
use Rattle.runfile.specs.declared.body.RuleKind.{RuleKind}
use Rattle.runfile.specs.declared.body.RuleKind.TheVariants.{Lowest, Turn, Longest}
use Rattle.runfile.specs.declared.fault.Fault.{Fault}
use Rattle.runfile.proofs.Stand.{next_stands, arrival_read}
use Rattle.runfile.proofs.Whole.{answer_refuses, put_together}
use Rattle.carry.specs.Items.{head_in, plan_in, arrivals_in, refuses}
use Rattle.carry.specs.Listing.{refused_at, run_of, items_in, sign_of, of_kind}
use Rattle.carry.specs.Behind.{size_of, Behind, ListingsFollowLaw}
use Rattle.carry.proofs.Orderly.{Orderly, orderly}

sign_fits : (plan : Plan) → Bookable plan → (store : StoreKind) → SignFits plan (size_of store) (size_of store) (sign_of store)
sign_fits plan bookable Rings = (signs_fit plan bookable).0
sign_fits plan bookable Pool = (signs_fit plan bookable).1

module _ (file : List ℕ) (bytes : AreBytes file) where
  -- a refused item's tick
  refused_early : (is : List Item) (rest : List ℕ) (o : Option Item) (f : Fault) → Reads refuses file is rest → answer refuses file is rest ≡ Err (o, f) → refused_at o < 2 ^ 24
  refused_early is rest None f r e = omega arith
  refused_early is rest (Some (head h)) f r e = omega arith
  refused_early is rest (Some (share s)) f r e = omega arith
  refused_early is rest (Some seal) f r e = omega arith
  refused_early is rest (Some end) f r e = omega arith
  refused_early is rest (Some (arrival a)) f r e =
      let next = answer_refuses refuses file is rest (arrival a) f e in
      let stand = next_stands (length file) (phase_of is) rest (arrival a) next.0 next.1 in
      let running = ap (λ (p : Phase). next_item (length file) p rest) (sym stand.1) ∙ next.1 in
      (arrival_read (length file) stand.0 rest a next.0 running).1 (put_together refuses file bytes r).1

  module _ {K : Type 0} (kind : Kind K) (fair : (kept : K) → PicksTied (kind.answer kept)) where
    -- the run at a moment
    at_moment : (is : List Item) (rest : List ℕ) → Orderly file is rest → SignFits (plan_in is) (size_of (head_in is).store) (size_of (head_in is).store) kind.sign →
        (n : ℕ) → last_tick (arrivals_in is) + n ≤ LAST_TICK → (x : Replayed K) → x ≡ run_ticks (plan_in is) kind n (run_arrivals (plan_in is) kind (arrivals_in is)) →
        FollowsLaw (plan_in is) (size_of (head_in is).store) x × Accounted (plan_in is) (arrivals_in is) x
    at_moment is rest d fits n soon x there =
        let M = size_of (head_in is).store in
        let known = replays_follow_law K (plan_in is) M M kind d.fits.bookable fits fair (arrivals_in is) d.may_come n soon in
        (subst (λ (y : Replayed K). FollowsLaw (plan_in is) M y) (sym there) known.0, subst (λ (y : Replayed K). Accounted (plan_in is) (arrivals_in is) y) (sym there) known.1)

    whole_behind : (is : List Item) (rest : List ℕ) → Orderly file is rest → SignFits (plan_in is) (size_of (head_in is).store) (size_of (head_in is).store) kind.sign → Behind kind (complete is)
    whole_behind is rest d fits =
        let M = size_of (head_in is).store in
        let ends = replays_end K (plan_in is) M M kind d.fits.bookable d.fits.short d.fits.few_parts fits fair (arrivals_in is) d.may_come d.few (d.early bytes) in
        let there = at_moment is rest d fits ends.0 (omega (arith, ends.2)) (run_of kind (complete is)) ends.1.is_end in
        record { follows_law = there.0; accounted = there.1; comes_to_end = ends }

    refused_behind : (is : List Item) (rest : List ℕ) (o : Option Item) (f : Fault) → Orderly file is rest → SignFits (plan_in is) (size_of (head_in is).store) (size_of (head_in is).store) kind.sign →
        refused_at o < 2 ^ 24 → Behind kind (refused is o f)
    refused_behind is rest o f d fits soon =
        let clock = (run_arrivals (plan_in is) kind (arrivals_in is)).switch.clock in
        let told : clock ≡ last_tick (arrivals_in is) = arrivals_clock (plan_in is) kind (arrivals_in is) d.may_come in
        let early = d.early bytes in
        let there = at_moment is rest d fits (refused_at o - clock) (omega arith) (run_of kind (refused is o f)) refl in
        record { follows_law = there.0; accounted = there.1; comes_to_end = tt }

  -- whichever kind the head names
  module _ (o : Outcome) (behind : (K : Type 0) (kind : Kind K) → ((kept : K) → PicksTied (kind.answer kept)) → kind.sign ≡ sign_of (head_in (items_in o)).store → Behind kind o) where
    each_kind : (store : StoreKind) → (head_in (items_in o)).store ≡ store → (rule : RuleKind) → of_kind (λ K kind. Behind kind o) store rule
    each_kind store same Lowest = behind _ (lowest_kind (sign_of store)) (λ _. first_picks_tied (λ _. 0)) (ap sign_of (sym same))
    each_kind store same Turn = behind _ (turn_kind (sign_of store)) (λ turn. first_picks_tied (pointer_of turn)) (ap sign_of (sym same))
    each_kind store same Longest = behind _ (longest_kind (sign_of store)) (λ _. longest_picks_tied) (ap sign_of (sym same))

  -- the sign of the head's store fits it
  fits_head : (is : List Item) (rest : List ℕ) → Orderly file is rest → (sign : Sign) → sign ≡ sign_of (head_in is).store → SignFits (plan_in is) (size_of (head_in is).store) (size_of (head_in is).store) sign
  fits_head is rest d sign same =
      let M = size_of (head_in is).store in
      subst (λ (s : Sign). SignFits (plan_in is) M M s) (sym same) (sign_fits (plan_in is) d.fits.bookable (head_in is).store)

pub listings_follow_law : ListingsFollowLaw
listings_follow_law file bytes o (completed {is = is} r) =
    let d = orderly file r in
    each_kind file bytes (complete (end ∷ is))
    (λ K kind fair same. whole_behind file bytes kind fair (end ∷ is) [] d (fits_head file bytes (end ∷ is) [] d kind.sign same))
    (head_in is).store refl (head_in is).rule
listings_follow_law file bytes o (stopped {is = is} {rest = rest} {o = item} {f = f} r goes e) =
    let d = orderly file r in
    each_kind file bytes (refused is item f)
    (λ K kind fair same. refused_behind file bytes kind fair is rest item f d (fits_head file bytes is rest d kind.sign same) (refused_early file bytes is rest item f r e))
    (head_in is).store refl (head_in is).rule
