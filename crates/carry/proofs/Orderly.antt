-- What the items that are read of a run file have in common: a plan that can be booked, and arrivals that may come. Assumes
-- nothing.
use Rattle.std.proofs.Common.{◌≡◌, ℕ, ◌+◌, ◌*◌, ◌^◌, ◌<◌, ◌≤◌, Bool, true, false, cond, ◌&&◌, ◌||◌, ltb, ◌⊎◌, List, [], ◌∷◌, length, Some, None, Ok, Option, sym, refl, ap, ◌∙◌, subst, inr, ⊎_elim, arith}
use Rattle.std.proofs.lemmas.Bool.{ltb-false}
use Rattle.std.specs.Option.{option_map}
use Rattle.grid.specs.Flows.{with_flow}
use Rattle.grid.proofs.Sums.{sum_zero}
use Rattle.plan.specs.Table.{row_sum, column_sum}
use Rattle.plan.specs.Refusals.{outside, size_refusal, share_refusal, arrive_refusal}
use Rattle.plan.specs.declared.fault.SizeFault.TheVariants as size
use Rattle.plan.specs.declared.fault.ShareFault.TheVariants as fault
use Rattle.plan.proofs.Changed.{row_changed, column_changed}
use Rattle.law.specs.Step.{Plan}
use Rattle.law.specs.Promises.{Bookable}
use Rattle.replay.specs.Replay.{Arrival, last_tick, MayCome}
use Rattle.runfile.specs.Records.{fault_at, too_long}
use Rattle.runfile.specs.declared.fault.Cause.TheVariants.{Read}
use Rattle.runfile.specs.declared.fault.ReadFault.TheVariants.{TooLong}
use Rattle.runfile.specs.Order.{Item, head, share, seal, arrival, end, Phase, Opening, Booking, Running, Ended, phase_after, next_item}
use Rattle.runfile.specs.File.{phase_of, Reads, opened, more, AreBytes}
use Rattle.runfile.specs.declared.body.Head.{Head}
use Rattle.runfile.specs.declared.body.Share.{Share}
use Rattle.runfile.specs.declared.body.Arrival as body
use Rattle.runfile.specs.declared.fault.Cause.{Cause}
use Rattle.runfile.proofs.Stand.{MayStand, next_stands, arrival_read}
use Rattle.runfile.proofs.Whole.{answered, answer_grants, put_together}
use Rattle.runfile.proofs.Parts.{shorter}
use Rattle.carry.specs.Items.{head_in, weights, plan_in, arrivals_in, refuses}

some≢none : {X : Type 0} {x : X} → Some x ≡ None → ⊥
some≢none e = let z : ◌≡◌ {A = ℕ} 0 1 = cc in omega arith

-- a cause that is not given
no_cause : {X : Type 0} (f : X → Cause) (o : Option X) → option_map f o ≡ None → o ≡ None
no_cause f None e = refl
no_cause f (Some x) e = absurd (some≢none e)

-- a plan of the kit's size, whose rows and columns fit
pub record Fits (plan : Plan) : Type 0 where
  pub bookable : Bookable plan
  pub short : plan.longest ≤ 1500
  pub few_parts : plan.parts ≤ 10000

-- numbers that are not outside
module _ (low high n : ℕ) where
  within : (below above : Bool) → ltb n low ≡ below → ltb high n ≡ above → (below || above) ≡ false → (low ≤ n) × (n ≤ high)
  within true above b a e = absurd (let z : ◌≡◌ {A = ℕ} 0 1 = cc in omega arith)
  within false true b a e = absurd (let z : ◌≡◌ {A = ℕ} 0 1 = cc in omega arith)
  within false false b a e = (ltb-false n low b, ltb-false high n a)

  pub not_outside : outside low high n ≡ false → (low ≤ n) × (n ≤ high)
  not_outside e = within (ltb n low) (ltb high n) refl refl e

size_granted : (n l w : ℕ) → size_refusal n l w ≡ None → ((1 ≤ n) × (n ≤ 16)) × ((1 ≤ l) × (l ≤ 1500)) × ((1 ≤ w) × (w ≤ 10000))
size_granted n l w e = go (outside 1 16 n) (outside 1 1500 l) (outside 1 10000 w) refl refl refl e
  where
    go : (a b c : Bool) → outside 1 16 n ≡ a → outside 1 1500 l ≡ b → outside 1 10000 w ≡ c → cond a (Some size.Ports) (cond b (Some size.Longest) (cond c (Some size.Parts) None)) ≡ None →
        ((1 ≤ n) × (n ≤ 16)) × ((1 ≤ l) × (l ≤ 1500)) × ((1 ≤ w) × (w ≤ 10000))
    go true b c p q r e = absurd (some≢none e)
    go false true c p q r e = absurd (some≢none e)
    go false false true p q r e = absurd (some≢none e)
    go false false false p q r e = (not_outside 1 16 n p, not_outside 1 1500 l q, not_outside 1 10000 w r)

share_granted : (n W : ℕ) (weight : ℕ → ℕ → ℕ) (i j w : ℕ) → share_refusal n W weight i j w ≡ None →
    (row_sum n (with_flow weight i j w) i ≤ W) × (column_sum n (with_flow weight i j w) j ≤ W)
share_granted n W weight i j w e =
    go (ltb i n && ltb j n) (ltb W w) (ltb W (row_sum n (with_flow weight i j w) i)) (ltb W (column_sum n (with_flow weight i j w) j)) refl refl e
  where
    go : (a b c d : Bool) → ltb W (row_sum n (with_flow weight i j w) i) ≡ c → ltb W (column_sum n (with_flow weight i j w) j) ≡ d →
        cond a (cond b (Some fault.Weight) (cond c (Some fault.Row) (cond d (Some fault.Column) None))) (Some fault.Port) ≡ None →
        (row_sum n (with_flow weight i j w) i ≤ W) × (column_sum n (with_flow weight i j w) j ≤ W)
    go false b c d p q e = absurd (some≢none e)
    go true true c d p q e = absurd (some≢none e)
    go true false true d p q e = absurd (some≢none e)
    go true false false true p q e = absurd (some≢none e)
    go true false false false p q e = (ltb-false W (row_sum n (with_flow weight i j w) i) p, ltb-false W (column_sum n (with_flow weight i j w) j) q)

-- the items read, and the bytes left behind them
pub record Orderly (file : List ℕ) (is : List Item) (rest : List ℕ) : Type 0 where
  pub fits : Fits (plan_in is)
  pub may_come : MayCome (plan_in is) (arrivals_in is)
  pub before_seal : (phase_of is ≡ Opening) ⊎ (phase_of is ≡ Booking) → arrivals_in is ≡ []
  pub clock : (t : ℕ) → phase_of is ≡ Running t → last_tick (arrivals_in is) ≡ t
  pub few : length (arrivals_in is) ≤ 8192
  pub room : 8 * length (arrivals_in is) + length rest ≤ length file
  pub early : AreBytes file → last_tick (arrivals_in is) < 2 ^ 24

not_too_long : (file : List ℕ) → too_long file ≡ None → length file ≤ 65536
not_too_long file e = go (ltb 65536 (length file)) refl e
  where
    go : (long : Bool) → ltb 65536 (length file) ≡ long → cond long (Some (fault_at 65536 (Read TooLong))) None ≡ None → length file ≤ 65536
    go true l e = absurd (some≢none e)
    go false l e = ltb-false 65536 (length file) l

begun : (i : Item) → phase_after i ≡ Opening → ⊥
begun (head h) e = let z : ◌≡◌ {A = ℕ} 0 1 = cc in omega arith
begun (share s) e = let z : ◌≡◌ {A = ℕ} 0 1 = cc in omega arith
begun seal e = let z : ◌≡◌ {A = ℕ} 0 1 = cc in omega arith
begun (arrival a) e = let z : ◌≡◌ {A = ℕ} 0 1 = cc in omega arith
begun end e = let z : ◌≡◌ {A = ℕ} 0 1 = cc in omega arith

none_read : (is : List Item) → phase_of is ≡ Opening → is ≡ []
none_read [] e = refl
none_read (i ∷ is) e = absurd (begun i e)

not_running : (t : ℕ) → Booking ≡ Running t → ⊥
not_running t e = let z : ◌≡◌ {A = ℕ} 0 1 = cc in omega arith

-- the plan of a head alone
empty_fits : (h : Head) → refuses [] (head h) ≡ None → Fits (plan_in (head h ∷ []))
empty_fits h e =
    let sizes = size_granted h.ports h.longest h.parts (no_cause _ (size_refusal h.ports h.longest h.parts) e) in
    record {
      bookable =
          record {
            few_ports = sizes.0.1;
            some_bytes = sizes.1.0;
            rows = λ i hi. omega (arith, sum_zero h.ports);
            columns = λ j hj. omega (arith, sum_zero h.ports);
          };
      short = sizes.1.1;
      few_parts = sizes.2.1;
    }

-- the plan with one share more
share_fits : (is : List Item) (s : Share) → refuses is (share s) ≡ None → Fits (plan_in is) → Fits (plan_in (share s ∷ is))
share_fits is s e f =
    let n = (head_in is).ports in
    let W = (head_in is).parts in
    let sums = share_granted n W (weights is) s.input s.output s.weight (no_cause _ (share_refusal n W (weights is) s.input s.output s.weight) e) in
    record {
      bookable =
          record {
            few_ports = f.bookable.few_ports;
            some_bytes = f.bookable.some_bytes;
            rows = row_changed n W s.input s.output s.weight (weights is) f.bookable.rows sums.0;
            columns = column_changed n W s.input s.output s.weight (weights is) f.bookable.columns sums.1;
          };
      short = f.short;
      few_parts = f.few_parts;
    }

module _ (file : List ℕ) (is : List Item) (rest left : List ℕ) (d : Orderly file is rest) where
  after_head : (h : Head) → phase_of is ≡ Opening → refuses is (head h) ≡ None → length left < length rest → Orderly file (head h ∷ is) left
  after_head h opening yes-head less =
      let none = none_read is opening in
      let empty = ap arrivals_in none in
      let fits : Fits (plan_in (head h ∷ is)) =
      subst (λ (js : List Item). Fits (plan_in (head h ∷ js))) (sym none) (empty_fits h (subst (λ (js : List Item). refuses js (head h) ≡ None) none yes-head)) in
      record {
        fits = fits;
        may_come = subst (λ (packets : List Arrival). MayCome (plan_in (head h ∷ is)) packets) (sym empty) tt;
        before_seal = λ _. empty;
        clock = λ t e. absurd (not_running t e);
        few = d.few;
        room = omega (arith, d.room);
        early = d.early;
      }

  after_share : (s : Share) → phase_of is ≡ Booking → refuses is (share s) ≡ None → length left < length rest → Orderly file (share s ∷ is) left
  after_share s booking yes-share less =
      let empty = d.before_seal (inr booking) in
      record {
        fits = share_fits is s yes-share d.fits;
        may_come = subst (λ (packets : List Arrival). MayCome (plan_in (share s ∷ is)) packets) (sym empty) tt;
        before_seal = λ _. empty;
        clock = λ t e. absurd (not_running t e);
        few = d.few;
        room = omega (arith, d.room);
        early = d.early;
      }

  after_seal : phase_of is ≡ Booking → length left < length rest → Orderly file (seal ∷ is) left
  after_seal booking less =
      let empty = d.before_seal (inr booking) in
      record {
        fits = d.fits;
        may_come = d.may_come;
        before_seal = λ _. empty;
        clock = λ t e. let same : 0 ≡ t = cc in ap last_tick empty ∙ same;
        few = d.few;
        room = omega (arith, d.room);
        early = d.early;
      }

  after_arrival : (a : body.Arrival) (clock : ℕ) → phase_of is ≡ Running clock → clock ≤ a.tick → refuses is (arrival a) ≡ None →
      length left + 8 ≡ length rest → (AreBytes file → a.tick < 2 ^ 24) → length file ≤ 65536 → Orderly file (arrival a ∷ is) left
  after_arrival a clock running late yes-arrival less early short =
      let plan = plan_in is in
      let lawful = no_cause _ (arrive_refusal plan.ports plan.longest plan.weight a.input a.output a.length) yes-arrival in
      record {
        fits = d.fits;
        may_come = (lawful, omega (arith, d.clock clock running), d.may_come);
        before_seal = λ early-phase. ⊎_elim
            (λ (e : Running a.tick ≡ Opening). absurd (let z : ◌≡◌ {A = ℕ} 0 1 = cc in omega arith))
            (λ (e : Running a.tick ≡ Booking). absurd (not_running a.tick (sym e)))
            early-phase;
        clock = λ t e. cc;
        few = omega (arith, d.room);
        room = omega (arith, d.room);
        early = early;
      }

  after_end : (clock : ℕ) → phase_of is ≡ Running clock → length left < length rest → Orderly file (end ∷ is) left
  after_end clock running less =
      record {
        fits = d.fits;
        may_come = d.may_come;
        before_seal = λ early-phase. ⊎_elim
            (λ (e : Ended ≡ Opening). absurd (let z : ◌≡◌ {A = ℕ} 0 1 = cc in omega arith))
            (λ (e : Ended ≡ Booking). absurd (let z : ◌≡◌ {A = ℕ} 0 1 = cc in omega arith))
            early-phase;
        clock = λ t e. absurd (let z : ◌≡◌ {A = ℕ} 0 1 = cc in omega arith);
        few = d.few;
        room = omega (arith, d.room);
        early = d.early;
      }

  after_item : (i : Item) → next_item (length file) (phase_of is) rest ≡ Ok (i, left) → MayStand (phase_of is) i → refuses is i ≡ None → (AreBytes file → AreBytes rest) → length file ≤ 65536 → Orderly file (i ∷ is) left
  after_item (head h) next stand yes-item all short = after_head h stand yes-item (shorter (length file) (phase_of is) rest (head h) left next)
  after_item (share s) next stand yes-item all short = after_share s stand yes-item (shorter (length file) (phase_of is) rest (share s) left next)
  after_item seal next stand yes-item all short = after_seal stand (shorter (length file) (phase_of is) rest seal left next)
  after_item (arrival a) next stand yes-item all short =
      let running = ap (λ (p : Phase). next_item (length file) p rest) (sym stand.1) ∙ next in
      let read = arrival_read (length file) stand.0 rest a left running in
      after_arrival a stand.0 stand.1 stand.2 yes-item read.0 (λ bytes. read.1 (all bytes)) short
  after_item end next stand yes-item all short = after_end stand.0 stand.1 (shorter (length file) (phase_of is) rest end left next)

pub orderly : (file : List ℕ) {is : List Item} {rest : List ℕ} → Reads refuses file is rest → Orderly file is rest
orderly file opened =
    record {
      fits = record { bookable = record { few_ports = omega arith; some_bytes = omega arith; rows = λ i h. omega arith; columns = λ j h. omega arith }; short = omega arith; few_parts = omega arith };
      may_come = tt;
      before_seal = λ _. refl;
      clock = λ t e. absurd (let z : ◌≡◌ {A = ℕ} 0 1 = cc in omega arith);
      few = omega arith;
      room = omega arith;
      early = λ _. omega arith;
    }
orderly file (more {is} {i} {rest} {left} r e) =
    let next = answered refuses file is rest i left e in
    let granted = answer_grants refuses file is rest i left e in
    after_item file is rest left (orderly file r) i next (next_stands (length file) (phase_of is) rest i left next)
    granted.1 (λ bytes. (put_together refuses file bytes r).1) (not_too_long file granted.0)
