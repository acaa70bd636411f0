-- A tie rule's answers are starts of a step.
use Rattle.std.proofs.lemmas.Option.{none-some}
use Rattle.std.proofs.Common.{◌≡◌, ℕ, zero, suc, ◌+◌, ◌*◌, ◌<◌, ◌≤◌, Bool, true, false, cond, ltb, ◌⊎◌, List, [], ◌∷◌, map, length, get_or, drop, Some, None, Option, sym, refl, ap, ◌∙◌, subst, inl, inr, ⊎_elim, arith}
use Rattle.std.proofs.lemmas.List.FromFn.{get_or-map-range_with_len, length-map-range_with_len}
use Rattle.std.proofs.lemmas.List.{get_or_past, length-drop}
use Rattle.std.proofs.lemmas.Bool.{lt-ltb, le-ltb, ltb-true, cond-true, cond-false, cases_Bool, cases_lt, both_ways}
use Rattle.std.specs.List.{range_with_len, AllByRecursion}
use Rattle.timing.proofs.Firsts.{tied_decides}
use Rattle.timing.specs.Fluid.{Accepted}
use Rattle.timing.specs.Marks.{First, tied}
use Rattle.law.specs.Queues.{Queued, finish, stamps}
use Rattle.timing.specs.Order.{fraction_negatively_transitive}
use Rattle.law.specs.Step.{VirtualFinish, sooner, mark_of, Chosen, LineStarts, input_mark, output_mark}
use Rattle.tie.specs.PicksTied.{PicksTied}
use Rattle.tie.specs.declared.question.Question.{Question}
use Rattle.law.specs.Rules.{Rule, AnswersTied, asked, of_16, input_question, output_question, RulesMakeSteps, answers_in_order, AskingMakesSteps}
use Rattle.law.proofs.PromisesKept.{moment}
use Rattle.law.proofs.StampsOfFlow.{stamps_length}
use Rattle.law.proofs.Lists.{all_map_counting}

-- a mark is of an open flow
abbrev pub OpenMark : Option VirtualFinish → Type 0
OpenMark None = Unit {0}
OpenMark (Some d) = 0 < d.weight

not_sooner : (a b : VirtualFinish) → sooner a b ≡ true → sooner b a ≡ false
not_sooner a b e = le-ltb _ _ (omega (arith, ltb-true (a.scaled * b.weight) (b.scaled * a.weight) e))

sooner_negatively_transitive : (x y z : VirtualFinish) → 0 < y.weight → sooner x y ≡ false → sooner y z ≡ false → sooner x z ≡ false
sooner_negatively_transitive x y z k p q = fraction_negatively_transitive x.scaled x.weight y.scaled y.weight z.scaled z.weight k p q

-- a row of marks has one that no other precedes, or no mark at all
Empty : List (Option VirtualFinish) → Type 0
Empty row = (k : ℕ) → get_or row k None ≡ None

some_first : (row : List (Option VirtualFinish)) → AllByRecursion OpenMark row → Empty row ⊎ ((k : ℕ) × First sooner row k × OpenMark (get_or row k None))
unfolding Empty
some_first [] all = inl (λ k. refl)
some_first (None ∷ row) all =
    ⊎_elim
    (λ (none : Empty row). inl (λ k. after none k))
    (λ found. inr (suc found.0, (found.1.0, found.1.1, behind found.1.0 found.1.2), found.2))
    (some_first row all.1)
  where
    after : Empty row → (k : ℕ) → get_or (None ∷ row) k None ≡ None
    after none zero = refl
    after none (suc k) = none k

    behind : (m : VirtualFinish) → ((j : ℕ) (x : VirtualFinish) → get_or row j None ≡ Some x → sooner x m ≡ false) → (j : ℕ) (x : VirtualFinish) → get_or (None ∷ row) j None ≡ Some x → sooner x m ≡ false
    behind m h zero x e = absurd (none-some _ e)
    behind m h (suc j) x e = h j x e
some_first (Some d ∷ row) all =
    ⊎_elim
    (λ (none : Empty row). inr (zero, (d, refl, alone none), all.0))
    (λ found. choose found.0 found.1.0 found.1.1 found.1.2 found.2)
    (some_first row all.1)
  where
    itself : sooner d d ≡ false
    itself = le-ltb (d.scaled * d.weight) (d.scaled * d.weight) (omega arith)

    here : (x : VirtualFinish) → ◌≡◌ {A = Option VirtualFinish} (Some d) (Some x) → d ≡ x
    here x e = cc

    alone : Empty row → (j : ℕ) (x : VirtualFinish) → get_or (Some d ∷ row) j None ≡ Some x → sooner x d ≡ false
    alone none zero x e = ap (λ (v : VirtualFinish). sooner v d) (sym (here x e)) ∙ itself
    alone none (suc j) x e = absurd (none-some _ (sym (none j) ∙ e))

    choose : (k : ℕ) (m : VirtualFinish) → get_or row k None ≡ Some m → ((j : ℕ) (x : VirtualFinish) → get_or row j None ≡ Some x → sooner x m ≡ false) → OpenMark (get_or row k None) →
        Empty (Some d ∷ row) ⊎ ((i : ℕ) × First sooner (Some d ∷ row) i × OpenMark (get_or (Some d ∷ row) i None))
    choose k m is first is_open =
        ⊎_elim
        (λ (yes-sooner : sooner m d ≡ true). inr (suc k, (m, is, keep yes-sooner), is_open))
        (λ (no-sooner : sooner m d ≡ false). inr (zero, (d, refl, take no-sooner), all.0))
        (cases_Bool (sooner m d))
      where
        keep : sooner m d ≡ true → (j : ℕ) (x : VirtualFinish) → get_or (Some d ∷ row) j None ≡ Some x → sooner x m ≡ false
        keep yes-sooner zero x e = ap (λ (v : VirtualFinish). sooner v m) (sym (here x e)) ∙ not_sooner m d yes-sooner
        keep yes-sooner (suc j) x e = first j x e

        take : sooner m d ≡ false → (j : ℕ) (x : VirtualFinish) → get_or (Some d ∷ row) j None ≡ Some x → sooner x d ≡ false
        take no-sooner zero x e = ap (λ (v : VirtualFinish). sooner v d) (sym (here x e)) ∙ itself
        take no-sooner (suc j) x e = sooner_negatively_transitive x m d (subst OpenMark is is_open) (first j x e) no-sooner

in_row : (row : List (Option VirtualFinish)) (k : ℕ) (m : VirtualFinish) → get_or row k None ≡ Some m → k < length row
in_row row k m e =
    ⊎_elim
    (λ (h : k < length row). h)
    (λ (h : length row ≤ k). absurd (none-some _ (sym (get_or_past row k None h) ∙ e)))
    (cases_lt k (length row))

-- whoever picks tied positions answers with them
pub tied_answers : (rule : Rule) → PicksTied rule → AnswersTied rule
tied_answers rule picks-tied =
    record {
      picks = λ code question k e. (picks-tied.picks code question k e).1;
      none = λ code question e. (picks-tied.none code question).0 e;
    }

module _ (rule : Rule) (answers-tied : AnswersTied rule) where
  -- what the rule answers is chosen
  pub chosen : (code : ℕ) (row : List (Option VirtualFinish)) (question : Question) → question.tied ≡ tied sooner row → length row ≤ 16 → AllByRecursion OpenMark row → (o : Option ℕ) → rule code question ≡ o → Chosen row o
  unfolding Empty
  chosen code row question same few all None e =
      ⊎_elim
      (λ (none : Empty row). none)
      (λ found. absurd (both_ways _ (answers-tied.none code question e found.0 (omega (arith, in_row row found.0 found.1.0 found.1.1))) (ap (λ ties. get_or ties found.0 false) same ∙ (tied_decides sooner row found.0).1 found.1)))
      (some_first row all)
  chosen code row question same few all (Some k) e = (tied_decides sooner row k).0 (ap (λ ties. get_or ties k false) (sym same) ∙ answers-tied.picks code question k e)

  line_asks : (code : ℕ) (busy : Bool) (row : List (Option VirtualFinish)) (question : Question) → question.tied ≡ tied sooner row → length row ≤ 16 → AllByRecursion OpenMark row → LineStarts busy row (asked rule code busy question)
  line_asks code true row question same few all = refl
  line_asks code false row question same few all = chosen code row question same few all (rule code question) refl

-- a flow that has a packet is open
pub open_mark : (W w k : ℕ) (ready : Queued → Bool) (ps : List Accepted) → (0 < length ps → 0 < w) → OpenMark (mark_of W w ready (drop k (stamps W w 0 ps)))
open_mark W w k ready ps is_open = go (drop k (stamps W w 0 ps)) (omega (arith, length-drop k (stamps W w 0 ps), stamps_length W w ps 0))
  where
    go : (qs : List Queued) → length qs ≤ length ps → OpenMark (mark_of W w ready qs)
    go [] l = tt
    go (a ∷ qs) l =
        ⊎_elim
        (λ (t : ready a ≡ true). subst OpenMark (sym (cond-true (ready a) (Some record { scaled = finish W a; weight = w }) None t)) (is_open (omega arith)))
        (λ (t : ready a ≡ false). subst OpenMark (sym (cond-false (ready a) (Some record { scaled = finish W a; weight = w }) None t)) tt)
        (cases_Bool (ready a))

-- a choice looks at a row entry by entry
pub chosen_alike : (row other : List (Option VirtualFinish)) → ((k : ℕ) → get_or row k None ≡ get_or other k None) → (o : Option ℕ) → Chosen row o → Chosen other o
chosen_alike row other same None h = λ k. sym (same k) ∙ h k
chosen_alike row other same (Some k) h = (h.0, sym (same k) ∙ h.1, λ j x e. h.2 j x (same j ∙ e))

line_alike : (busy : Bool) (row other : List (Option VirtualFinish)) → ((k : ℕ) → get_or row k None ≡ get_or other k None) → (o : Option ℕ) → LineStarts busy row o → LineStarts busy other o
line_alike true row other same o h = h
line_alike false row other same o h = chosen_alike row other same o h

-- a row of 16, position by position
pub of_16_at : {X : Type 0} (d : X) (n : ℕ) (x : ℕ → X) → n ≤ 16 → (k : ℕ) → get_or (of_16 d n x) k d ≡ get_or (map x (range_with_len 0 n)) k d
of_16_at d n x few k =
    let y : ℕ → _ = λ m. cond (ltb m n) (x m) d in
    ⊎_elim
    (λ (h : k < n).
    get_or-map-range_with_len y 0 16 k k d (omega (arith, h, few)) (omega arith) ∙ cond-true (ltb k n) (x k) d (lt-ltb k n h) ∙ sym (get_or-map-range_with_len x 0 n k k d h (omega arith)))
    (λ (h : n ≤ k).
    ⊎_elim
    (λ (l : k < 16). get_or-map-range_with_len y 0 16 k k d l (omega arith) ∙ cond-false (ltb k n) (x k) d (le-ltb k n h))
    (λ (l : 16 ≤ k). get_or_past (map y (range_with_len 0 16)) k d (omega (arith, length-map-range_with_len y 0 16, l)))
    (cases_lt k 16)
    ∙ sym (get_or_past (map x (range_with_len 0 n)) k d (omega (arith, length-map-range_with_len x 0 n, h))))
    (cases_lt k n)

open_16 : (n : ℕ) (x : ℕ → Option VirtualFinish) → ((k : ℕ) → k < n → OpenMark (x k)) → AllByRecursion OpenMark (of_16 None n x)
open_16 n x h = all_map_counting OpenMark (λ k. cond (ltb k n) (x k) None) 16 None (λ k _. ⊎_elim (λ (l : k < n). subst OpenMark (sym (cond-true (ltb k n) (x k) None (lt-ltb k n l))) (h k l)) (λ (l : n ≤ k). subst OpenMark (sym (cond-false (ltb k n) (x k) None (le-ltb k n l))) tt) (cases_lt k n))

pub rules_make_steps : RulesMakeSteps
rules_make_steps plan M bookable log s run rule answers-tied =
    let n = plan.ports in
    let m = moment plan M bookable run in
    record {
      inputs = λ i hi.
          let row = of_16 None n (input_mark plan s i) in
          subst (LineStarts (ltb s.clock (s.crossing_until i)) (map (input_mark plan s i) (range_with_len 0 n)))
          (sym (cond-true (ltb i n) (asked rule i (ltb s.clock (s.crossing_until i)) (input_question plan s i)) None (lt-ltb i n hi)))
          (line_alike (ltb s.clock (s.crossing_until i)) row (map (input_mark plan s i) (range_with_len 0 n)) (of_16_at None n (input_mark plan s i) bookable.few_ports) _
          (line_asks rule answers-tied i (ltb s.clock (s.crossing_until i)) row (input_question plan s i) refl (omega (arith, length-map-range_with_len (λ k. cond (ltb k n) (input_mark plan s i k) None) 0 16))
          (open_16 n (input_mark plan s i) (λ j hj. open_mark plan.parts (plan.weight i j) (length (s.flow i j).crossings) _ (s.flow i j).accepted (m.flows i j hi hj).is_open))));
      outputs = λ j hj.
          let row = of_16 None n (output_mark plan s j) in
          subst (LineStarts (ltb s.clock (s.sending_until j)) (map (output_mark plan s j) (range_with_len 0 n)))
          (sym (cond-true (ltb j n) (asked rule (n + j) (ltb s.clock (s.sending_until j)) (output_question plan s j)) None (lt-ltb j n hj)))
          (line_alike (ltb s.clock (s.sending_until j)) row (map (output_mark plan s j) (range_with_len 0 n)) (of_16_at None n (output_mark plan s j) bookable.few_ports) _
          (line_asks rule answers-tied (n + j) (ltb s.clock (s.sending_until j)) row (output_question plan s j) refl (omega (arith, length-map-range_with_len (λ k. cond (ltb k n) (output_mark plan s j k) None) 0 16))
          (open_16 n (output_mark plan s j) (λ i hi. open_mark plan.parts (plan.weight i j) (length (s.flow i j).sendings) _ (s.flow i j).accepted (m.flows i j hi hj).is_open))));
      no_input = λ i h. cond-false (ltb i n) _ None (le-ltb i n h);
      no_output = λ j h. cond-false (ltb j n) _ None (le-ltb j n h);
    }

pub asking_makes_steps : {K : Type 0} (answer : K → Rule) (told : K → ℕ → ℕ → K → Type 0) → ((k : K) → PicksTied (answer k)) → (first : K) → AskingMakesSteps answer told first
asking_makes_steps answer told picks-tied first plan M bookable log s run kept order =
    rules_make_steps plan M bookable log s run (answers_in_order answer told kept)
    record {
      picks = λ code question k e. ((picks-tied (kept code)).picks code question k e).1;
      none = λ code question e. ((picks-tied (kept code)).none code question).0 e;
    }
